-- a dead ant, one that rests and one that acts
use Rattle.std.proofs.Common.{◌≡◌, ◌≢◌, ◌≤◌, sym, ◌∙◌, ap, arith}
use Rattle.std.proofs.lemmas.Bool.{eqb-false, eqb-true}
use Rattle.cell_world.specs.Grid.{world_of}
use Rattle.cell_world.specs.declared.cell.Cell.{Cell}
use Rattle.cell_world.proofs.Places.{place_in-inside}
use Rattle.ant_turn.specs.Minds.{minds_of}
use Rattle.spec_record.specs.Guess.{ant_flips, is_flip}
use Rattle.spec_record.proofs.FlipGuesses.{flips-dead, flips-at, flips_now-ready, flips_now-rests}
use Rattle.spec_record.proofs.guess.at_flip.Goals as goal

pub returns-in_default : goal.returns-in_default
returns-in_default c = sym (flips-dead (minds_of c.args.brains) (world_of c.args.base.now) c.args.id (sym c.ant_place.ensures.place ∙ c.in_default.is))

pub cell-cell-requires : goal.cell-cell-requires
cell-cell-requires c = place_in-inside (world_of c.args.base.now) c.args.id c.in-Some.p (sym c.ant_place.ensures.place ∙ c.in-Some.is)

pub returns-in_default-ant : goal.returns-in_default-ant
returns-in_default-ant c =
    let minds = minds_of c.args.brains in
    sym (flips-at minds (world_of c.args.base.now) c.args.id c.in-Some.p (sym c.ant_place.ensures.place ∙ c.in-Some.is) ∙ ap (λ (cell : Cell). ant_flips minds cell.ant) (sym c.cell-cell.ensures.content) ∙ ap (ant_flips minds) c.in_default-ant.is)

pub returns-then-acts : goal.returns-then-acts
returns-then-acts c =
    let minds = minds_of c.args.brains in
    let ant = c.in-Some-ant.ant in
    let here = flips-at minds (world_of c.args.base.now) c.args.id c.in-Some.p (sym c.ant_place.ensures.place ∙ c.in-Some.is) ∙ ap (λ (cell : Cell). ant_flips minds cell.ant) (sym c.cell-cell.ensures.content) ∙ ap (ant_flips minds) c.in-Some-ant.is in
    let ready : ant.resting ≡ 0 = eqb-true ant.resting 0 (sym c.acts.ensures ∙ c.if-acts.true) in
    c.is_flip.ensures ∙ ap is_flip c.instruction.ensures.instruction ∙ sym (here ∙ flips_now-ready ant.resting minds ant ready)

pub returns-else-acts : goal.returns-else-acts
returns-else-acts c =
    let minds = minds_of c.args.brains in
    let ant = c.in-Some-ant.ant in
    let here = flips-at minds (world_of c.args.base.now) c.args.id c.in-Some.p (sym c.ant_place.ensures.place ∙ c.in-Some.is) ∙ ap (λ (cell : Cell). ant_flips minds cell.ant) (sym c.cell-cell.ensures.content) ∙ ap (ant_flips minds) c.in-Some-ant.is in
    let other : ant.resting ≢ 0 = eqb-false ant.resting 0 (sym c.acts.ensures ∙ c.if-acts.false) in
    let tired : 1 ≤ ant.resting = omega (arith, other) in
    c.if-acts.false ∙ sym (here ∙ flips_now-rests ant.resting minds ant tired)
