-- the look at a dead ant, at one that rests, and at one that acts
use Rattle.std.proofs.Common.{◌≡◌, ◌-◌, suc, sym, ◌∙◌, ap, arith}
use Rattle.cell_world.specs.declared.ant.Ant.{Ant}
use Rattle.cell_world.specs.declared.cell.Cell.{Cell}
use Rattle.cell_world.specs.Grid.{world_of}
use Rattle.cell_world.proofs.Places.{place_in-inside}
use Rattle.ant_turn.specs.Minds.{minds_of}
use Rattle.spec_record.specs.Inner.Stays.{blank_look, rested_look}
use Rattle.spec_record.proofs.LookLemmas.{look_of-dead, look_of-empty, look_of-rests}
use Rattle.spec_record.proofs.record.Look.renew.Goals as goal

pub returns-in_default-clause-look : goal.returns-in_default-clause-look
returns-in_default-clause-look c =
    let s = c.args.stream.now in
    (c.begin.ensures ∙ ap (blank_look c.args.id) c.place-guess.ensures)
    ∙ sym (look_of-dead (minds_of c.args.brains) s.seed (world_of c.args.base.now) s.place c.args.id (sym c.ant_place.ensures.place ∙ c.in_default.is))

pub cell-cell-requires : goal.cell-cell-requires
cell-cell-requires c = place_in-inside (world_of c.args.base.now) c.args.id c.in-Some.p (sym c.ant_place.ensures.place ∙ c.in-Some.is)

pub returns-in_default-ant-clause-look : goal.returns-in_default-ant-clause-look
returns-in_default-ant-clause-look c =
    let s = c.args.stream.now in
    (c.begin-in_default-ant.ensures ∙ ap (blank_look c.args.id) c.place-guess.ensures)
    ∙ sym (look_of-empty (minds_of c.args.brains) s.seed (world_of c.args.base.now) s.place c.args.id c.in-Some.p (sym c.ant_place.ensures.place ∙ c.in-Some.is) (ap (λ (cell : Cell). cell.ant) (sym c.cell-cell.ensures.content) ∙ c.in_default-ant.is))

pub returns-then-ant-gt0-clause-look : goal.returns-then-ant-gt0-clause-look
returns-then-ant-gt0-clause-look c =
    let s = c.args.stream.now in
    let w = world_of c.args.base.now in
    let p = c.in-Some.p in
    let ant = c.in-Some-ant.ant in
    let after : Ant = record ant { resting = ant.resting - 1 } in
    let tired : ant.resting ≡ suc (ant.resting - 1) = omega (arith, c.if-ant-gt0.true) in
    c.record_rest.ensures
    ∙ ap (λ n. rested_look c.args.id n p c.cell-cell.result after) c.place-guess.ensures
    ∙ ap (λ (cell : Cell). rested_look c.args.id s.place p cell after) c.cell-cell.ensures.content
    ∙ sym (look_of-rests (minds_of c.args.brains) s.seed w s.place c.args.id p ant (ant.resting - 1) (sym c.ant_place.ensures.place ∙ c.in-Some.is) (ap (λ (cell : Cell). cell.ant) (sym c.cell-cell.ensures.content) ∙ c.in-Some-ant.is) tired)
