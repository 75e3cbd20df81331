-- a quiet turn isn't reported
use Rattle.std.proofs.Common.{◌≡◌, ◌∙◌, ◌&&◌, ℕ, List, [], Bool, Some, slice_get, subst, sym, ap, append-nil, true, false}
use Rattle.std.specs.List.{flat_map}
use Rattle.std.proofs.lemmas.Option.{get_or_from_slice_get}
use Rattle.ant_base.specs.Sink.{Pushed, PushedAll}
use Rattle.ant_base.proofs.Pushes.{all_of_nothing}
use Rattle.ant_turn.specs.Minds.{mind_of, minds_of}
use Rattle.brain_read.specs.declared.instr.Instr.{Instr}
use Rattle.brain_read.specs.declared.instr.Instr.TheVariants.{Drop}
use Rattle.cell_world.specs.Grid.{world_of}
use Rattle.match_run.specs.Seen.{Seen, seen_here}
use Rattle.match_run.specs.Watch.{moment_of}
use Rattle.match_run.proofs.SeenLemmas.{seen-acts}
use Rattle.game_reports.specs.Events.{event_lines}
use Rattle.game_reports.specs.Inner.Broken.{broken}
use Rattle.game_reports.specs.Inner.Chunks.{is_quiet, moves_food}
use Rattle.game_reports.proofs.EventRests.{found-up, lines-here, lines-quiet}
use Rattle.game_reports.proofs.EventText.{lines-fed, lines-plain, lines-still, quiet-still}
use Rattle.game_reports.proofs.reports.events.EventReportReport.tell.Goals as goal

pub instruction-instruction-requires : goal.instruction-instruction-requires
instruction-instruction-requires g c = rw c.of.ensures (c.requires.fit.below c.args.standing.place c.args.standing.ant c.requires.here)

pub returns-then-is_quiet-clause-told : goal.returns-then-is_quiet-clause-told
returns-then-is_quiet-clause-told g c =
    let minds = minds_of c.args.brains.now in
    let s = c.args.stream.now in
    let it = c.args.standing in
    let m = moment_of (world_of c.args.ground.now) s in
    let food : Bool = c.args.self.now.food in
    let seen : Seen = seen_here minds s.seed c.args.round m it in
    let at : slice_get (mind_of minds it.ant.colour) it.ant.state ≡ Some c.instruction-instruction.result.now = rw (← c.of.ensures) c.instruction-instruction.ensures.instruction in
    let is : seen.instruction ≡ c.instruction-instruction.result.now = get_or_from_slice_get (mind_of minds it.ant.colour) it.ant.state c.instruction-instruction.result.now (Drop 0) at in
    let quiet : is_quiet c.instruction-instruction.result.now ≡ true = sym c.is_quiet.ensures ∙ c.if-is_quiet.true in
    let none : event_lines food seen ≡ [] =
    lines-still food seen (quiet-still seen.instruction (ap is_quiet is ∙ quiet))
    ∙ sym (lines-here minds s.seed c.args.round m it c.requires.found c.requires.here c.requires.up)
    ∙ lines-quiet minds s.seed c.args.round m it.ant.id it.place it.ant c.instruction-instruction.result.now c.requires.found c.requires.here c.requires.up at quiet in
    subst (λ (lines : List (List ℕ)). PushedAll (g.K.Sink.state c.args.sink.now) (g.K.Sink.state c.args.sink.now) (broken lines))
    (sym none)
    (all_of_nothing (g.K.Sink.state c.args.sink.now))

pub push_deed-requires-clause-id : goal.push_deed-requires-clause-id
push_deed-requires-clause-id g c = c.requires.valid.known c.args.standing.place c.args.standing.ant c.requires.here

pub push_deed-requires-clause-up : goal.push_deed-requires-clause-up
push_deed-requires-clause-up g c = found-up (world_of c.args.ground.now) c.args.standing.place c.args.standing.ant c.requires.valid c.requires.here c.requires.up

pub push_carried-requires-clause-id : goal.push_carried-requires-clause-id
push_carried-requires-clause-id g c = c.requires.valid.known c.args.standing.place c.args.standing.ant c.requires.here

pub push_carried-requires-clause-up : goal.push_carried-requires-clause-up
push_carried-requires-clause-up g c = found-up (world_of c.args.ground.now) c.args.standing.place c.args.standing.ant c.requires.valid c.requires.here c.requires.up

pub returns-then-adds_food-clause-told : goal.returns-then-adds_food-clause-told
returns-then-adds_food-clause-told g c =
    let minds = minds_of c.args.brains.now in
    let s = c.args.stream.now in
    let it = c.args.standing in
    let m = moment_of (world_of c.args.ground.now) s in
    let food : Bool = c.args.self.now.food in
    let seen : Seen = seen_here minds s.seed c.args.round m it in
    let at : slice_get (mind_of minds it.ant.colour) it.ant.state ≡ Some c.instruction-instruction.result.now = rw (← c.of.ensures) c.instruction-instruction.ensures.instruction in
    let is : seen.instruction ≡ c.instruction-instruction.result.now = get_or_from_slice_get (mind_of minds it.ant.colour) it.ant.state c.instruction-instruction.result.now (Drop 0) at in
    subst (λ (lines : List (List ℕ)). Pushed (g.K.Sink.state c.args.sink.now) (g.K.Sink.state c.push_carried.new.sink) (broken lines) c.push_carried.result)
    (ap (λ (list : List Seen). flat_map (event_lines true) list) (seen-acts minds s.seed c.args.round m it c.requires.found c.requires.here c.requires.up)
    ∙ append-nil _
    ∙ sym (lines-fed food seen (ap (λ (i : Instr). moves_food i && food) is ∙ sym c.adds_food.ensures ∙ c.if-adds_food.true)))
    c.push_carried.ensures.text

pub returns-clause-told : goal.returns-clause-told
returns-clause-told g c =
    let minds = minds_of c.args.brains.now in
    let s = c.args.stream.now in
    let it = c.args.standing in
    let m = moment_of (world_of c.args.ground.now) s in
    let food : Bool = c.args.self.now.food in
    let seen : Seen = seen_here minds s.seed c.args.round m it in
    let at : slice_get (mind_of minds it.ant.colour) it.ant.state ≡ Some c.instruction-instruction.result.now = rw (← c.of.ensures) c.instruction-instruction.ensures.instruction in
    let is : seen.instruction ≡ c.instruction-instruction.result.now = get_or_from_slice_get (mind_of minds it.ant.colour) it.ant.state c.instruction-instruction.result.now (Drop 0) at in
    subst (λ (lines : List (List ℕ)). Pushed (g.K.Sink.state c.args.sink.now) (g.K.Sink.state c.push_deed.new.sink) (broken lines) c.push_deed.result)
    (ap (λ (list : List Seen). flat_map (event_lines false) list) (seen-acts minds s.seed c.args.round m it c.requires.found c.requires.here c.requires.up)
    ∙ append-nil _
    ∙ sym (lines-plain food seen (ap (λ (i : Instr). moves_food i && food) is ∙ sym c.adds_food.ensures ∙ c.if-adds_food.false)))
    c.push_deed.ensures.text
