use Rattle.std.proofs.Common.{◌≡◌, ◌∙◌, ◌∷◌, [], Some, slice_get, sym, ap}
use Rattle.ant_turn.specs.Minds.{mind_of, minds_of}
use Rattle.ant_turn.proofs.StandsLemmas.{StandsAt-at}
use Rattle.cell_world.specs.Grid.{world_of}
use Rattle.match_run.specs.Watch.{moment_of}
use Rattle.game_reports.specs.declared.executed.Executed.{Executed}
use Rattle.game_reports.proofs.ExecutedLemmas.{executed-acts}
use Rattle.game_reports.proofs.executed.executed_by.Goals as goal

pub is_met-requires-clause-stands : goal.is_met-requires-clause-stands
is_met-requires-clause-stands c = StandsAt-at (world_of c.args.world.now) c.args.standing.place c.args.standing.ant c.requires.valid c.requires.here

pub returns-clause-executed : goal.returns-clause-executed
returns-clause-executed c =
    let it = c.args.standing in
    let s = c.args.stream.now in
    let at : slice_get (mind_of (minds_of c.args.brains.now) it.ant.colour) it.ant.state ≡ Some c.at-instruction.result = rw (← c.of.ensures) c.at-instruction.ensures.instruction in
    executed-acts (minds_of c.args.brains.now) s.seed (moment_of (world_of c.args.world.now) s) it.ant.id it.place it.ant c.at-instruction.result c.requires.found c.requires.here c.requires.up at
    ∙ ap (λ b. let e : Executed = record { colour = it.ant.colour; state = it.ant.state; met = b } in e ∷ []) (sym c.is_met.ensures.met)
