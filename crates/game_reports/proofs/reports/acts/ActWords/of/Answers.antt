-- the instruction is the one of the ant's state, and the answer was looked up before the turn
use Rattle.std.proofs.Common.{◌≡◌, Some, slice_get}
use Rattle.std.proofs.lemmas.Option.{get_or_from_slice_get}
use Rattle.ant_turn.specs.Minds.{mind_of, minds_of}
use Rattle.ant_turn.proofs.StandsLemmas.{StandsAt-at}
use Rattle.brain_read.specs.declared.instr.Instr.TheVariants.{Drop}
use Rattle.cell_world.specs.Grid.{world_of}
use Rattle.match_run.specs.Watch.{moment_of}
use Rattle.game_reports.proofs.ActText.{act-seen}
use Rattle.game_reports.proofs.reports.acts.ActWords.of.Goals as goal

pub is_met-requires-clause-stands : goal.is_met-requires-clause-stands
is_met-requires-clause-stands c = StandsAt-at (world_of c.args.world.now) c.args.standing.place c.args.standing.ant c.requires.valid c.requires.here

pub returns-clause-line : goal.returns-clause-line
returns-clause-line c =
    let it = c.args.standing in
    let s = c.args.stream.now in
    let minds = minds_of c.args.brains.now in
    let at : slice_get (mind_of minds it.ant.colour) it.ant.state ≡ Some c.at-instruction.result = rw (← c.of.ensures) c.at-instruction.ensures.instruction in
    act-seen minds s.seed c.args.round (moment_of (world_of c.args.world.now) s) it c.at-instruction.result c.is_met.result
    (get_or_from_slice_get (mind_of minds it.ant.colour) it.ant.state c.at-instruction.result (Drop 0) at) c.is_met.ensures.met
