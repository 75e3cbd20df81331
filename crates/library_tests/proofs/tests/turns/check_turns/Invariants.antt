use Rattle.cell_world.specs.Grid.{world_of}
use Rattle.ant_turn.specs.Minds.{Fits, minds_of}
use Rattle.library_tests.proofs.tests.turns.check_turns.Given as goal

abbrev pub invariant-loop-id : goal.invariant-loop-id
invariant-loop-id g l = Fits (world_of l.world) (minds_of l.brains)
