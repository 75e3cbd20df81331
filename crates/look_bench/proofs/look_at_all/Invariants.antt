-- the stream is at the guess of the next turn
use Rattle.std.proofs.Common.{◌≡◌, ◌≤◌}
use Rattle.cell_world.specs.Grid.{world_of}
use Rattle.ant_turn.specs.Minds.{minds_of}
use Rattle.spec_record.specs.Guess.{guess}
use Rattle.look_bench.proofs.look_at_all.Given as goal

abbrev pub invariant-loop-id : goal.invariant-loop-id
invariant-loop-id l = record {
  guessed : l.stream.place ≡ guess (minds_of l.brains) (world_of l.world) 0 0 l.id;
  small : l.stream.place ≤ l.id;
}
