-- the guess of the turn that is reached
use Rattle.std.proofs.Common.{◌≡◌, ◌+◌, ◌-◌, ◌≤◌}
use Rattle.cell_world.specs.Grid.{world_of}
use Rattle.ant_turn.specs.Minds.{minds_of}
use Rattle.spec_record.specs.Guess.{guess}
use Rattle.spec_record.proofs.guess.guess_at.Given as goal

abbrev pub invariant-loop-id : goal.invariant-loop-id
invariant-loop-id l = record {
  guessed : l.next ≡ guess (minds_of l.brains) (world_of l.base) l.place l.from l.id;
  small : l.next ≤ l.place + (l.id - l.from);
}
