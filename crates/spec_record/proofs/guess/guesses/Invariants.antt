-- the guesses so far are listed, and the next is known
use Rattle.std.proofs.Common.{◌≡◌, ◌+◌, ◌-◌, ◌≤◌, ◌++◌}
use Rattle.cell_world.specs.Grid.{world_of}
use Rattle.ant_turn.specs.Minds.{minds_of}
use Rattle.spec_record.specs.Guess.{guess, guesses_of}
use Rattle.spec_record.proofs.guess.guesses.Given as goal

abbrev pub invariant-loop-id : goal.invariant-loop-id
invariant-loop-id l =
    let minds = minds_of l.brains in
    let w = world_of l.base in
    record {
      listed : l.all.items ++ guesses_of minds w l.place l.from l.id (l.to - l.id) ≡ guesses_of minds w l.place l.from l.from (l.to - l.from);
      guessed : l.next ≡ guess minds w l.place l.from l.id;
      small : l.next ≤ l.place + (l.id - l.from);
    }
