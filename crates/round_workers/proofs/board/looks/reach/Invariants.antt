use Rattle.std.proofs.Common.{◌≡◌, ◌-◌, ◌≤◌}
use Rattle.round_workers.proofs.board.looks.reach.Given as goal

abbrev pub invariant-loop-stream : goal.invariant-loop-stream
invariant-loop-stream l = record {
  seed : l.stream.seed ≡ l.fn.stream.seed;
  within : l.stream.place ≤ l.place;
}

abbrev pub decreases-loop-stream : goal.decreases-loop-stream
decreases-loop-stream l = l.place - l.stream.place
