use Rattle.std.proofs.Common.{◌+◌, ◌≤◌, All, length}
use Rattle.std.specs.Vec.{vec_capacity, vec_len}
use Rattle.round_workers.specs.Inner.BoardCrew.{IsManned}
use Rattle.round_workers.specs.BoardSeats.{IsSeatOf}
use Rattle.round_workers.proofs.board.crew.gather.Given as goal

abbrev pub invariant-loop-worker : goal.invariant-loop-worker
invariant-loop-worker l = record {
  manned : IsManned l.board l.first l.workers.items;
  room : vec_len l.idle + vec_len l.workers ≤ vec_capacity l.idle;
  seats : All (λ worker. IsSeatOf l.board worker.seat) l.workers.items;
}

abbrev pub decreases-loop-worker : goal.decreases-loop-worker
decreases-loop-worker l = length l.workers.items
