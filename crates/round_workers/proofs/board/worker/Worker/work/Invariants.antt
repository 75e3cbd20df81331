use Rattle.std.proofs.Common.{◌≡◌, ◌+◌, ◌-◌, ◌<◌, ◌≤◌, true, length}
use Rattle.std.specs.List.{AllByRecursion}
use Rattle.std.specs.Vec.{vec_capacity}
use Rattle.round_workers.specs.BoardSeats.{IsSeatOf, known, board_window}
use Rattle.round_workers.specs.BoardWorker.{turns_in}
use Rattle.round_workers.proofs.board.worker.Worker.work.Given as goal

abbrev pub invariant-stream : goal.invariant-stream
invariant-stream g l = record {
  seat : IsSeatOf l.board l.self.seat;
  number : l.self.number ≡ l.fn.self.number;
  seat_number : (known l.self.seat).number ≡ (known l.fn.self.seat).number;
  opened : (known l.self.seat).opened ≡ true;
  early : AllByRecursion (λ k. k < turns_in (board_window l.board)) (known l.self.seat).drawn;
  seed : l.stream.seed ≡ (board_window l.board).seed;
  room : turns_in (board_window l.board) ≤ vec_capacity l.self.made;
  capacity : vec_capacity l.self.made ≡ vec_capacity l.fn.self.made;
  tries : (known l.fn.self.seat).tries + length (known l.self.seat).put ≤ (known l.self.seat).tries + length (known l.fn.self.seat).put;
}

abbrev pub decreases-stream : goal.decreases-stream
decreases-stream g l = turns_in (board_window l.board) + 1 - length (known l.self.seat).drawn
