use Rattle.std.proofs.Common.{◌+◌, ◌≤◌, All, length}
use Rattle.std.specs.Vec.{vec_capacity, vec_len}
use Rattle.round_workers.specs.Inner.BoardCrew.{IsHired, IsManned, IsRoom}
use Rattle.round_workers.specs.BoardSeats.{known, board_window}
use Rattle.round_workers.specs.BoardWorker.{turns_in}
use Rattle.round_workers.specs.Crews.{most_workers}
use Rattle.round_workers.proofs.board.crew.hire.Given as goal

abbrev pub invariant-loop-made : goal.invariant-loop-made
invariant-loop-made l = record {
  manned : IsManned l.board l.first l.workers.items;
  hired : All (IsHired l.board) l.workers.items;
  lists : All (IsRoom (turns_in (board_window l.board))) l.lists.items;
  count : vec_len l.workers ≤ (known l.first).made;
  few : (known l.first).made + vec_len l.lists ≤ most_workers;
  wide : vec_len l.workers + vec_len l.lists ≤ vec_capacity l.workers;
}

abbrev pub decreases-loop-made : goal.decreases-loop-made
decreases-loop-made l = length l.lists.items
