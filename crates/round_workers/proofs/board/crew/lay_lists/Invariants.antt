use Rattle.std.proofs.Common.{◌≡◌, ◌+◌, ◌≤◌, All, length}
use Rattle.std.specs.Vec.{vec_capacity, vec_len}
use Rattle.round_workers.specs.Crews.{most_workers}
use Rattle.round_workers.specs.Inner.BoardCrew.{IsRoom}
use Rattle.round_workers.proofs.board.crew.lay_lists.Given as goal

abbrev pub invariant-loop : goal.invariant-loop
invariant-loop l = record {
  lists : All (IsRoom l.turns) l.lists.items;
  count : length l.lists.items ≡ l.counter;
  wide : l.count ≤ vec_capacity l.lists;
  room : vec_len l.idle + most_workers ≤ vec_capacity l.idle;
}
