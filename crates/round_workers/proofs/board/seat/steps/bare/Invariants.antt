use Rattle.std.proofs.Common.{◌≡◌, ◌+◌, ◌≤◌}
use Rattle.std.specs.Vec.{vec_capacity, vec_len}
use Rattle.round_workers.specs.Inner.BoardPlaces.{AreBare}
use Rattle.round_workers.proofs.board.seat.steps.bare.Given as goal

abbrev pub invariant-loop : goal.invariant-loop
invariant-loop l = record {
  bare : AreBare l.counter l.slots.items;
  wide : l.turns + 1 ≤ vec_capacity l.slots;
  room : vec_len l.kept + l.turns + 1 ≤ vec_capacity l.kept;
  few : vec_len l.slots ≡ l.counter + 1;
}
