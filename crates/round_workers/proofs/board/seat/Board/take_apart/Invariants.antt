use Rattle.std.proofs.Common.{◌≡◌, ℕ, ◌+◌, ◌<◌, length, slice_index_or}
use Rattle.std.specs.Mem.Slots.{slots_filled, slots_items, slots_len}
use Rattle.std.specs.Vec.{vec_capacity}
use Rattle.round_workers.specs.Inner.BoardPlaces.{AreTaken, look_in}
use Rattle.round_workers.specs.declared.board.view.BoardSlot.TheVariants.{Nothing}
use Rattle.round_workers.specs.BoardSeats.{known, left_look, board_window}
use Rattle.round_workers.proofs.board.seat.Board.take_apart.Given as goal

abbrev pub invariant-loop-ticket : goal.invariant-loop-ticket
invariant-loop-ticket l = record {
  items : slots_items l.closed.slots ≡ slots_items l.initial.closed.slots;
  len : slots_len l.closed.slots ≡ slots_len l.initial.closed.slots;
  taken : AreTaken (l.ticket + 1) (slots_len l.closed.slots) (slots_filled l.closed.slots);
  placed : length l.places.items ≡ l.ticket;
  capacity : vec_capacity l.places ≡ vec_capacity l.initial.places;
  looks : (k : ℕ) → k < l.ticket → look_in (slice_index_or l.places.items k Nothing) ≡ left_look (board_window l.fn.self) (known l.fn.seat) k;
}
