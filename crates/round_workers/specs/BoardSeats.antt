-- Boards and their seats (this project's own).
use Rattle.std.specs.Prelude.{◌≡◌, ◌≢◌, ℕ, zero, suc, ◌+◌, Option, Some, None}
use Rattle.atomic_table.specs.declared.shared.Seat.{Seat as Hand}
use Rattle.spec_record.specs.Look.{LookValue}
use Rattle.round_book.specs.Machine.{times}
use Rattle.round_book.specs.Window.{Window, look_for}
use Rattle.round_workers.specs.declared.board.seat.Board.{Board}
use Rattle.round_workers.specs.declared.board.seat.Seat.{Seat}
use Rattle.round_workers.specs.declared.board.view.Basis.{Basis}
use Rattle.round_workers.specs.declared.board.view.BoardSlot.{BoardSlot}
use Rattle.round_workers.specs.declared.board.view.Try.TheVariants.{OfLook}
use Rattle.round_workers.specs.declared.board.view.View.{View}
use Rattle.round_workers.specs.BoardPlays.{after_try}
use Rattle.round_workers.specs.BoardView.{look_full, window_for}

-- the window of a board, as its seats know it
abbrev pub basis_of : Board → Basis
basis_of board = board.table.shared.key

abbrev pub board_window : Board → Window
board_window board = window_for (basis_of board)

-- what a seat knows
abbrev pub known : Seat → View
known seat = seat.hand.me.0

-- a hand is one of this board, and knows its window
pub record IsHandOf (board : Board) (hand : Hand BoardSlot View) : Type 0 where
  pub table : hand.table_id ≡ board.table.shared.table_id
  pub knows : hand.me.0.about ≡ Some (basis_of board)

-- a seat is one of this board, and knows its window
abbrev pub IsSeatOf : Board → Seat → Type 0
IsSeatOf board seat = IsHandOf board seat.hand

-- a seat tried for the look of a ticket, and found that its word wasn't full
pub record IsMiss (ticket : ℕ) (old new : View) : Type 0 where
  pub found : ℕ
  pub other : found ≢ look_full
  pub tried : new ≡ after_try old (OfLook ticket found)

-- a look that was put, once, and not taken
abbrev pub left_if : ℕ → ℕ → LookValue → Option LookValue
left_if zero took look = None
left_if (suc put) zero look = Some look
left_if (suc put) (suc took) look = None

-- the look of a ticket, if the seat, with those joined into it, put it and didn't take it
abbrev pub left_look : Window → View → ℕ → Option LookValue
left_look window v ticket = left_if (times ticket v.put) (times ticket v.took) (look_for window (window.from + ticket))
