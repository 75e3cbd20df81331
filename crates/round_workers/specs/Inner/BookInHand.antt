-- Settling by a seat that has the book in hand (this project's own).
use Rattle.std.specs.Prelude.{◌≡◌, ◌≤◌, true}
use Rattle.atomic_table.specs.declared.shared.Seat.{Seat as Hand}
use Rattle.round_book.specs.Book.{FieldValue, IsLentFor}
use Rattle.round_workers.specs.declared.board.seat.Board.{Board}
use Rattle.round_workers.specs.declared.board.view.BoardSlot.{BoardSlot}
use Rattle.round_workers.specs.declared.board.view.Phase.TheVariants.{Resting}
use Rattle.round_workers.specs.declared.board.view.View.{View}
use Rattle.round_workers.specs.BoardSeats.{IsHandOf, board_window}
use Rattle.round_workers.specs.BoardWorker.{IsSameButTook}

-- a seat of a board that is between two calls holds the book, and the field is lent for the board's window
pub record CanSettle (board : Board) (field : FieldValue) (hand : Hand BoardSlot View) : Type 0 where
  pub seated : IsHandOf board hand
  pub rests : hand.me.0.phase ≡ Resting
  pub holds : hand.me.0.holds ≡ true
  pub lent : IsLentFor field (board_window board)

-- a seat took some looks or none, and is between two calls again
pub record HasSettled (old new : Hand BoardSlot View) : Type 0 where
  pub table : new.table_id ≡ old.table_id
  pub rests : new.me.0.phase ≡ Resting
  pub out : new.me.1 ≡ old.me.1
  pub same : IsSameButTook old.me.0 new.me.0
  pub tries : old.me.0.tries ≤ new.me.0.tries
