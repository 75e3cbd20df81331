-- One window played over a board (this project's own).
use Rattle.std.specs.Prelude.{◌≡◌, ℕ, ◌+◌, ◌<◌, ◌≤◌, true, false, List, [], map, slice_index_or, All, IfSome, Vec}
use Rattle.std.specs.List.{AllByRecursion}
use Rattle.std.specs.Vec.{vec_capacity, vec_len}
use Rattle.round_book.specs.Book.{BookValue, FieldValue, StandsOn}
use Rattle.round_book.specs.Machine.{times}
use Rattle.round_book.specs.Window.{Window, guesses_for, look_for}
use Rattle.round_workers.specs.declared.board.crew.CrewStock.{CrewStock}
use Rattle.round_workers.specs.declared.board.crew.Laid.{Laid}
use Rattle.round_workers.specs.declared.board.seat.Board.{Board}
use Rattle.round_workers.specs.declared.board.seat.Seat.{Seat}
use Rattle.round_workers.specs.declared.board.worker.Worker.{Worker}
use Rattle.round_workers.specs.declared.board.view.BoardSlot.{BoardSlot}
use Rattle.round_workers.specs.declared.board.view.BoardSlot.TheVariants.{Nothing}
use Rattle.round_workers.specs.declared.share.Turns.{Turns}
use Rattle.round_workers.specs.Inner.BoardPlaces.{look_in}
use Rattle.round_workers.specs.BoardSeats.{IsSeatOf, basis_of, known, board_window}
use Rattle.round_workers.specs.BoardTotals.{once_below}
use Rattle.round_workers.specs.BoardView.{first_seat}
use Rattle.round_workers.specs.BoardWorker.{turns_in}
use Rattle.round_workers.specs.Crews.{most_workers}

-- a worker is ready to work on a board: its seat is one of the board, and has seen the book opened; it drew no ticket
-- after the window; and its list has room for all turns
pub record IsHired (board : Board) (worker : Worker) : Type 0 where
  pub seat : IsSeatOf board worker.seat
  pub opened : (known worker.seat).opened ≡ true
  pub early : AllByRecursion (λ ticket. ticket < turns_in (board_window board)) (known worker.seat).drawn
  pub room : turns_in (board_window board) ≤ vec_capacity worker.made

-- a worker has worked: its seat is still one of the board, with its number
pub record HasWorked (board : Board) (old new : Worker) : Type 0 where
  pub seat : IsSeatOf board new.seat
  pub number : (known new.seat).number ≡ (known old.seat).number

-- the numbers of the seats of workers
abbrev pub seat_numbers : List Worker → List ℕ
seat_numbers workers = map (λ worker. (known worker.seat).number) workers

-- the first seat has opened the book and doesn't hold it, and every seat that it made is a worker's or was joined into
-- it, once
pub record IsManned (board : Board) (first : Seat) (workers : List Worker) : Type 0 where
  pub seat : IsSeatOf board first
  pub zeroth : (known first).number ≡ 0
  pub opened : (known first).opened ≡ true
  pub free : (known first).holds ≡ false
  pub numbered : (k : ℕ)
      → times k (known first).parts + times k (seat_numbers workers) ≡ once_below k ((known first).made + 1)

-- an empty list with room for this many turns
pub record IsRoom {A : Type 0} (turns : ℕ) (room : Vec ℕ A) : Type 0 where
  pub bare : room.items ≡ []
  pub wide : turns ≤ vec_capacity room

-- a board of a window with its first seat
pub record IsLaid (for_window : Window) (laid : Laid) : Type 0 where
  pub window : board_window laid.board ≡ for_window
  pub seat : IsSeatOf laid.board laid.first
  pub first : known laid.first ≡ first_seat (basis_of laid.board)

-- everything else that a window takes memory for, except its book: its guesses, the lists of the workers, and room for
-- the workers, for their lists and for the rooms of its looks
pub record IsCrewStocked (for_window : Window) (stock : CrewStock) : Type 0 where
  pub guesses : stock.guesses.items ≡ guesses_for for_window
  pub lists : All (IsRoom (turns_in for_window)) stock.lists.items
  pub few : vec_len stock.lists ≤ most_workers
  pub bare : stock.workers.items ≡ []
  pub wide : vec_len stock.lists ≤ vec_capacity stock.workers
  pub idle : vec_len stock.idle + most_workers ≤ vec_capacity stock.idle
  pub rooms : vec_len stock.board.rooms + turns_in for_window ≤ vec_capacity stock.board.rooms

-- a book stands on a field, for these turns
pub record IsBookOf (field : FieldValue) (turns : Turns) (book : BookValue) : Type 0 where
  pub stands : StandsOn field book
  pub from : book.from ≡ turns.from
  pub to : book.to ≡ turns.to

-- the looks of a window that wait in these places, by ticket, are those at its turns
abbrev pub AreLooks : Window → List BoardSlot → Type 0
AreLooks window places =
    (ticket : ℕ) → ticket < turns_in window
    → IfSome (look_in (slice_index_or places ticket Nothing)) (λ look. look ≡ look_for window (window.from + ticket))
