-- What is in a slot of a board (this project's own).
use Rattle.std.specs.Prelude.{◌≡◌, ℕ, ◌+◌, ◌-◌, ◌<◌, ◌≤◌, ◌^◌, Bool, true, false, List, [], length, replicate, slice_index_or, Option, Some, None}
use Rattle.std.specs.Vec.{vec_capacity, vec_len}
use mathlib.Core.Option as maybe
use lib.ListN.{get_elem?}
use Rattle.spec_record.specs.Look.{LookValue}
use Rattle.atomic_table.specs.Seated.{TableId}
use Rattle.atomic_table.specs.declared.shared.Seat.{Seat as Hand}
use Rattle.round_book.specs.Book.{BookValue, FieldValue, window_of}
use Rattle.round_workers.specs.declared.board.stock.Stock.{Stock}
use Rattle.round_workers.specs.declared.board.view.Basis.{Basis}
use Rattle.round_workers.specs.declared.board.view.BoardSlot.{BoardSlot}
use Rattle.round_workers.specs.declared.board.view.BoardSlot.TheVariants.{Nothing, OneLook, Spare, TheBook}
use Rattle.round_workers.specs.declared.board.view.View.{View}
use Rattle.round_workers.specs.declared.share.Turns.{Turns}
use Rattle.round_workers.specs.BoardView.{first_seat, window_for}

-- the content of the book's room
abbrev pub book_room : BoardSlot → Option (Option BookValue)
book_room Nothing = None
book_room (TheBook content) = Some content
book_room (Spare old) = None
book_room (OneLook content) = None

-- the look in a place, if there is one
abbrev pub look_in : BoardSlot → Option LookValue
look_in Nothing = None
look_in (TheBook content) = None
look_in (Spare old) = None
look_in (OneLook content) = content

-- the content of a look's room
abbrev pub look_room : BoardSlot → Option (Option LookValue)
look_room Nothing = None
look_room (TheBook content) = None
look_room (Spare old) = Some old
look_room (OneLook content) = Some content

-- of this many slots the values of the first n are taken out, and the others are there
pub record AreTaken (n count : ℕ) (filled : List Bool) : Type 0 where
  pub taken : (k : ℕ) → k < n → slice_index_or filled k false ≡ false
  pub there : (k : ℕ) → n ≤ k → k < count → slice_index_or filled k false ≡ true

-- there is room for a board of this many turns
pub record IsStocked (turns : ℕ) (stock : Stock) : Type 0 where
  pub rooms : vec_len stock.rooms + turns + 1 ≤ vec_capacity stock.rooms
  pub words : stock.words.items ≡ replicate (turns + 2) 0
  pub no_places : stock.places.items ≡ []
  pub places : turns ≤ vec_capacity stock.places
  pub no_looks : stock.looks.items ≡ []
  pub looks : turns ≤ vec_capacity stock.looks

-- the slots with which a board begins: the book's room without the book, and a look's for each turn
pub record AreBare (turns : ℕ) (slots : List BoardSlot) : Type 0 where
  pub long : length slots ≡ turns + 1
  pub book : get_elem? slots 0 ≡ maybe.some (TheBook None)
  pub spares : (j : ℕ) → j < turns → (old : Option LookValue) × (get_elem? slots (j + 1) ≡ maybe.some (Spare old))

-- a table for these turns of a field: the window that it was given, its counts, and the hand of its first seat
pub record IsTableFor (field : FieldValue) (turns : Turns) (key : Basis) (table_id : TableId)
    (hand : Hand BoardSlot View) : Type 0 where
  pub window : window_for key ≡ window_of field turns.from turns.to
  pub from : key.from ≡ turns.from
  pub to : key.to ≡ turns.to
  pub ids : turns.to ≤ key.world.value.ids
  pub lasting : key.place + (turns.to - turns.from) < 2 ^ 63
  pub words : table_id.words ≡ turns.to - turns.from + 2
  pub slots : table_id.slots ≡ turns.to - turns.from + 1
  pub table : hand.table_id ≡ table_id
  pub me : hand.me ≡ (first_seat key, [])
