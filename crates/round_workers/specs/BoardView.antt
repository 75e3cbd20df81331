-- What a seat of a board knows (this project's own).
use Rattle.std.specs.Prelude.{◌≡◌, ◌≢◌, ℕ, Bool, true, false, List, [], ◌∷◌, Option, Some, None}
use Rattle.cell_world.specs.Cell.{rock}
use Rattle.cell_world.specs.Grid.{world_of}
use Rattle.ant_turn.specs.Minds.{contest_minds}
use Rattle.ant_turn.specs.Sheet.{sheet_of}
use Rattle.round_book.specs.Window.{Window}
use Rattle.atomic_table.specs.Table.{Me}
use Rattle.round_workers.specs.declared.board.view.Basis.{Basis}
use Rattle.round_workers.specs.declared.board.view.BoardSlot.{BoardSlot}
use Rattle.round_workers.specs.declared.board.view.BoardSlot.TheVariants.{TheBook}
use Rattle.round_workers.specs.declared.board.view.Phase.TheVariants.{Resting}
use Rattle.round_workers.specs.declared.board.view.Try.TheVariants.{Never}
use Rattle.round_workers.specs.declared.board.view.View.{View}

-- the window of a board
abbrev pub window_for : Basis → Window
window_for basis = record {
  minds = record { red = basis.red.value; black = basis.black.value; sheet = sheet_of basis.sheet };
  seed = basis.seed;
  base = world_of basis.world.value;
  place = basis.place;
  from = basis.from;
  to = basis.to;
}

-- a window of which nothing is known
abbrev pub no_window : Window
no_window = record {
  minds = contest_minds [] [];
  seed = 0;
  base = record {
    width = 0;
    height = 0;
    ids = 0;
    cells = λ p. rock;
  };
  place = 0;
  from = 0;
  to = 0;
}

abbrev pub window_about : Option Basis → Window
window_about None = no_window
window_about (Some basis) = window_for basis

-- the first seat of a board
abbrev pub first_seat : Basis → View
first_seat basis = record {
  about = Some basis;
  number = 0;
  made = 0;
  parts = 0 ∷ [];
  drawn = [];
  put = [];
  took = [];
  holds = false;
  opened = false;
  tries = 0;
  last = Never;
  phase = Resting;
}

-- a seat that was joined into another
abbrev pub spent_seat : View
spent_seat = record {
  about = None;
  number = 0;
  made = 0;
  parts = [];
  drawn = [];
  put = [];
  took = [];
  holds = false;
  opened = false;
  tries = 0;
  last = Never;
  phase = Resting;
}

-- the values of the book's word: the book is at home, or a seat has it
abbrev pub book_home : ℕ
book_home = 0

abbrev pub book_out : ℕ
book_out = 1

-- the values of a look's word: no seat put it yet, a seat has its room in hand, it waits to be taken, it was taken
abbrev pub look_empty : ℕ
look_empty = 0

abbrev pub look_in_hand : ℕ
look_in_hand = 1

abbrev pub look_full : ℕ
look_full = 2

abbrev pub look_emptied : ℕ
look_emptied = 3

-- the slots that a seat has in hand between two calls: the book's, whose room is empty while the seat holds the book
abbrev pub out_with : Bool → List (ℕ × BoardSlot)
out_with false = []
out_with true = (0, TheBook None) ∷ []

-- a seat is between two calls
pub record IsAtRest (me : Me BoardSlot View) : Type 0 where
  pub live : me.0.about ≢ None
  pub resting : me.0.phase ≡ Resting
  pub out : me.1 ≡ out_with me.0.holds
