-- What holds of a board between any two steps of its seats (this project's own).
--
-- Word 0 is the number of tickets drawn. Word 1 is the book's: `book_home`, or `book_out`. Word j + 2 is that of the
-- look of ticket j: `look_empty`, `look_in_hand`, `look_full` or `look_emptied`. Slot 0 is the book's, and slot j + 1
-- that of the look of ticket j.
use Rattle.std.specs.Prelude.{◌≡◌, ◌≢◌, ◌⊎◌, ℕ, zero, suc, ◌+◌, ◌-◌, ◌<◌, ◌≤◌, Bool, true, false, nat_eq, List, length, slice_index, Option, Some, None}
use mathlib.Core.Option as maybe
use lib.ListN.{get_elem?}
use Rattle.atomic_table.specs.Table.{State}
use Rattle.cell_world.specs.Cell.{one_if}
use Rattle.spec_record.specs.Look.{LookValue}
use Rattle.round_book.specs.Book.{BookValue, StandsFor}
use Rattle.round_book.specs.Machine.{times}
use Rattle.round_book.specs.Window.{IsPlayable, Window, look_for}
use Rattle.round_workers.specs.declared.board.view.Basis.{Basis}
use Rattle.round_workers.specs.declared.board.view.BoardSlot.{BoardSlot}
use Rattle.round_workers.specs.declared.board.view.BoardSlot.TheVariants.{OneLook, Spare, TheBook}
use Rattle.round_workers.specs.declared.board.view.Phase.{Phase}
use Rattle.round_workers.specs.declared.board.view.Phase.TheVariants.{Resting, Opening, Putting, Taking}
use Rattle.round_workers.specs.declared.board.view.View.{View}
use Rattle.round_workers.specs.BoardTotals.{late_among, once_below, summed}
use Rattle.round_workers.specs.BoardView.{spent_seat, window_for}
use Rattle.round_workers.specs.Crews.{most_workers}

-- how many turns a board's window has
abbrev pub turns_of : Basis → ℕ
turns_of basis = basis.to - basis.from

-- 1 for the first seat of a board, otherwise 0
abbrev pub first_one : Option Basis → ℕ → ℕ
first_one None number = 0
first_one (Some basis) zero = 1
first_one (Some basis) (suc number) = 0

abbrev pub is_first : View → ℕ
is_first v = first_one v.about v.number

-- the number if true, otherwise 0
abbrev pub only_if : Bool → ℕ → ℕ
only_if true n = n
only_if false n = 0

-- 1 for the first seat once it has opened the book, otherwise 0
abbrev pub has_opened : View → ℕ
has_opened v = only_if v.opened (is_first v)

-- 1 while opening the book, otherwise 0
abbrev pub phase_opening : Phase → ℕ
phase_opening Resting = 0
phase_opening Opening = 1
phase_opening (Putting j) = 0
phase_opening (Taking j) = 0

-- 1 while putting the look of ticket x, otherwise 0
abbrev pub putting : ℕ → Phase → ℕ
putting x Resting = 0
putting x Opening = 0
putting x (Putting j) = one_if (nat_eq j x)
putting x (Taking j) = 0

-- 1 while taking the look of ticket x, otherwise 0
abbrev pub taking : ℕ → Phase → ℕ
taking x Resting = 0
taking x Opening = 0
taking x (Putting j) = 0
taking x (Taking j) = one_if (nat_eq j x)

-- what holds of each seat that wasn't joined into another. It knows the board's window, and its own number is among its
-- parts. Only the first seat makes others. The seat drew at most as many tickets after the window as it has parts. It
-- drew what it put or is about to put, and it put and took only looks of turns. Only the first seat opens the book
pub record IsSeated (key : Basis) (v : View) : Type 0 where
  pub same : v.about ≡ Some key
  pub own : 1 ≤ times v.number v.parts
  pub makes : v.number ≢ 0 → v.made ≡ 0
  pub late : late_among (turns_of key) v.drawn ≤ length v.parts
  pub drew : (x : ℕ) → times x v.put + putting x v.phase ≤ times x v.drawn
  pub within : (x : ℕ) → turns_of key ≤ x → times x v.put + times x v.took ≡ 0
  pub opens : phase_opening v.phase + has_opened v ≤ is_first v

-- a seat that was joined into another has nothing left
abbrev pub Sits : Basis → View → Type 0
Sits key v = (v ≡ spent_seat) ⊎ IsSeated key v

-- how many others the first seat made
abbrev pub made_by : List View → ℕ
made_by views = summed (λ v. v.made) views

-- the parts of all seats are the numbers from 0 to the count of seats that were made, each once; that count is at most
-- that of a crew; there is one first seat
pub record AreParts (views : List View) : Type 0 where
  pub each : (x : ℕ) → summed (λ v. times x v.parts) views ≡ once_below x (made_by views + 1)
  pub count : summed (λ v. length v.parts) views ≡ made_by views + 1
  pub few : made_by views ≤ most_workers
  pub first : summed is_first views ≡ 1

-- the tickets of all seats are the numbers below the ticket word, each once; the word is at most the number of turns
-- plus the number of tickets that were drawn after the window
pub record AreDealt (turns word : ℕ) (views : List View) : Type 0 where
  pub each : (x : ℕ) → summed (λ v. times x v.drawn) views ≡ once_below x word
  pub within : word ≤ turns + summed (λ v. late_among turns v.drawn) views

-- a slot is home, with this in it
abbrev pub HasHome : maybe.Option (maybe.Option BoardSlot) → BoardSlot → Type 0
HasHome home place = home ≡ maybe.some (maybe.some place)

-- a slot is home, and a book in it stands for the window
abbrev pub HasBook : maybe.Option (maybe.Option BoardSlot) → Window → Type 0
HasBook home window = (book : BookValue) × HasHome home (TheBook (Some book)) × StandsFor window book

-- a slot is home, with a look's room in which no look waits; there may be an old one
abbrev pub IsSpare : maybe.Option (maybe.Option BoardSlot) → Type 0
IsSpare home = (old : Option LookValue) × HasHome home (Spare old)

-- the book, by its word and by what its slot has at home: how many seats hold it, are opening it, opened it, and have
-- seen it opened
pub record IsBookKept (window : Window) (word : ℕ) (home : maybe.Option (maybe.Option BoardSlot))
    (held opens opened seen : ℕ) : Type 0 where
  pub out : word ≡ held + opens
  pub bit : word ≤ 1
  pub once : opens + opened ≤ 1
  pub unheld : opened ≡ 0 → held ≡ 0
  pub unseen : opened ≡ 0 → seen ≡ 0
  pub bare : opens + opened ≡ 0 → HasHome home (TheBook None)
  pub stands : opened ≡ 1 → held ≡ 0 → HasBook home window

-- the look of a ticket, by its word and by what its slot has at home: how many seats put it, took it, are putting it
-- and are taking it. The word is the state of the look: in hand while a seat puts it, full once it is put, in hand
-- again while a seat takes it, and emptied once it is taken. So it is 1 for a put in progress, 2 for one that is done,
-- 1 more for a take that is done, and 1 less for one in progress
pub record IsLookKept (window : Window) (ticket word : ℕ) (home : maybe.Option (maybe.Option BoardSlot))
    (put took puts takes : ℕ) : Type 0 where
  pub sum : word + takes ≡ puts + (put + put) + took
  pub once : puts + put ≤ 1
  pub back : takes + took ≤ put
  pub bare : put ≡ took → puts ≡ 0 → IsSpare home
  pub full : put ≡ 1 → took + takes ≡ 0 → HasHome home (OneLook (Some (look_for window (window.from + ticket))))

abbrev pub IsBookKeptBy : Window → ℕ → maybe.Option (maybe.Option BoardSlot) → List View → Type 0
IsBookKeptBy window word home views =
    IsBookKept window word home (summed (λ v. one_if v.holds) views) (summed (λ v. phase_opening v.phase) views)
    (summed has_opened views)
    (summed (λ v. one_if v.opened) views)

abbrev pub IsLookKeptBy : Window → ℕ → ℕ → maybe.Option (maybe.Option BoardSlot) → List View → Type 0
IsLookKeptBy window j word home views =
    IsLookKept window j word home (summed (λ v. times j v.put) views) (summed (λ v. times j v.took) views)
    (summed (λ v. putting j v.phase) views) (summed (λ v. taking j v.phase) views)

-- the rule
pub record IsKept (key : Basis) (s : State BoardSlot View) : Type 0 where
  pub playable : IsPlayable (window_for key)
  pub words : length s.words ≡ turns_of key + 2
  pub homes : length s.homes ≡ turns_of key + 1
  pub seats : (i : ℕ) (v : View) → get_elem? s.views i ≡ maybe.some v → Sits key v
  pub parts : AreParts s.views
  pub tickets : AreDealt (turns_of key) (slice_index s.words 0) s.views
  pub book : IsBookKeptBy (window_for key) (slice_index s.words 1) (get_elem? s.homes 0) s.views
  pub looks : (j : ℕ) → j < turns_of key
      → IsLookKeptBy (window_for key) j (slice_index s.words (j + 2)) (get_elem? s.homes (j + 1)) s.views
