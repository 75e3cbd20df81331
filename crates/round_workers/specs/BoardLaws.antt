-- The rule of a board in words, and which of its steps are events of the workers on its window (this project's own).
use Rattle.std.specs.Prelude.{◌≡◌, ◌≢◌, ◌⊎◌, ◌↔◌, ℕ, ◌+◌, ◌-◌, ◌<◌, ◌≤◌, Some, List, slice_index, slice_set}
use mathlib.Core.Option as maybe
use lib.ListN.{get_elem?}
use Rattle.atomic_table.specs.Table.{State}
use Rattle.cell_world.specs.Cell.{one_if}
use Rattle.round_book.specs.Machine as machine
use Rattle.round_book.specs.Machine.{times}
use Rattle.round_book.specs.Machine.Event.{Draws, Puts}
use Rattle.round_book.specs.Book.{BookValue, StandsFor}
use Rattle.round_book.specs.BookLaws.{IsAt}
use Rattle.round_book.specs.Window.{Window, look_for}
use Rattle.round_workers.specs.declared.board.view.Basis.{Basis}
use Rattle.round_workers.specs.declared.board.view.BoardSlot.{BoardSlot}
use Rattle.round_workers.specs.declared.board.view.BoardSlot.TheVariants.{OneLook}
use Rattle.round_workers.specs.declared.board.view.Phase.TheVariants.{Putting}
use Rattle.round_workers.specs.declared.board.view.View.{View}
use Rattle.round_workers.specs.BoardPlays.{drew, has_put}
use Rattle.round_workers.specs.BoardRule.{HasBook, HasHome, IsKept, IsSpare, has_opened, putting, taking, turns_of}
use Rattle.round_workers.specs.BoardTotals.{summed}
use Rattle.round_workers.specs.BoardView.{book_home, book_out, look_emptied, look_empty, look_full, look_in_hand, window_for}

-- how many seats put the look of ticket j, took it, are putting it and are taking it now
abbrev pub putters : State BoardSlot View → ℕ → ℕ
putters s j = summed (λ v. times j v.put) s.views

abbrev pub takers : State BoardSlot View → ℕ → ℕ
takers s j = summed (λ v. times j v.took) s.views

abbrev pub putting_now : State BoardSlot View → ℕ → ℕ
putting_now s j = summed (λ v. putting j v.phase) s.views

abbrev pub taking_now : State BoardSlot View → ℕ → ℕ
taking_now s j = summed (λ v. taking j v.phase) s.views

-- how many seats hold the book
abbrev pub holders : State BoardSlot View → ℕ
holders s = summed (λ v. one_if v.holds) s.views

-- the word of the look of ticket j
abbrev pub word_of : State BoardSlot View → ℕ → ℕ
word_of s j = slice_index s.words (j + 2)

-- the meaning of a look's word
pub record LookSays (key : Basis) (s : State BoardSlot View) (j : ℕ) : Type 0 where
  -- it is one of the four values
  pub one_of_four : word_of s j ≤ look_emptied
  -- empty only if no seat put the look
  pub empty : word_of s j ≡ look_empty → putters s j ≡ 0
  -- full only if one seat put it and none took it; then the slot is home, with the look at its turn
  pub full : word_of s j ≡ look_full → (putters s j ≡ 1) × (takers s j ≡ 0) ×
      HasHome (get_elem? s.homes (j + 1)) (OneLook (Some (look_for (window_for key) ((window_for key).from + j))))
  -- emptied exactly if a seat took it
  pub emptied : (word_of s j ≡ look_emptied) ↔ (takers s j ≡ 1)
  -- in hand: no seat took it, one seat is between the two steps of a put or of a take, and it was put exactly if that
  -- is a take
  pub in_hand : word_of s j ≡ look_in_hand
      → (takers s j ≡ 0) × (putting_now s j + taking_now s j ≡ 1) × (putters s j ≡ taking_now s j)
  -- no look waits in a slot whose word says empty or emptied
  pub bare : (word_of s j ≡ look_empty) ⊎ (word_of s j ≡ look_emptied) → IsSpare (get_elem? s.homes (j + 1))
  -- for a seat that drew its ticket and hasn't put it, the word says empty, or in hand while that seat puts it
  pub drawn : (i : ℕ) (v : View) → get_elem? s.views i ≡ maybe.some v → 1 ≤ times j v.drawn → times j v.put ≡ 0 →
      (word_of s j ≡ look_empty) ⊎ ((word_of s j ≡ look_in_hand) × (putting j v.phase ≡ 1))

-- the rule for the tickets, the book and each look
pub record BoardsSay : Type 0 where
  pub tickets : (key : Basis) (s : State BoardSlot View) → IsKept key s → slice_index s.words 0 ≤ turns_of key + 17
  pub book_home_stands : (key : Basis) (s : State BoardSlot View) → IsKept key s → summed has_opened s.views ≡ 1
      → slice_index s.words 1 ≡ book_home →
      (holders s ≡ 0) × HasBook (get_elem? s.homes 0) (window_for key)
  pub book_out_held : (key : Basis) (s : State BoardSlot View) → IsKept key s → summed has_opened s.views ≡ 1
      → slice_index s.words 1 ≢ book_home →
      (slice_index s.words 1 ≡ book_out) × (holders s ≡ 1)
  pub looks : (key : Basis) (s : State BoardSlot View) → IsKept key s → (j : ℕ) → j < turns_of key → LookSays key s j
  -- only looks at turns of the window are put or taken
  pub turns_alone : (key : Basis) (s : State BoardSlot View) → IsKept key s → (j : ℕ) → 1 ≤ putters s j + takers s j
      → j < turns_of key

-- the workers on the window match the board: the same number of tickets is drawn, and the looks of the same turns were
-- put
pub record Mirrors (key : Basis) (s : State BoardSlot View) (m : machine.State) : Type 0 where
  pub drawn : m.drawn ≡ slice_index s.words 0
  pub put : (j : ℕ) → machine.IsPut m j ↔ (1 ≤ putters s j)

-- the steps that draw a ticket and that end a put are events; hands mean the same as in the machine
pub record BoardStepsAreEvents : Type 0 where
  pub draws : (key : Basis) (s : State BoardSlot View) (id : ℕ) (v : View) (m : machine.State) (hand : ℕ) →
      IsKept key s → get_elem? s.views id ≡ maybe.some v → Mirrors key s m →
      machine.IsLawful (window_for key) m (Draws hand)
      × Mirrors key (record {
        words = slice_set s.words 0 (slice_index s.words 0 + 1);
        homes = s.homes;
        views = slice_set s.views id (drew v (slice_index s.words 0));
      })
      (machine.happens (window_for key) m (Draws hand))
  pub puts : (key : Basis) (s : State BoardSlot View) (id : ℕ) (v : View) (m : machine.State) (j word : ℕ)
      (homes : List (maybe.Option BoardSlot)) →
      IsKept key s → get_elem? s.views id ≡ maybe.some v → v.phase ≡ Putting j → j < turns_of key
      → machine.AreDealt m.drawn m.hands → Mirrors key s m →
      (hand : ℕ) × machine.IsLawful (window_for key) m (Puts hand j)
      × Mirrors key
      (record { words = slice_set s.words (j + 2) word; homes = homes; views = slice_set s.views id (has_put v j) })
      (machine.happens (window_for key) m (Puts hand j))

-- lawful events lead from the first state of the workers on a window to such a state
pub record Way (window : Window) (Is : machine.State → Type 0) : Type 0 where
  pub events : List machine.Event
  pub lawful : machine.AreLawful window (machine.first_state window) events
  pub there : Is (machine.run window (machine.first_state window) events)

-- whatever the state of a board, lawful events of workers lead to a state that matches it; and if the looks of all
-- turns that a book has settled were put, they lead to one that matches the board and the book
pub record BoardsAreReached : Type 0 where
  pub board : (key : Basis) (s : State BoardSlot View) → IsKept key s → Way (window_for key) (Mirrors key s)
  pub book : (key : Basis) (s : State BoardSlot View) (book : BookValue) → IsKept key s
      → StandsFor (window_for key) book → book.next ≤ book.to →
      ((j : ℕ) → j < book.next - book.from → 1 ≤ putters s j)
      → Way (window_for key) (λ m. Mirrors key s m × IsAt m book)

-- the workers on a window match a closed board: this number of tickets was drawn, and the looks of these tickets were
-- put
pub record IsWhereClosed (window : Window) (count : ℕ) (tickets : List ℕ) (m : machine.State) : Type 0 where
  pub drawn : m.drawn ≡ count
  pub put : (j : ℕ) → machine.IsPut m j ↔ (1 ≤ times j tickets)
