-- What the seat that makes a step on a board knows after it, and which step that is (this project's own).
use Rattle.std.specs.Prelude.{◌≡◌, ◌≢◌, ℕ, suc, ◌+◌, ◌<◌, ◌≤◌, ◌^◌, true, false, [], ◌∷◌, ◌++◌, Option, Some, None}
use Rattle.std.specs.List.{AllByRecursion}
use Rattle.atomic_table.specs.Table.{Me, Step, rest}
use Rattle.spec_record.specs.Look.{LookValue}
use Rattle.round_book.specs.Book.{BookValue, StandsFor}
use Rattle.round_book.specs.Machine.{times}
use Rattle.round_book.specs.Window.{look_for}
use Rattle.round_workers.specs.declared.board.view.BoardSlot.{BoardSlot}
use Rattle.round_workers.specs.declared.board.view.BoardSlot.TheVariants.{OneLook, Spare, TheBook}
use Rattle.round_workers.specs.declared.board.view.Phase.TheVariants.{Resting, Opening, Putting, Taking}
use Rattle.round_workers.specs.declared.board.view.Try.{Try}
use Rattle.round_workers.specs.declared.board.view.Try.TheVariants.{Never, OfBook, OfLook}
use Rattle.round_workers.specs.declared.board.view.View.{View}
use Rattle.round_workers.specs.BoardView.{book_home, book_out, look_emptied, look_empty, look_full, look_in_hand, window_about}

-- a seat as the table sees it: its view, and what it has in hand
abbrev pub At : Type 0
At = Me BoardSlot View

-- a step with these numbers, and one on this word with them. A load, and a step that writes one number, has 0 for the
-- second; only a compare-exchange has another number there
abbrev pub Carries : Step BoardSlot → (first second : ℕ) → Type 0
Carries step first second = (step.first ≡ first) × (step.second ≡ second)

abbrev pub IsStep : Step BoardSlot → (word first second : ℕ) → Type 0
IsStep step word first second = (step.word ≡ word) × Carries step first second

-- a seat after it drew a ticket
abbrev pub drew : View → ℕ → View
drew v ticket = record v { drawn = v.drawn ++ ticket ∷ [] }

-- the seat has the ticket, which is small and above each that it drew before
abbrev pub tells_draw : Step BoardSlot → At → ℕ → At → Type 0
tells_draw step me found new =
    IsStep step 0 1 0 × (new ≡ (drew me.0 found, me.1)) × AllByRecursion (λ k. k < found) me.0.drawn × (found < 2 ^ 32)

-- the first seat after it made another
abbrev pub made_one : View → View
made_one v = record v { made = v.made + 1 }

-- the seat that it made
abbrev pub newcomer : View → View
newcomer v = record {
  about = v.about;
  number = suc v.made;
  made = 0;
  parts = suc v.made ∷ [];
  drawn = [];
  put = [];
  took = [];
  holds = false;
  opened = v.opened;
  tries = 0;
  last = Never;
  phase = Resting;
}

-- a seat after another was joined into it
abbrev pub views_joined : View → View → View
views_joined v w =
    record v { parts = v.parts ++ w.parts; drawn = v.drawn ++ w.drawn; put = v.put ++ w.put; took = v.took ++ w.took }

-- the seat is unchanged, and drew no ticket twice
abbrev pub tells_each_once : Step BoardSlot → At → ℕ → At → Type 0
tells_each_once step me found new = IsStep step 0 0 0 × (new ≡ me) × ((k : ℕ) → times k me.0.drawn ≤ 1)

-- a seat after a try
abbrev pub after_try : View → Try → View
after_try v last = record v { tries = v.tries + 1; last = last }

-- the first seat while it opens the book
abbrev pub opens_now : View → View
opens_now v = record v { phase = Opening }

-- a seat that has seen the book opened
abbrev pub has_seen : View → View
has_seen v = record v { phase = Resting; opened = true }

-- a seat that took the book
abbrev pub with_book : View → View
with_book v = record (after_try v (OfBook book_home)) { holds = true }

-- a seat that gave the book
abbrev pub without_book : View → View
without_book v = record v { holds = false }

-- a seat while it puts the look of a ticket, and after that
abbrev pub puts_now : View → ℕ → View
puts_now v ticket = record v { phase = Putting ticket }

abbrev pub has_put : View → ℕ → View
has_put v ticket = record v { phase = Resting; put = v.put ++ ticket ∷ [] }

-- a seat while it takes the look of a ticket, and after that
abbrev pub takes_now : View → ℕ → View
takes_now v ticket = record (after_try v (OfLook ticket look_full)) { phase = Taking ticket }

abbrev pub has_taken : View → ℕ → View
has_taken v ticket = record v { phase = Resting; took = v.took ++ ticket ∷ [] }

-- the book's slot was home, and the seat has it now
abbrev pub tells_open : Step BoardSlot → At → ℕ → At → Type 0
tells_open step me found new =
    IsStep step 1 book_home book_out × (found ≡ book_home) × (new ≡ (opens_now me.0, (0, TheBook None) ∷ me.1))

abbrev pub tells_opened : Step BoardSlot → At → ℕ → At → Type 0
tells_opened step me found new = IsStep step 1 book_home 0 × (new ≡ (has_seen me.0, rest me.1))

-- if the book was home, the seat has it now, and it stands for the window that the seat knows; otherwise another seat
-- has it
pub record TellsTake (me : At) (found : ℕ) (new : At) : Type 0 where
  pub home : found ≡ book_home
      → (book : BookValue) × StandsFor (window_about me.0.about) book
      × (new ≡ (with_book me.0, (0, TheBook (Some book)) ∷ me.1))
  pub out : found ≢ book_home → (found ≡ book_out) × (new ≡ (after_try me.0 (OfBook book_out), me.1))

abbrev pub tells_take_book : Step BoardSlot → At → ℕ → At → Type 0
tells_take_book step me found new = IsStep step 1 book_home book_out × TellsTake me found new

abbrev pub tells_give_book : Step BoardSlot → At → ℕ → At → Type 0
tells_give_book step me found new = IsStep step 1 book_home 0 × (new ≡ (without_book me.0, rest me.1))

-- the look's slot was home, with no look waiting in it, and the seat has it now
abbrev pub tells_put : Step BoardSlot → At → ℕ → At → Type 0
tells_put step me found new =
    Carries step look_empty look_in_hand
    × ((j : ℕ) → step.word ≡ j + 2 → (old : Option LookValue) × (new ≡ (puts_now me.0 j, (j + 1, Spare old) ∷ me.1)))

abbrev pub tells_has_put : Step BoardSlot → At → ℕ → At → Type 0
tells_has_put step me found new =
    Carries step look_full 0 × ((j : ℕ) → step.word ≡ j + 2 → new ≡ (has_put me.0 j, rest me.1))

-- the look at a ticket's turn, in the window that the seat knows
abbrev pub look_at_ticket : View → ℕ → LookValue
look_at_ticket v ticket = look_for (window_about v.about) ((window_about v.about).from + ticket)

-- if the look's word was full, the seat has the look at its turn now; otherwise the seat keeps what it found
pub record TellsTakeLook (ticket : ℕ) (me : At) (found : ℕ) (new : At) : Type 0 where
  pub full : found ≡ look_full
      → new ≡ (takes_now me.0 ticket, (ticket + 1, OneLook (Some (look_at_ticket me.0 ticket))) ∷ me.1)
  pub other : found ≢ look_full → new ≡ (after_try me.0 (OfLook ticket found), me.1)

abbrev pub tells_take_look : Step BoardSlot → At → ℕ → At → Type 0
tells_take_look step me found new =
    Carries step look_full look_in_hand × ((j : ℕ) → step.word ≡ j + 2 → TellsTakeLook j me found new)

abbrev pub tells_has_taken : Step BoardSlot → At → ℕ → At → Type 0
tells_has_taken step me found new =
    Carries step look_emptied 0 × ((j : ℕ) → step.word ≡ j + 2 → new ≡ (has_taken me.0 j, rest me.1))

-- a seat that tried for the look of a ticket, found its word full and took it
abbrev pub took_look : View → ℕ → View
took_look v ticket = has_taken (takes_now v ticket) ticket
