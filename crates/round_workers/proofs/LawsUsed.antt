-- Each law of boards, used at single tickets, with its words written out: a weaker law would not do.
use Rattle.std.proofs.Common.{◌≡◌, ◌≢◌, ◌⊎◌, ℕ, ◌+◌, ◌-◌, ◌<◌, ◌≤◌, List, Some}
use Rattle.std.specs.Prelude.{◌↔◌, slice_index, slice_set}
use mathlib.Core.Option as maybe
use lib.ListN.{get_elem?}
use Rattle.atomic_table.specs.Table.{State}
use Rattle.cell_world.specs.Cell.{one_if}
use Rattle.round_book.specs.Machine as machine
use Rattle.round_book.specs.Machine.{times}
use Rattle.round_book.specs.Machine.Event.{Puts}
use Rattle.round_book.specs.Book.{BookValue, StandsFor}
use Rattle.round_book.specs.BookLaws.{IsAt}
use Rattle.round_book.specs.Window.{look_for}
use Rattle.round_workers.specs.declared.board.view.Basis.{Basis}
use Rattle.round_workers.specs.declared.board.view.BoardSlot.{BoardSlot}
use Rattle.round_workers.specs.declared.board.view.BoardSlot.TheVariants.{OneLook}
use Rattle.round_workers.specs.declared.board.view.Phase.TheVariants.{Putting}
use Rattle.round_workers.specs.declared.board.view.View.{View}
use Rattle.round_workers.specs.BoardLaws.{BoardStepsAreEvents, BoardsAreReached, BoardsSay, Mirrors}
use Rattle.round_workers.specs.BoardPlays.{drew, has_put}
use Rattle.round_workers.specs.BoardRule.{HasBook, HasHome, IsKept, IsSpare, has_opened, putting, taking}
use Rattle.round_workers.specs.BoardTotals.{summed}
use Rattle.round_workers.specs.BoardView.{window_for}

-- a board between two steps, and a seat of it
module _ (key : Basis) (s : State BoardSlot View) (kept : IsKept key s) where
  -- the tickets, the book, and the look of the first ticket
  pub boards_say_used : BoardsSay → 0 < key.to - key.from →
      (slice_index s.words 0 ≤ key.to - key.from + 17)
      × (summed has_opened s.views ≡ 1 → slice_index s.words 1 ≡ 0 → (summed (λ v. one_if v.holds) s.views ≡ 0) × HasBook (get_elem? s.homes 0) (window_for key))
      × (summed has_opened s.views ≡ 1 → slice_index s.words 1 ≢ 0 → (slice_index s.words 1 ≡ 1) × (summed (λ v. one_if v.holds) s.views ≡ 1))
      × (slice_index s.words 2 ≤ 3)
      × (slice_index s.words 2 ≡ 0 → summed (λ v. times 0 v.put) s.views ≡ 0)
      × (slice_index s.words 2 ≡ 2 → (summed (λ v. times 0 v.put) s.views ≡ 1) × (summed (λ v. times 0 v.took) s.views ≡ 0)
      × HasHome (get_elem? s.homes 1) (OneLook (Some (look_for (window_for key) (key.from + 0)))))
      × ((slice_index s.words 2 ≡ 3) ↔ (summed (λ v. times 0 v.took) s.views ≡ 1))
      × (slice_index s.words 2 ≡ 1 → (summed (λ v. times 0 v.took) s.views ≡ 0)
      × (summed (λ v. putting 0 v.phase) s.views + summed (λ v. taking 0 v.phase) s.views ≡ 1)
      × (summed (λ v. times 0 v.put) s.views ≡ summed (λ v. taking 0 v.phase) s.views))
      × ((slice_index s.words 2 ≡ 0) ⊎ (slice_index s.words 2 ≡ 3) → IsSpare (get_elem? s.homes 1))
      × ((i : ℕ) (v : View) → get_elem? s.views i ≡ maybe.some v → 1 ≤ times 0 v.drawn → times 0 v.put ≡ 0 →
      (slice_index s.words 2 ≡ 0) ⊎ ((slice_index s.words 2 ≡ 1) × (putting 0 v.phase ≡ 1)))
      × ((j : ℕ) → 1 ≤ summed (λ v. times j v.put) s.views + summed (λ v. times j v.took) s.views → j < key.to - key.from)
  boards_say_used law some =
      let look = law.looks key s kept 0 some in (
        law.tickets key s kept,
        law.book_home_stands key s kept,
        law.book_out_held key s kept,
        look.one_of_four,
        look.empty,
        look.full,
        look.emptied,
        look.in_hand,
        look.bare,
        look.drawn,
        law.turns_alone key s kept,
      )

  -- what the board is after a seat drew a ticket, and after one put the look of ticket 0
  abbrev with_drawn : ℕ → View → State BoardSlot View
  with_drawn id v = record { words = slice_set s.words 0 (slice_index s.words 0 + 1); homes = s.homes; views = slice_set s.views id (drew v (slice_index s.words 0)) }

  abbrev with_put : ℕ → View → State BoardSlot View
  with_put id v = record { words = slice_set s.words 2 2; homes = s.homes; views = slice_set s.views id (has_put v 0) }

  pub board_steps_are_events_used : BoardStepsAreEvents → (id : ℕ) (v : View) (m : machine.State) → get_elem? s.views id ≡ maybe.some v → Mirrors key s m →
      (m.drawn + 1 ≡ slice_index (with_drawn id v).words 0)
      × ((j : ℕ) → machine.IsPut m j ↔ (1 ≤ summed (λ w. times j w.put) (with_drawn id v).views))
      × (v.phase ≡ Putting 0 → 0 < key.to - key.from → machine.AreDealt m.drawn m.hands →
      (hand : ℕ) × machine.CanPut (window_for key) m hand 0 × (m.drawn ≡ slice_index (with_put id v).words 0)
      × ((j : ℕ) → machine.IsPut (machine.happens (window_for key) m (Puts hand 0)) j ↔ (1 ≤ summed (λ w. times j w.put) (with_put id v).views)))
  board_steps_are_events_used law id v m seat mirrors =
      let drawn = law.draws key s id v m 3 kept seat mirrors in (
        drawn.1.drawn,
        drawn.1.put,
        (λ phase some dealt.
            let put = law.puts key s id v m 0 2 s.homes kept seat phase some dealt mirrors in
            (put.0, put.1, put.2.drawn, put.2.put)),
      )

  -- events lead to where the board is, and where the looks before a book's next turn were put, to where the book is too
  pub boards_are_reached_used : BoardsAreReached →
      ((events : List machine.Event) × machine.AreLawful (window_for key) (machine.first_state (window_for key)) events
      × Mirrors key s (machine.run (window_for key) (machine.first_state (window_for key)) events))
      × ((book : BookValue) → StandsFor (window_for key) book → book.next ≤ book.to → ((j : ℕ) → j < book.next - book.from → 1 ≤ summed (λ v. times j v.put) s.views) →
      (events : List machine.Event) × machine.AreLawful (window_for key) (machine.first_state (window_for key)) events
      × Mirrors key s (machine.run (window_for key) (machine.first_state (window_for key)) events)
      × IsAt (machine.run (window_for key) (machine.first_state (window_for key)) events) book)
  boards_are_reached_used law =
      let way = law.board key s kept in (
        (way.events, way.lawful, way.there),
        (λ book stands early put. let both = law.book key s book kept stands early put in (both.events, both.lawful, both.there.0, both.there.1)),
      )
