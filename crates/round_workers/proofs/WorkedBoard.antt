-- A seat's way over a board, and what the words of looks say, written out.
use Rattle.std.proofs.Common.{◌≡◌, ℕ, ◌+◌, true, false, [], ◌∷◌, Some, None, refl, arith}
use mathlib.Core.Option as maybe
use Rattle.spec_record.specs.Look.{LookValue}
use Rattle.round_book.specs.Window.{Window}
use Rattle.round_workers.specs.declared.board.view.Basis.{Basis}
use Rattle.round_workers.specs.declared.board.view.BoardSlot.{BoardSlot}
use Rattle.round_workers.specs.declared.board.view.Phase.TheVariants.{Resting}
use Rattle.round_workers.specs.declared.board.view.Try.TheVariants.{Never, OfBook, OfLook}
use Rattle.round_workers.specs.declared.board.view.View.{View}
use Rattle.round_workers.specs.BoardPlays.{after_try, drew, has_put, has_seen, views_joined, made_one, newcomer, took_look, with_book, without_book}
use Rattle.round_workers.specs.BoardRule.{IsLookKept}
use Rattle.round_workers.specs.BoardSeats.{left_if}
use Rattle.round_workers.specs.BoardTotals.{late_among, once_below, summed}
use Rattle.round_workers.specs.BoardView.{book_home, book_out, first_seat, look_emptied, look_empty, look_full, look_in_hand}
use Rattle.round_workers.specs.BoardWorker.{ascends, those_below}

-- what the words say, as numbers
pub the_words : (book_home ∷ book_out ∷ look_empty ∷ look_in_hand ∷ look_full ∷ look_emptied ∷ []) ≡ 0 ∷ 1 ∷ 0 ∷ 1 ∷ 2 ∷ 3 ∷ []
the_words = refl

module _ (basis : Basis) where
  -- the first seat, once it has opened the book and made two others, and the second of these
  abbrev first : View
  first = made_one (made_one (has_seen (first_seat basis)))

  abbrev second : View
  second = newcomer (made_one (has_seen (first_seat basis)))

  pub the_first : first ≡ record { about = Some basis; number = 0; made = 2; parts = 0 ∷ []; drawn = []; put = []; took = []; holds = false; opened = true; tries = 0; last = Never; phase = Resting }
  the_first = refl

  pub the_second : second ≡ record { about = Some basis; number = 2; made = 0; parts = 2 ∷ []; drawn = []; put = []; took = []; holds = false; opened = true; tries = 0; last = Never; phase = Resting }
  the_second = refl

  -- it draws the tickets 3 and 5 and puts the look of 3; it tries for the book in vain, and then gets it
  abbrev holder : View
  holder = with_book (after_try (has_put (drew (drew second 3) 5) 3) (OfBook book_out))

  pub the_holder : holder ≡ record { about = Some basis; number = 2; made = 0; parts = 2 ∷ []; drawn = 3 ∷ 5 ∷ []; put = 3 ∷ []; took = []; holds = true; opened = true; tries = 2; last = OfBook 0; phase = Resting }
  the_holder = refl

  -- it takes the look of ticket 3, tries for that of 4, and gives the book
  abbrev giver : View
  giver = without_book (after_try (took_look holder 3) (OfLook 4 look_in_hand))

  pub the_giver : giver ≡ record { about = Some basis; number = 2; made = 0; parts = 2 ∷ []; drawn = 3 ∷ 5 ∷ []; put = 3 ∷ []; took = 3 ∷ []; holds = false; opened = true; tries = 4; last = OfLook 4 1; phase = Resting }
  the_giver = refl

  pub a_taker : (took_look holder 3).last ≡ OfLook 3 2
  a_taker = refl

  -- it goes into the first seat
  pub the_whole : views_joined (drew first 0) giver ≡ record { about = Some basis; number = 0; made = 2; parts = 0 ∷ 2 ∷ []; drawn = 0 ∷ 3 ∷ 5 ∷ []; put = 3 ∷ []; took = 3 ∷ []; holds = false; opened = true; tries = 0; last = Never; phase = Resting }
  the_whole = refl

-- what the word of a look is: before it is put, while a seat puts it, once it is put, while a seat takes it, and once
-- it is taken
module _ (window : Window) (ticket word : ℕ) (home : maybe.Option (maybe.Option BoardSlot)) where
  pub not_put : IsLookKept window ticket word home 0 0 0 0 → word ≡ 0
  not_put is = let sum = is.sum in omega arith

  pub being_put : IsLookKept window ticket word home 0 0 1 0 → word ≡ 1
  being_put is = let sum = is.sum in omega arith

  pub put : IsLookKept window ticket word home 1 0 0 0 → word ≡ 2
  put is = let sum = is.sum in omega arith

  pub being_taken : IsLookKept window ticket word home 1 0 0 1 → word ≡ 1
  being_taken is = let sum = is.sum in omega arith

  pub taken : IsLookKept window ticket word home 1 1 0 0 → word ≡ 3
  taken is = let sum = is.sum in omega arith

-- a look is left where it was put and not taken
pub left_looks : (look : LookValue) → (left_if 0 0 look ∷ left_if 1 0 look ∷ left_if 1 1 look ∷ []) ≡ None ∷ Some look ∷ None ∷ []
left_looks look = refl

-- totals, and numbers below or from 3 on
pub totals : (summed (λ (n : ℕ). n + 1) (2 ∷ 0 ∷ 5 ∷ []) ∷ once_below 2 3 ∷ once_below 3 3 ∷ late_among 3 (1 ∷ 3 ∷ 5 ∷ []) ∷ []) ≡ 10 ∷ 1 ∷ 0 ∷ 2 ∷ []
totals = refl

pub belows : those_below 3 (0 ∷ 2 ∷ 3 ∷ 5 ∷ []) ≡ 0 ∷ 2 ∷ []
belows = refl

pub ascending : (ascends 0 (0 ∷ 2 ∷ 5 ∷ []) ≡ true) × (ascends 0 (2 ∷ 2 ∷ []) ≡ false) × (ascends 1 (0 ∷ []) ≡ false)
ascending = (refl, refl, refl)
