-- What a step on the book's word, or on a look's, leaves of a board's rule.
use Rattle.std.proofs.Common.{◌≡◌, ◌≢◌, ℕ, ◌+◌, ◌<◌, List, length, set, sym, ◌∙◌, subst, arith, length-set, get_or-set_same, get_or-set_other}
use mathlib.Core.Option as maybe
use native.Mathlib.Decide.{ℕ_discrete}
use lib.ListN.{get_elem?}
use Rattle.std.specs.Prelude.{slice_index}
use Rattle.atomic_table.specs.Table.{State}
use Rattle.round_book.specs.Machine.{times}
use Rattle.round_workers.specs.declared.board.view.Basis.{Basis}
use Rattle.round_workers.specs.declared.board.view.BoardSlot.{BoardSlot}
use Rattle.round_workers.specs.declared.board.view.View.{View}
use Rattle.round_workers.specs.BoardView.{window_for}
use Rattle.round_workers.specs.BoardRule.{AreDealt, IsBookKeptBy, IsKept, IsLookKeptBy, Sits, has_opened, is_first, phase_opening, putting, taking, turns_of}
use Rattle.round_workers.proofs.BoardKeeps.{book-stays, look-stays, parts-stay, seats-set, tickets-stay}

-- a seat knows, has made, has drawn and is built from what it was
pub record IsSameSeat (v w : View) : Type 0 where
  pub about : w.about ≡ v.about
  pub number : w.number ≡ v.number
  pub made : w.made ≡ v.made
  pub parts : w.parts ≡ v.parts
  pub drawn : w.drawn ≡ v.drawn

-- it has done with this ticket's look what it had
pub record IsSameAt (j : ℕ) (v w : View) : Type 0 where
  pub put : times j w.put ≡ times j v.put
  pub took : times j w.took ≡ times j v.took
  pub puts : putting j w.phase ≡ putting j v.phase
  pub takes : taking j w.phase ≡ taking j v.phase

-- and with the book
pub record IsSameByBook (v w : View) : Type 0 where
  pub holds : w.holds ≡ v.holds
  pub opens : phase_opening w.phase ≡ phase_opening v.phase
  pub opened : w.opened ≡ v.opened

module _ (key : Basis) (s : State BoardSlot View) (r : IsKept key s) (id : ℕ) (v w : View) (at : get_elem? s.views id ≡ maybe.some v) (same : IsSameSeat v w) (sits : Sits key w) where
  first-same : is_first w ≡ is_first v
  first-same = λ k. is_first record v { about = same.about k; number = same.number k }

  -- a step on the book's word
  pub book-kept : (x : ℕ) (homes : List (maybe.Option BoardSlot)) → length homes ≡ length s.homes → ((k : ℕ) → k ≢ 0 → get_elem? homes k ≡ get_elem? s.homes k) → ((j : ℕ) → IsSameAt j v w)
      → IsBookKeptBy (window_for key) x (get_elem? homes 0) (set s.views id w) → IsKept key record { words = set s.words 1 x; homes = homes; views = set s.views id w }
  book-kept x homes long others stay book = let wide = r.words in record {
    playable = r.playable;
    words = length-set s.words 1 x ∙ r.words;
    homes = long ∙ r.homes;
    seats = seats-set key s.views id w r.seats sits;
    parts = parts-stay s.views id v w at same.parts same.made first-same r.parts;
    tickets = subst (λ (z : ℕ). AreDealt (turns_of key) z (set s.views id w)) (sym (get_or-set_other s.words 1 0 x 0 (λ e. omega arith))) (tickets-stay s.views id v w at (turns_of key) _ same.drawn r.tickets);
    book = subst (λ (z : ℕ). IsBookKeptBy (window_for key) z (get_elem? homes 0) (set s.views id w)) (sym (get_or-set_same s.words 1 x 0 (omega arith))) book;
    looks = λ j inside. let one = stay j in
        subst (λ (z : ℕ × maybe.Option (maybe.Option BoardSlot)). IsLookKeptBy (window_for key) j z.0 z.1 (set s.views id w)) (λ k. (sym (get_or-set_other s.words 1 (j + 2) x 0 (λ e. omega arith)) k, sym (others (j + 1) (λ e. omega arith)) k))
        (look-stays s.views id v w at (window_for key) j _ _ one.put one.took one.puts one.takes (r.looks j inside));
  }

  -- a step on the word of a look
  pub look-kept : (i x : ℕ) (homes : List (maybe.Option BoardSlot)) → i < turns_of key → length homes ≡ length s.homes → ((k : ℕ) → k ≢ i + 1 → get_elem? homes k ≡ get_elem? s.homes k) → IsSameByBook v w → ((j : ℕ) → j ≢ i → IsSameAt j v w)
      → IsLookKeptBy (window_for key) i x (get_elem? homes (i + 1)) (set s.views id w) → IsKept key record { words = set s.words (i + 2) x; homes = homes; views = set s.views id w }
  look-kept i x homes inside_i long others by_book stay look = let wide = r.words in record {
    playable = r.playable;
    words = length-set s.words (i + 2) x ∙ r.words;
    homes = long ∙ r.homes;
    seats = seats-set key s.views id w r.seats sits;
    parts = parts-stay s.views id v w at same.parts same.made first-same r.parts;
    tickets = subst (λ (z : ℕ). AreDealt (turns_of key) z (set s.views id w)) (sym (get_or-set_other s.words (i + 2) 0 x 0 (λ e. omega arith))) (tickets-stay s.views id v w at (turns_of key) _ same.drawn r.tickets);
    book = subst (λ (z : ℕ × maybe.Option (maybe.Option BoardSlot)). IsBookKeptBy (window_for key) z.0 z.1 (set s.views id w)) (λ k. (sym (get_or-set_other s.words (i + 2) 1 x 0 (λ e. omega arith)) k, sym (others 0 (λ e. omega arith)) k))
        (book-stays s.views id v w at (window_for key) _ _ by_book.holds by_book.opens opened-same by_book.opened r.book);
    looks = λ j inside. by_cases j inside (ℕ_discrete j i);
  } where
    opened-same : has_opened w ≡ has_opened v
    opened-same = λ k. has_opened record v { about = same.about k; number = same.number k; opened = by_book.opened k }

    by_cases : (j : ℕ) → j < turns_of key → Dec (j ≡ i) → IsLookKeptBy (window_for key) j (slice_index (set s.words (i + 2) x) (j + 2)) (get_elem? homes (j + 1)) (set s.views id w)
    by_cases j inside (yes is) = subst (λ (m : ℕ). IsLookKeptBy (window_for key) m (slice_index (set s.words (i + 2) x) (m + 2)) (get_elem? homes (m + 1)) (set s.views id w)) (sym is)
        (subst (λ (z : ℕ). IsLookKeptBy (window_for key) i z (get_elem? homes (i + 1)) (set s.views id w)) (sym (get_or-set_same s.words (i + 2) x 0 (let wide : length s.words ≡ turns_of key + 2 = r.words in omega arith))) look)
    by_cases j inside (no other) = let one = stay j other in
        subst (λ (z : ℕ × maybe.Option (maybe.Option BoardSlot)). IsLookKeptBy (window_for key) j z.0 z.1 (set s.views id w)) (λ k. (sym (get_or-set_other s.words (i + 2) (j + 2) x 0 (λ e. other (omega arith))) k, sym (others (j + 1) (λ e. other (omega arith))) k))
        (look-stays s.views id v w at (window_for key) j _ _ one.put one.took one.puts one.takes (r.looks j inside))
