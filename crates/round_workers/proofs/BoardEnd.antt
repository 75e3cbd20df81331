-- What holds of a board's last state, if its first seat has every part.
use Rattle.std.proofs.Common.{◌≡◌, ◌≢◌, ℕ, zero, suc, ◌+◌, ◌^◌, ◌<◌, ◌≤◌, Bool, true, false, List, [], ◌∷◌, ◌++◌, map, length, get_or, set, sym, refl, ap, ◌∙◌, subst, ⊎_elim, arith, get_or-set_other, get_or-set_same, Option, Some, None}
use mathlib.Core.Option as maybe
use native.Mathlib.Decide.{ℕ_discrete}
use lib.ListN.{get_elem?}
use Rattle.std.proofs.Math.ListN.{get_or-append}
use Rattle.std.proofs.Math.Seq.{get_or-append_seam}
use Rattle.std.specs.Prelude.{IfSome, slice_index, slice_index_or}
use Rattle.atomic_table.specs.Table.{Final, Seen, State}
use Rattle.cell_world.specs.Cell.{one_if}
use Rattle.spec_record.specs.Look.{LookValue}
use Rattle.round_book.specs.Book.{BookValue, StandsFor}
use Rattle.round_book.specs.Machine.{times}
use Rattle.round_book.specs.Window.{Window, look_for}
use Rattle.round_workers.specs.declared.board.view.Basis.{Basis}
use Rattle.round_workers.specs.declared.board.view.BoardSlot.{BoardSlot}
use Rattle.round_workers.specs.declared.board.view.BoardSlot.TheVariants.{Nothing, OneLook, Spare, TheBook}
use Rattle.round_workers.specs.declared.board.view.Phase.TheVariants.{Resting}
use Rattle.round_workers.specs.declared.board.view.View.{View}
use Rattle.round_workers.specs.BoardTotals.{once_below, summed}
use Rattle.round_workers.specs.BoardView.{spent_seat, window_for}
use Rattle.round_workers.specs.BoardRule.{HasHome, IsKept, IsLookKept, made_by, putting, taking, turns_of}
use Rattle.round_workers.specs.Inner.BoardPlaces.{AreTaken, book_room, look_in}
use Rattle.round_workers.specs.BoardSeats.{left_if, left_look}
use Rattle.round_workers.proofs.BoardTotalLemmas.{below-where, once-le, total-alone, total-at, total-two}
use Rattle.round_workers.proofs.BoardStart.{made-all}
use Rattle.round_workers.proofs.BoardBook.{opened-seen}
use Rattle.round_workers.proofs.BoardTickets.{few-turns, word-bound}
use Rattle.round_workers.specs.BoardLaws.{IsWhereClosed, Mirrors, Way}
use Rattle.round_workers.proofs.BoardWays.{board-way, way-map}

-- a look that was put, or not, and taken, or not, and what its slot has
look-left : (window : Window) (ticket word put took : ℕ) (home : maybe.Option (maybe.Option BoardSlot)) (kept : IsLookKept window ticket word home put took 0 0)
    → (place : BoardSlot) × HasHome home place × (look_in place ≡ left_if put took (look_for window (window.from + ticket)))
look-left window ticket word (suc zero) zero home kept = (OneLook (Some (look_for window (window.from + ticket))), kept.full refl refl, refl)
look-left window ticket word (suc (suc put)) took home kept = absurd (let once = kept.once in omega arith)
look-left window ticket word it took home kept = let spare = kept.bare (let back = kept.back in omega arith) refl in (Spare spare.0, spare.1, refl)

-- what the last state has: how many tickets were drawn, the book, and the look of each ticket
pub record IsLast (key : Basis) (v : View) (words : List ℕ) (slots : List BoardSlot) : Type 0 where
  pub small : slice_index words 0 < 2 ^ 32
  pub drawn : (k : ℕ) → times k v.drawn ≡ once_below k (slice_index words 0)
  pub book : (book : BookValue) × (get_elem? slots 0 ≡ maybe.some (TheBook (Some book))) × StandsFor (window_for key) book
  pub looks : (k : ℕ) → k < turns_of key → (place : BoardSlot) × (get_elem? slots (k + 1) ≡ maybe.some place) × (look_in place ≡ left_look (window_for key) v k)
  pub reached : Way (window_for key) (IsWhereClosed (window_for key) (slice_index words 0) v.put)

module _ (key : Basis) (id : ℕ) (v : View) (about : v.about ≡ Some key) (zeroth : v.number ≡ 0) (whole : (k : ℕ) → k ≤ v.made → 1 ≤ times k v.parts) (s : State BoardSlot View) (r : IsKept key s) (at : get_elem? s.views id ≡ maybe.some v) where
  -- every other seat went into this one
  all-spent : (j : ℕ) (w : View) → j ≢ id → get_elem? s.views j ≡ maybe.some w → w ≡ spent_seat
  all-spent j w other there = ⊎_elim (λ spent. spent)
      (λ is. let two = total-two (λ (u : View). times w.number u.parts) s.views id j v w at there other in let sum = r.parts.each w.number in let few = once-le w.number (made_by s.views + 1) in let own = is.own in
      let made = made-all key s r id v at about zeroth in let below = below-where w.number (made_by s.views + 1) (omega arith) in let mine = whole w.number (omega arith) in absurd (omega arith))
      (r.seats j w there)

  alone : (f : View → ℕ) → f spent_seat ≡ 0 → summed f s.views ≡ f v
  alone f none_left = total-alone f s.views id v at (λ j w other there. subst (λ (u : View). f u ≡ 0) (sym (all-spent j w other there)) none_left)

  module _ (rests : v.phase ≡ Resting) (seen : v.opened ≡ true) (free : v.holds ≡ false) (words : List ℕ) (slots : List BoardSlot) (are : s.words ≡ words) (home : (k : ℕ) (y : BoardSlot) → HasHome (get_elem? s.homes k) y → get_elem? slots k ≡ maybe.some y) where
    last : IsLast key v words slots
    last =
        let bound = word-bound key s r in let few = few-turns key s r in let word : slice_index s.words 0 ≡ slice_index words 0 = ap (λ (ws : List ℕ). slice_index ws 0) are in
        let held = alone (λ u. one_if u.holds) refl ∙ ap one_if free in let saw : one_if v.opened ≡ 1 = ap one_if seen in let more = total-at (λ (u : View). one_if u.opened) s.views id v at in
        let was_opened = opened-seen _ _ _ _ _ _ _ r.book (omega arith) in let it = r.book.stands was_opened held in record {
          small = omega arith;
          drawn = λ k. sym (alone (λ u. times k u.drawn) refl) ∙ (r.tickets.each k ∙ ap (once_below k) word);
          book = (it.0, home 0 (TheBook (Some it.0)) it.1, it.2);
          looks = λ k inside. (let found = look-left (window_for key) k _ (times k v.put) (times k v.took) (get_elem? s.homes (k + 1))
              (subst (λ (z : ℕ × ℕ × ℕ × ℕ). IsLookKept (window_for key) k (slice_index s.words (k + 2)) (get_elem? s.homes (k + 1)) z.0 z.1 z.2 z.3)
              (λ i. (alone (λ u. times k u.put) refl i, alone (λ u. times k u.took) refl i, (alone (λ u. putting k u.phase) refl ∙ ap (putting k) rests) i, (alone (λ u. taking k u.phase) refl ∙ ap (taking k) rests) i)) (r.looks k inside)) in
              (found.0, home (k + 1) found.0 found.1, found.2));
          reached = way-map (window_for key) (Mirrors key s) (IsWhereClosed (window_for key) (slice_index words 0) v.put)
              (λ m mir. record {
                drawn = mir.drawn ∙ word;
                put = λ j. let sum = alone (λ u. times j u.put) refl in let one = mir.put j in (λ is_put. (let a = one.0 is_put in omega arith), λ some. one.1 (omega arith));
              })
              (board-way key s r);
        }

-- the same, of a table that is closed
pub lasts : (key : Basis) (id : ℕ) (v : View) → v.about ≡ Some key → v.number ≡ 0 → ((k : ℕ) → k ≤ v.made → 1 ≤ times k v.parts) → v.phase ≡ Resting → v.opened ≡ true → v.holds ≡ false
    → (words : List ℕ) (slots : List BoardSlot) → Final (Seen (IsKept key) id v) words slots → IsLast key v words slots
lasts key id v about zeroth whole rests seen free words slots final = last key id v about zeroth whole final.0 final.1.0 final.1.1 rests seen free words slots final.2 (λ k y at. final.4 k y at)

-- an element that is there
pub index-at : (l : List ℕ) (i x : ℕ) → get_elem? l i ≡ maybe.some x → slice_index l i ≡ x
index-at [] i x e = absurd (maybe.some-ne-none x (sym e))
index-at (y ∷ ys) zero x e = maybe.some-injective y x e
index-at (y ∷ ys) (suc i) x e = index-at ys i x e

-- one more slot whose value is taken out
pub taken-more : (n count : ℕ) (filled new : List Bool) → count ≡ length filled → n < count → new ≡ set filled n false → AreTaken n count filled → AreTaken (n + 1) count new
taken-more n count filled new long inside is was = record { taken = λ k h. ap (λ (l : List Bool). get_or l k false) is ∙ before k h (ℕ_discrete k n); there = λ k h lt. ap (λ (l : List Bool). get_or l k false) is ∙ (get_or-set_other filled n k false false (λ e. omega arith) ∙ was.there k (omega arith) lt) } where
  before : (k : ℕ) → k < n + 1 → Dec (k ≡ n) → get_or (set filled n false) k false ≡ false
  before k h (yes e) = subst (λ (m : ℕ). get_or (set filled n false) m false ≡ false) (sym e) (get_or-set_same filled n false false (omega arith))
  before k h (no ne) = get_or-set_other filled n k false false ne ∙ was.taken k (omega arith)

-- the look of a ticket, from what its slot has
pub look-at-slot : (key : Basis) (v : View) (words : List ℕ) (slots : List BoardSlot) (k : ℕ) (place : BoardSlot) → IsLast key v words slots → k < turns_of key → get_elem? slots (k + 1) ≡ maybe.some place → look_in place ≡ left_look (window_for key) v k
look-at-slot key v words slots k place last inside at = let found = last.looks k inside in ap look_in (maybe.some-injective place found.0 (sym at ∙ found.1)) ∙ found.2

-- the book, from what its slot has
pub book-at-slot : (key : Basis) (v : View) (words : List ℕ) (slots : List BoardSlot) (place : BoardSlot) → IsLast key v words slots → get_elem? slots 0 ≡ maybe.some place → (book : BookValue) × (book_room place ≡ Some (Some book)) × StandsFor (window_for key) book
book-at-slot key v words slots place last at = (last.book.0, ap book_room (maybe.some-injective place (TheBook (Some last.book.0)) (sym at ∙ last.book.1)), last.book.2)

-- it is the one that was found
pub stands-so : (window : Window) (result : Option BookValue) (one other : BookValue) → result ≡ Some one → result ≡ Some other → StandsFor window one → StandsFor window other
stands-so window result one other a b stands = subst (λ (o : Option BookValue). IfSome o (StandsFor window)) (sym a ∙ b) stands

-- one more place in order
pub places-more : (window : Window) (v : View) (places new : List BoardSlot) (n : ℕ) (place : BoardSlot) → length places ≡ n → new ≡ places ++ place ∷ [] → look_in place ≡ left_look window v n
    → ((k : ℕ) → k < n → look_in (get_or places k Nothing) ≡ left_look window v k) → (k : ℕ) → k < n + 1 → look_in (get_or new k Nothing) ≡ left_look window v k
places-more window v places new n place long is here before k h = ap (λ (l : List BoardSlot). look_in (get_or l k Nothing)) is ∙ go (ℕ_discrete k n) where
  go : Dec (k ≡ n) → look_in (get_or (places ++ place ∷ []) k Nothing) ≡ left_look window v k
  go (yes e) = subst (λ (m : ℕ). look_in (get_or (places ++ place ∷ []) m Nothing) ≡ left_look window v m) (sym e)
      (ap look_in (subst (λ (m : ℕ). get_or (places ++ place ∷ []) m Nothing ≡ place) long (get_or-append_seam places place [] Nothing)) ∙ here)
  go (no ne) = ap look_in (get_or-append places (place ∷ []) Nothing k (omega arith)) ∙ before k (omega arith)

-- the looks of places are as many
pub places-looked : (places : List BoardSlot) → length (map look_in places) ≡ length places
places-looked [] = refl
places-looked (p ∷ ps) = ap suc (places-looked ps)

-- the look of each place
pub looks-of : (places : List BoardSlot) (k : ℕ) → slice_index_or (map look_in places) k None ≡ look_in (slice_index_or places k Nothing)
looks-of (p ∷ ps) (suc k) = looks-of ps k
looks-of it k = refl

snoc-append : (xs : List (Option LookValue)) (x : Option LookValue) (ys : List (Option LookValue)) → (xs ++ x ∷ []) ++ ys ≡ xs ++ x ∷ ys
snoc-append [] x ys = refl
snoc-append (z ∷ zs) x ys = ap (λ (l : List (Option LookValue)). z ∷ l) (snoc-append zs x ys)

-- one more place whose look is taken out
pub looks-on : (looks new all : List (Option LookValue)) (look : Option LookValue) (place : BoardSlot) (rest left : List BoardSlot) → new ≡ looks ++ look ∷ [] → look ≡ look_in place → rest ≡ place ∷ left → looks ++ map look_in rest ≡ all → new ++ map look_in left ≡ all
looks-on looks new all look place rest left is it next so_far =
    ap (λ (l : List (Option LookValue)). l ++ map look_in left) (is ∙ ap (λ (o : Option LookValue). looks ++ o ∷ []) it)
    ∙ (snoc-append looks (look_in place) (map look_in left) ∙ (ap (λ (l : List BoardSlot). looks ++ map look_in l) (sym next) ∙ so_far))
