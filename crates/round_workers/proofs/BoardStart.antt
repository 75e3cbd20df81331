-- A board's rule at the start, and the steps of seats keep it: a seat is cut in two, two seats are made one.
use Rattle.std.proofs.Common.{◌≡◌, ◌≢◌, ℕ, zero, suc, ◌+◌, ◌<◌, ◌≤◌, false, List, [], ◌∷◌, ◌++◌, map, length, set, sym, refl, ap, ◌∙◌, subst, inl, inr, ⊎_elim, arith, length-append, replicate, Option, None, Some}
use mathlib.Core.Option as maybe
use native.Mathlib.Decide.{ℕ_discrete}
use lib.ListN.{get_elem?}
use Rattle.std.proofs.lemmas.List.{get_or-replicate, length-replicate}
use Rattle.std.specs.Prelude.{slice_index, nat_eq}
use Rattle.atomic_table.specs.Table.{Allows, Me, State, opening as opening_table, Splits, Joins, keeps, step, stepped}
use Rattle.atomic_table.proofs.Lists.{set_again, set_else}
use Rattle.cell_world.specs.Cell.{one_if}
use Rattle.spec_record.specs.Look.{LookValue}
use Rattle.round_book.specs.Book.{BookValue}
use Rattle.round_book.specs.Machine.{times}
use Rattle.round_book.specs.Window.{IsPlayable}
use Rattle.round_workers.specs.declared.board.view.Basis.{Basis}
use Rattle.round_workers.specs.declared.board.view.BoardSlot.{BoardSlot}
use Rattle.round_workers.specs.declared.board.view.BoardSlot.TheVariants.{Spare, TheBook}
use Rattle.round_workers.specs.declared.board.view.Phase.TheVariants.{Resting}
use Rattle.round_workers.specs.declared.board.view.View.{View}
use Rattle.round_workers.specs.BoardTotals.{late_among, once_below, summed}
use Rattle.round_workers.specs.BoardView.{first_seat, spent_seat, window_for}
use Rattle.round_workers.specs.BoardPlays.{views_joined, made_one, newcomer, tells_each_once}
use Rattle.round_workers.specs.BoardRule.{AreParts, HasHome, IsKept, IsSeated, has_opened, is_first, made_by, phase_opening, putting, taking, turns_of}
use Rattle.round_workers.specs.Crews.{most_workers}
use Rattle.round_workers.specs.Inner.BoardPlaces.{AreBare}
use Rattle.round_workers.proofs.BoardTotalLemmas.{above-none, late-append, once-le, once-suc, same-one, times-append, total-alone, total-at, total-joined, total-set, total-snoc, total-two}
use Rattle.round_workers.proofs.BoardKeeps.{book-by, book-seen, first-other, first-seat, look-by, only-none, seated, seats-set, seats-snoc}

homes-length : (slots : List BoardSlot) → length (map maybe.some slots) ≡ length slots
homes-length [] = refl
homes-length (x ∷ xs) = ap suc (homes-length xs)

-- a slot is home with what it begins with
home-of : (slots : List BoardSlot) (i : ℕ) (x : BoardSlot) → get_elem? slots i ≡ maybe.some x → HasHome (get_elem? (map maybe.some slots) i) x
home-of [] i x at = absurd (maybe.some-ne-none x (sym at))
home-of (y ∷ ys) zero x at = ap maybe.some at
home-of (y ∷ ys) (suc i) x at = home-of ys i x at

-- an element of a list, and of one with one more
at-front : (xs : List BoardSlot) (x : BoardSlot) (i : ℕ) (y : BoardSlot) → get_elem? xs i ≡ maybe.some y → get_elem? (xs ++ x ∷ []) i ≡ maybe.some y
at-front [] x i y at = absurd (maybe.some-ne-none y (sym at))
at-front (z ∷ zs) x zero y at = at
at-front (z ∷ zs) x (suc i) y at = at-front zs x i y at

at-last : (xs : List BoardSlot) (x : BoardSlot) → get_elem? (xs ++ x ∷ []) (length xs) ≡ maybe.some x
at-last [] x = refl
at-last (z ∷ zs) x = at-last zs x

-- the book's room alone, and one room for a look more
pub bare-first : (slots : List BoardSlot) (content : Option BookValue) → content ≡ None → slots ≡ [] ++ TheBook content ∷ [] → AreBare 0 slots
bare-first slots content none is = subst (AreBare 0) (sym (is ∙ ap (λ (z : Option BookValue). TheBook z ∷ []) none)) (record { long = refl; book = refl; spares = λ j below. absurd (omega arith) })

pub bare-more : (n : ℕ) (slots new : List BoardSlot) (old : Option LookValue) → AreBare n slots → new ≡ slots ++ Spare old ∷ [] → AreBare (n + 1) new
bare-more n slots new old was is = subst (AreBare (n + 1)) (sym is) (record {
  long = (let a = length-append slots (Spare old ∷ []) in let b = was.long in omega arith);
  book = at-front slots (Spare old) 0 (TheBook None) was.book;
  spares = λ j below. by_cases j below (ℕ_discrete j n);
}) where
  by_cases : (j : ℕ) → j < n + 1 → Dec (j ≡ n) → (o : Option LookValue) × (get_elem? (slots ++ Spare old ∷ []) (j + 1) ≡ maybe.some (Spare o))
  by_cases j below (yes e) = (old, ap (get_elem? (slots ++ Spare old ∷ [])) (let long = was.long in let at : j + 1 ≡ length slots = omega arith in at) ∙ at-last slots (Spare old))
  by_cases j below (no ne) = let it = was.spares j (omega arith) in (it.0, at-front slots (Spare old) (j + 1) (Spare it.0) it.1)

first-parts : (key : Basis) → AreParts (first_seat key ∷ [])
first-parts key = record {
  each = λ x. let more = once-suc x 0 in let none_of = above-none x 0 (omega arith) in omega arith;
  count = refl;
  few = omega arith;
  first = refl;
}

-- at the start nothing is drawn, and no slot has the book or a look
pub starts : (key : Basis) (slots : List BoardSlot) → IsPlayable (window_for key) → AreBare (turns_of key) slots → IsKept key (opening_table (replicate (turns_of key + 2) 0) slots (first_seat key))
starts key slots playable bare = let n : ℕ = turns_of key in record {
  playable = playable;
  words = length-replicate (n + 2) 0;
  homes = homes-length slots ∙ bare.long;
  seats = λ i v at. inr (subst (IsSeated key) (only i v at) (record { same = refl; own = (omega arith); makes = (λ ne. refl); late = (omega arith); drew = (λ x. omega arith); within = (λ x far. omega arith); opens = (omega arith) }));
  parts = first-parts key;
  tickets = (let no_word : slice_index (replicate (n + 2) 0) 0 ≡ 0 = get_or-replicate (n + 2) 0 0 0 (omega arith) in record { each = (λ x. let none_of : once_below x (slice_index (replicate (n + 2) 0) 0) ≡ 0 = above-none x (slice_index (replicate (n + 2) 0) 0) (omega arith) in omega arith); within = (omega arith) });
  book = (let no_word : slice_index (replicate (n + 2) 0) 1 ≡ 0 = get_or-replicate (n + 2) 1 0 0 (omega arith) in record { out = (omega arith); bit = (omega arith); once = (omega arith); unheld = (λ e. refl); unseen = (λ e. refl); bare = (λ e. home-of slots 0 (TheBook None) bare.book); stands = (λ e. absurd (omega arith)) });
  looks = λ j inside. (let no_word : slice_index (replicate (n + 2) 0) (j + 2) ≡ 0 = get_or-replicate (n + 2) (j + 2) 0 0 (omega arith) in let spare = bare.spares j inside in record { sum = (omega arith); once = (omega arith); back = (omega arith); bare = (λ e d. (spare.0, home-of slots (j + 1) (Spare spare.0) spare.1)); full = (λ e. absurd (omega arith)) });
} where
  only : (i : ℕ) (v : View) → get_elem? (first_seat key ∷ []) i ≡ maybe.some v → first_seat key ≡ v
  only zero v at = maybe.some-injective (first_seat key) v at
  only (suc i) v at = absurd (maybe.some-ne-none v (sym at))

pub starts-so : (key : Basis) (words : List ℕ) (slots : List BoardSlot) → IsPlayable (window_for key) → words ≡ replicate (turns_of key + 2) 0 → AreBare (turns_of key) slots → IsKept key (opening_table words slots (first_seat key))
starts-so key words slots playable ew bare = subst (λ (z : List ℕ). IsKept key (opening_table z slots (first_seat key))) (sym ew) (starts key slots playable bare)

-- the first seat made them all
pub made-all : (key : Basis) (s : State BoardSlot View) (r : IsKept key s) (id : ℕ) (v : View) → get_elem? s.views id ≡ maybe.some v → v.about ≡ Some key → v.number ≡ 0 → made_by s.views ≡ v.made
made-all key s r id v at about zeroth = total-alone (λ u. u.made) s.views id v at (λ j w other there. ⊎_elim (λ spent. ap (λ (u : View). u.made) spent)
    (λ is. is.makes (λ zero_too. let two = total-two is_first s.views id j v w at there other in let one = r.parts.first in let a = first-seat key v about zeroth in let b = first-seat key w is.same zero_too in absurd (omega arith)))
    (r.seats j w there))

module _ (key : Basis) (id : ℕ) (v : View) (about : v.about ≡ Some key) (zeroth : v.number ≡ 0) (few : v.made < most_workers) where
  pub splits : Splits (IsKept key) id v (made_one v) (newcomer v)
  splits s r at =
      let w : View = made_one v in let u : View = newcomer v in let n : ℕ = turns_of key in let one : List View = set s.views id w in let is = seated key v about (r.seats id v at) in
      let no_first : is_first u ≡ 0 = first-other u.about u.number (λ e. omega arith) in let no_opener : has_opened u ≡ 0 = only-none v.opened (is_first u) no_first in
      let made = made-all key s r id v at about zeroth in let mades = total-set (λ x. x.made) s.views id v w at in let mades' = total-snoc (λ x. x.made) one u in
      let more : made_by (one ++ u ∷ []) ≡ made_by s.views + 1 = omega arith in
      let grow : (f : View → ℕ) → f w ≡ f v → summed f (one ++ u ∷ []) ≡ summed f s.views + f u = λ f e. (let a = total-snoc f one u in let b = total-set f s.views id v w at in omega arith) in
      record {
        playable = r.playable;
        words = r.words;
        homes = r.homes;
        seats = seats-snoc key one u (seats-set key s.views id w r.seats (inr record { same = about; own = is.own; makes = (λ ne. absurd (ne zeroth)); late = is.late; drew = is.drew; within = is.within; opens = is.opens }))
            (inr record { same = about; own = (let a = same-one (suc v.made) (suc v.made) refl in omega arith); makes = (λ ne. refl); late = (omega arith); drew = (λ x. omega arith); within = (λ x far. omega arith); opens = (omega arith) });
        parts = record {
          each = λ x. let sum = grow (λ y. times x y.parts) refl in let old = r.parts.each x in let next = once-suc x (made_by s.views + 1) in
              let named : one_if (nat_eq (suc v.made) x) ≡ one_if (nat_eq (made_by s.views + 1) x) = ap (λ (m : ℕ). one_if (nat_eq m x)) (let e : suc v.made ≡ made_by s.views + 1 = omega arith in e) in
              let bound : once_below x (made_by (one ++ u ∷ []) + 1) ≡ once_below x (made_by s.views + 1 + 1) = ap (λ (m : ℕ). once_below x (m + 1)) more in omega arith;
          count = (let sum = grow (λ y. length y.parts) refl in let old = r.parts.count in omega arith);
          few = omega arith;
          first = (let sum = grow is_first refl in let old = r.parts.first in omega arith);
        };
        tickets = record {
          each = λ x. (let sum = grow (λ y. times x y.drawn) refl in let old = r.tickets.each x in omega arith);
          within = (let sum = grow (λ y. late_among n y.drawn) refl in let old = r.tickets.within in omega arith);
        };
        book = (let seen = grow (λ y. one_if y.opened) refl in let here = total-at (λ y. one_if y.opened) s.views id v at in
            book-seen (window_for key) _ _ _ _ _ (summed (λ y. one_if y.opened) s.views) _ (λ e. omega arith)
            (book-by (window_for key) _ _ _ _ _ _ _ _ _ _ (grow (λ y. one_if y.holds) refl ∙ (omega arith)) (grow (λ y. phase_opening y.phase) refl ∙ (omega arith)) (grow has_opened refl ∙ (omega arith)) refl r.book));
        looks = λ j inside. look-by (window_for key) j _ _ _ _ _ _ _ _ _ _ (grow (λ y. times j y.put) refl ∙ (omega arith)) (grow (λ y. times j y.took) refl ∙ (omega arith))
            (grow (λ y. putting j y.phase) refl ∙ (omega arith)) (grow (λ y. taking j y.phase) refl ∙ (omega arith)) (r.looks j inside);
      }

module _ (key : Basis) (id : ℕ) (v : View) (other : ℕ) (w : View) (about : v.about ≡ Some key) (about' : w.about ≡ Some key) (numbered : w.number ≢ 0) (free : w.holds ≡ false) (rests : w.phase ≡ Resting) where
  pub joins : Joins (IsKept key) id v other w (views_joined v w) spent_seat
  joins s r at ne there =
      let both : View = views_joined v w in let n : ℕ = turns_of key in let one : List View = set s.views id both in let two : List View = set one other spent_seat in
      let was : get_elem? s.views other ≡ maybe.some w = sym (set_else s.views id other both ne) ∙ there in
      let is = seated key v about (r.seats id v at) in let is' = seated key w about' (r.seats other w was) in
      let sum : (f : View → ℕ) → f spent_seat ≡ 0 → f both ≡ f v + f w → summed f two ≡ summed f s.views = λ f none_left e. (let a = total-joined f s.views id other v w both spent_seat at there none_left in omega arith) in
      let own : (f : View → ℕ) → f spent_seat ≡ 0 → f both ≡ f v → f w ≡ 0 → summed f two ≡ summed f s.views = λ f none_left e d. sum f none_left (omega arith) in
      let no_first : is_first w ≡ 0 = first-other w.about w.number numbered in let no_opener : has_opened w ≡ 0 = only-none w.opened (is_first w) no_first in
      let made = own (λ y. y.made) refl refl (is'.makes numbered) in let parts = sum (λ y. length y.parts) refl (length-append v.parts w.parts) in let firsts = own is_first refl refl no_first in
      let late = late-append n v.drawn w.drawn in let long = length-append v.parts w.parts in let lates = sum (λ y. late_among n y.drawn) refl late in
      record {
        playable = r.playable;
        words = r.words;
        homes = r.homes;
        seats = seats-set key one other spent_seat (seats-set key s.views id both r.seats (inr record {
          same = about;
          own = (let a = times-append v.number v.parts w.parts in let b = is.own in omega arith);
          makes = is.makes;
          late = (let a = is.late in let b = is'.late in omega arith);
          drew = (λ x. let a = times-append x v.put w.put in let b = times-append x v.drawn w.drawn in let c = is.drew x in let d = is'.drew x in omega arith);
          within = (λ x far. let a = times-append x v.put w.put in let b = times-append x v.took w.took in let c = is.within x far in let d = is'.within x far in omega arith);
          opens = is.opens;
        })) (inl refl);
        parts = record {
          each = λ x. sum (λ y. times x y.parts) refl (times-append x v.parts w.parts) ∙ (r.parts.each x ∙ ap (λ (m : ℕ). once_below x (m + 1)) (sym made));
          count = (let old = r.parts.count in omega arith);
          few = (let old = r.parts.few in omega arith);
          first = (let old = r.parts.first in omega arith);
        };
        tickets = record {
          each = λ x. sum (λ y. times x y.drawn) refl (times-append x v.drawn w.drawn) ∙ r.tickets.each x;
          within = (let old = r.tickets.within in omega arith);
        };
        book = (let seen = total-joined (λ y. one_if y.opened) s.views id other v w both spent_seat at there refl in
            book-seen (window_for key) _ _ _ _ _ (summed (λ y. one_if y.opened) s.views) _ (λ e. omega arith)
            (book-by (window_for key) _ _ _ _ _ _ _ _ _ _ (own (λ y. one_if y.holds) refl refl (ap one_if free)) (own (λ y. phase_opening y.phase) refl refl (ap phase_opening rests)) (own has_opened refl refl no_opener) refl r.book));
        looks = λ j inside. look-by (window_for key) j _ _ _ _ _ _ _ _ _ _ (sum (λ y. times j y.put) refl (times-append j v.put w.put)) (sum (λ y. times j y.took) refl (times-append j v.took w.took))
            (own (λ y. putting j y.phase) refl refl (ap (putting j) rests)) (own (λ y. taking j y.phase) refl refl (ap (taking j) rests)) (r.looks j inside);
      }

word-there : (l : List ℕ) (i : ℕ) → i < length l → get_elem? l i ≡ maybe.some (slice_index l i)
word-there [] i h = absurd (omega arith)
word-there (x ∷ xs) zero h = refl
word-there (x ∷ xs) (suc i) h = word-there xs i (omega arith)

module _ (key : Basis) (slots id : ℕ) (me : Me BoardSlot View) where
  -- a step that only reads leaves the table as it was
  stays : (s : State BoardSlot View) → IsKept key s → get_elem? s.views id ≡ maybe.some me.0 → IsKept key (stepped s 0 (slice_index s.words 0) id me.1 me.0 keeps)
  stays s r at = let wide = r.words in subst (IsKept key)
      (λ k. record { words = sym (set_again s.words 0 (slice_index s.words 0) (word-there s.words 0 (omega arith))) k; homes = s.homes; views = sym (set_again s.views id me.0 at) k }) r

  pub sees-each-once : Allows (IsKept key) slots id me 0 (λ n. n) (tells_each_once (step slots 0 0 0 maybe.none) me)
  sees-each-once s r _ at _ = (
    me.0,
    keeps,
    tt,
    stays s r at,
    (
      (refl, (refl, refl)),
      refl,
      λ k.
          let sum = r.tickets.each k in let few = once-le k (slice_index s.words 0) in let here = total-at (λ (u : View). times k u.drawn) s.views id me.0 at in omega arith,
    ),
  )

-- what two seats drew that are one now
pub drew-apart : (v w : View) (me : Me BoardSlot View) (c : List (ℕ × BoardSlot)) → me ≡ (views_joined v w, c) → ((k : ℕ) → times k me.0.drawn ≤ 1) → (k : ℕ) → times k v.drawn + times k w.drawn ≤ 1
drew-apart v w me c is once k = let a = once k in let b : times k me.0.drawn ≡ times k (v.drawn ++ w.drawn) = ap (λ (m : Me BoardSlot View). times k m.0.drawn) is in let d = times-append k v.drawn w.drawn in omega arith
