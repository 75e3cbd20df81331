-- The steps of tickets keep a board's rule: a ticket is drawn, a seat is cut in two, two seats are made one.
use Rattle.std.proofs.Common.{◌≡◌, ℕ, ◌+◌, ◌%◌, ◌^◌, ◌<◌, ◌≤◌, List, [], ◌∷◌, ◌++◌, length, set, sym, refl, ap, ◌∙◌, subst, inr, ⊎_elim, lt_of_not-le, arith, length-set, get_or-set_same, get_or-set_other, Some}
use mathlib.Core.Option as maybe
use native.Mathlib.Decide.{dec_le}
use lib.ListN.{get_elem?}
use Rattle.std.specs.Prelude.{slice_index, nat_le}
use Rattle.std.specs.List.{AllByRecursion}
use Rattle.cell_world.proofs.GridSums.{one_if-le_one}
use Rattle.atomic_table.specs.Table.{State, Me, step, keeps, stepped, Allows}
use Rattle.round_book.specs.Machine.{times}
use Rattle.round_workers.specs.declared.board.view.Basis.{Basis}
use Rattle.round_workers.specs.declared.board.view.BoardSlot.{BoardSlot}
use Rattle.round_workers.specs.declared.board.view.View.{View}
use Rattle.round_workers.specs.BoardTotals.{late_among, summed}
use Rattle.round_workers.specs.BoardView.{window_for}
use Rattle.round_workers.specs.BoardPlays.{drew, tells_draw}
use Rattle.round_workers.specs.BoardRule.{AreDealt, IsBookKeptBy, IsKept, IsLookKeptBy, turns_of}
use Rattle.round_workers.proofs.BoardTotalLemmas.{all-below, below-where, late-append, late-one, once-suc, times-append, times-length, total-at, total-le, total-set}
use Rattle.round_workers.proofs.BoardKeeps.{book-stays, look-stays, parts-stay, seated, seats-set}

-- each number that a seat drew is below the ticket word
pub below-word : (word n : ℕ) (views : List View) (id : ℕ) (v : View) → get_elem? views id ≡ maybe.some v → AreDealt n word views → AllByRecursion (λ k. k < word) v.drawn
below-word word n views id v at dealt =
    all-below word v.drawn (λ x there. below-where x word (let sum = dealt.each x in let here = total-at (λ (u : View). times x u.drawn) views id v at in omega arith))

-- how far the word goes
pub word-bound : (key : Basis) (s : State BoardSlot View) → IsKept key s → slice_index s.words 0 ≤ turns_of key + 17
word-bound key s r = let within = r.tickets.within in let count = r.parts.count in let few = r.parts.few in
    let late = total-le (λ u. late_among (turns_of key) u.drawn) (λ u. length u.parts) s.views (λ j u at. ⊎_elim (λ spent. let a = ap (λ (w : View). late_among (turns_of key) w.drawn) spent in omega arith) (λ is. is.late) (r.seats j u at)) in omega arith

pub few-turns : (key : Basis) (s : State BoardSlot View) → IsKept key s → turns_of key ≤ 16384
few-turns key s r = let few = r.playable.valid.few in let ids = r.playable.ids in (omega arith)

module _ (key : Basis) (slots id : ℕ) (me : Me BoardSlot View) (about : me.0.about ≡ Some key) (early : late_among (turns_of key) me.0.drawn ≡ 0) where
  drawn-at : (s : State BoardSlot View) → IsKept key s → get_elem? s.views id ≡ maybe.some me.0 → slice_index s.words 0 < 18446744073709551616 → IsKept key (stepped s 0 (slice_index s.words 0 + 1) id me.1 (drew me.0 (slice_index s.words 0)) keeps)
  drawn-at s r at small =
      let v : View = me.0 in let word : ℕ = slice_index s.words 0 in let w : View = drew me.0 word in let n : ℕ = turns_of key in
      let is = seated key v about (r.seats id v at) in let wide = r.words in let own = is.own in
      let late = late-append n v.drawn (word ∷ []) in let sum = total-set (λ u. late_among n u.drawn) s.views id v w at in let before = r.tickets.within in
      let within : word + 1 ≤ n + summed (λ u. late_among n u.drawn) (set s.views id w) = by_cases (dec_le n word) late sum before in
      let counts = times-length v.number v.parts in
      record {
        playable = r.playable;
        words = length-set s.words 0 (word + 1) ∙ r.words;
        homes = r.homes;
        seats = seats-set key s.views id w r.seats (inr record { same = about; own = is.own; makes = is.makes; late = (let b = one_if-le_one (nat_le n word) in omega arith); drew = (λ x. let more = times-append x v.drawn (word ∷ []) in let d = is.drew x in omega arith); within = is.within; opens = is.opens });
        parts = parts-stay s.views id v w at refl refl refl r.parts;
        tickets = subst (λ (z : ℕ). AreDealt n z (set s.views id w)) (sym (get_or-set_same s.words 0 (word + 1) 0 (omega arith))) record {
          each = λ x. let more = times-append x v.drawn (word ∷ []) in let one = total-set (λ u. times x u.drawn) s.views id v w at in let old = r.tickets.each x in let step = once-suc x word in omega arith;
          within = within;
        };
        book = subst (λ (z : ℕ). IsBookKeptBy (window_for key) z (get_elem? s.homes 0) (set s.views id w)) (sym (get_or-set_other s.words 0 1 (word + 1) 0 (λ e. omega arith)))
            (book-stays s.views id v w at (window_for key) _ _ refl refl refl refl r.book);
        looks = λ j inside. subst (λ (z : ℕ). IsLookKeptBy (window_for key) j z (get_elem? s.homes (j + 1)) (set s.views id w)) (sym (get_or-set_other s.words 0 (j + 2) (word + 1) 0 (λ e. omega arith)))
            (look-stays s.views id v w at (window_for key) j _ _ refl refl refl refl (r.looks j inside));
      }
    where
      by_cases : Dec (turns_of key ≤ slice_index s.words 0) → late_among (turns_of key) (me.0.drawn ++ slice_index s.words 0 ∷ []) ≡ late_among (turns_of key) me.0.drawn + late_among (turns_of key) (slice_index s.words 0 ∷ [])
          → summed (λ u. late_among (turns_of key) u.drawn) (set s.views id (drew me.0 (slice_index s.words 0))) + late_among (turns_of key) me.0.drawn ≡ summed (λ u. late_among (turns_of key) u.drawn) s.views + late_among (turns_of key) (me.0.drawn ++ slice_index s.words 0 ∷ [])
          → slice_index s.words 0 ≤ turns_of key + summed (λ u. late_among (turns_of key) u.drawn) s.views
          → slice_index s.words 0 + 1 ≤ turns_of key + summed (λ u. late_among (turns_of key) u.drawn) (set s.views id (drew me.0 (slice_index s.words 0)))
      by_cases (yes le) late sum before = let one = late-one (turns_of key) (slice_index s.words 0) le in omega arith
      by_cases (no gt) late sum before = let g : slice_index s.words 0 < turns_of key = lt_of_not-le gt in omega arith

  pub draws : Allows (IsKept key) slots id me 0 (λ n. (n + 1) % 2 ^ 64) (tells_draw (step slots 0 1 0 maybe.none) me)
  draws s r _ at small =
      let word : ℕ = slice_index s.words 0 in let bound = word-bound key s r in let few = few-turns key s r in
      let whole : word + 1 ≡ (word + 1) % 18446744073709551616 = omega arith in
      (drew me.0 word, keeps, tt, subst (λ (z : ℕ). IsKept key (stepped s 0 z id me.1 (drew me.0 word) keeps)) whole (drawn-at s r at small), ((refl, (refl, refl)), refl, below-word word (turns_of key) s.views id me.0 at r.tickets, omega arith))
