-- The steps on a look's word keep a board's rule: it is put and taken.
use Rattle.std.proofs.Common.{◌≡◌, ◌≢◌, ℕ, ◌+◌, ◌<◌, ◌≤◌, List, [], ◌∷◌, ◌++◌, set, sym, refl, ap, ap₂, ◌∙◌, subst, inr, ⊎_elim, arith, eqb, length-set, Option, Some}
use mathlib.Core.Option as maybe
use native.Mathlib.Decide.{ℕ_discrete}
use lib.ListN.{get_elem?}
use prog.Atomic.{either}
use Rattle.std.specs.Prelude.{slice_index}
use Rattle.atomic_table.specs.Table.{Allows, State, gives, keeps, step, takes}
use Rattle.atomic_table.proofs.Lists.{exchanged, set_else, set_here}
use Rattle.spec_record.specs.Look.{LookValue}
use Rattle.round_book.proofs.MachineLemmas.{times-same}
use Rattle.round_book.specs.Machine.{times}
use Rattle.round_book.specs.Window.{look_for}
use Rattle.round_workers.specs.declared.board.view.Basis.{Basis}
use Rattle.round_workers.specs.declared.board.view.BoardSlot.{BoardSlot}
use Rattle.round_workers.specs.declared.board.view.BoardSlot.TheVariants.{OneLook, Spare}
use Rattle.round_workers.specs.declared.board.view.Phase.TheVariants.{Resting, Putting, Taking}
use Rattle.round_workers.specs.declared.board.view.Try.TheVariants.{OfLook}
use Rattle.round_workers.specs.declared.board.view.View.{View}
use Rattle.round_workers.specs.BoardTotals.{summed}
use Rattle.round_workers.specs.BoardView.{window_about, window_for}
use Rattle.round_workers.specs.BoardPlays.{after_try, has_put, has_taken, puts_now, takes_now, tells_has_put, tells_has_taken, tells_put, tells_take_look}
use Rattle.round_workers.specs.BoardRule.{IsKept, phase_opening, putting, taking, turns_of}
use Rattle.round_workers.proofs.BoardTotalLemmas.{once-le, other-none, same-one, times-append, total-add, total-at, total-gap, total-same, total-set}
use Rattle.round_workers.proofs.BoardKeeps.{look-stays, seated}
use Rattle.round_workers.proofs.BoardSteps.{look-kept}
use Rattle.round_workers.proofs.BoardBook.{Goes}

times-other : (x y : ℕ) (xs : List ℕ) → y ≢ x → times x (xs ++ y ∷ []) ≡ times x xs
times-other x y xs ne = let a = times-append x xs (y ∷ []) in let b = other-none y x ne in omega arith

module _ (key : Basis) (slots id : ℕ) (v : View) (about : v.about ≡ Some key) (j : ℕ) (inside : j < turns_of key) where
  -- the look of the window at the ticket's turn
  abbrev its-look : LookValue
  its-look = look_for (window_for key) ((window_for key).from + j)

  module _ (c : List (ℕ × BoardSlot)) (rests : v.phase ≡ Resting) where
    -- what a seat drew and hasn't put, no seat has put
    none-put : (s : State BoardSlot View) → IsKept key s → get_elem? s.views id ≡ maybe.some v → 1 ≤ times j v.drawn → times j v.put ≡ 0
        → summed (λ u. times j u.put) s.views + summed (λ u. putting j u.phase) s.views ≡ 0
    none-put s r at drawn unput =
        let sum = total-add (λ (u : View). times j u.put) (λ u. putting j u.phase) s.views in
        let gap = total-gap (λ (u : View). times j u.put + putting j u.phase) (λ u. times j u.drawn) s.views id v at
        (λ i u there. ⊎_elim (λ spent. subst (λ (z : View). times j z.put + putting j z.phase ≤ times j z.drawn) (sym spent) (omega arith)) (λ is. is.drew j) (r.seats i u there)) in
        let all = r.tickets.each j in let few = once-le j (slice_index s.words 0) in let here : putting j v.phase ≡ 0 = ap (putting j) rests in omega arith

    pub puts : 1 ≤ times j v.drawn → times j v.put ≡ 0 → Allows (IsKept key) slots id (v, c) (j + 2) (λ n. either (eqb n 0) 1 n) (tells_put (step slots (j + 2) 0 1 maybe.none) (v, c))
    puts drawn unput s r _ at _ =
        let w : View = puts_now v j in let word : ℕ = slice_index s.words (j + 2) in let none_of = none-put s r at drawn unput in let k = r.looks j inside in
        let sum = k.sum in let back = k.back in let is_empty : word ≡ 0 = omega arith in let is = seated key v about (r.seats id v at) in
        let here : putting j v.phase ≡ 0 = ap (putting j) rests in let here' : taking j v.phase ≡ 0 = ap (taking j) rests in let now : putting j (Putting j) ≡ 1 = same-one j j refl in
        let put = total-same (λ (u : View). times j u.put) s.views id v w at refl in let took = total-same (λ (u : View). times j u.took) s.views id v w at refl in
        let puts_then = total-set (λ (u : View). putting j u.phase) s.views id v w at in let takes_then = total-set (λ (u : View). taking j u.phase) s.views id v w at in
        exchanged word 0 1 (Goes key s (j + 2) id (v, c) (tells_put (step slots (j + 2) 0 1 maybe.none) (v, c)))
        (λ hit. let spare = k.bare (omega arith) (omega arith) in (
          w,
          takes (j + 1) (Spare spare.0),
          spare.1,
          look-kept key s r id v w at record { about = refl; number = refl; made = refl; parts = refl; drawn = refl }
              (inr record { same = about; own = is.own; makes = is.makes; late = is.late; drew = (λ x. by_cases x (is.drew x) (ℕ_discrete j x)); within = is.within; opens = (let o = is.opens in omega arith) })
              j 1 (set s.homes (j + 1) maybe.none) inside (length-set s.homes (j + 1) maybe.none) (λ i ne. set_else s.homes (j + 1) i maybe.none ne)
              record { holds = refl; opens = sym (ap phase_opening rests); opened = refl }
              (λ i ne. record { put = refl; took = refl; puts = other-none j i (λ e. ne (sym e)) ∙ sym (ap (putting i) rests); takes = sym (ap (taking i) rests) })
              record { sum = (omega arith); once = (omega arith); back = (omega arith); bare = (λ e d. absurd (omega arith)); full = (λ e. absurd (omega arith)) },
          ((refl, refl), λ i e. (let same : j ≡ i = omega arith in (spare.0, ap (λ (m : ℕ). (puts_now v m, (m + 1, Spare spare.0) ∷ c)) same))),
        ))
        (λ miss. absurd (miss is_empty))
      where
        by_cases : (x : ℕ) → times x v.put + putting x v.phase ≤ times x v.drawn → Dec (j ≡ x) → times x v.put + putting x (Putting j) ≤ times x v.drawn
        by_cases x d (yes e) = subst (λ (m : ℕ). times m v.put + putting m (Putting j) ≤ times m v.drawn) e (let now : putting j (Putting j) ≡ 1 = same-one j j refl in omega arith)
        by_cases x d (no ne) = let now : putting x (Putting j) ≡ 0 = other-none j x ne in omega arith

    pub takes-look : Allows (IsKept key) slots id (v, c) (j + 2) (λ n. either (eqb n 2) 1 n) (tells_take_look (step slots (j + 2) 2 1 maybe.none) (v, c))
    takes-look s r _ at _ =
        let word : ℕ = slice_index s.words (j + 2) in let k = r.looks j inside in let sum = k.sum in let back = k.back in let once = k.once in let is = seated key v about (r.seats id v at) in
        let here : putting j v.phase ≡ 0 = ap (putting j) rests in let here' : taking j v.phase ≡ 0 = ap (taking j) rests in let now : taking j (Taking j) ≡ 1 = same-one j j refl in
        exchanged word 2 1 (Goes key s (j + 2) id (v, c) (tells_take_look (step slots (j + 2) 2 1 maybe.none) (v, c)))
        (λ hit. let w : View = takes_now v j in
        let put = total-same (λ (u : View). times j u.put) s.views id v w at refl in let took = total-same (λ (u : View). times j u.took) s.views id v w at refl in
        let puts_then = total-set (λ (u : View). putting j u.phase) s.views id v w at in let takes_then = total-set (λ (u : View). taking j u.phase) s.views id v w at in (
          w,
          takes (j + 1) (OneLook (Some its-look)),
          k.full (omega arith) (omega arith),
          look-kept key s r id v w at record { about = refl; number = refl; made = refl; parts = refl; drawn = refl }
              (inr record { same = about; own = is.own; makes = is.makes; late = is.late; drew = (λ x. let d = is.drew x in omega arith); within = is.within; opens = (let o = is.opens in omega arith) })
              j 1 (set s.homes (j + 1) maybe.none) inside (length-set s.homes (j + 1) maybe.none) (λ i ne. set_else s.homes (j + 1) i maybe.none ne)
              record { holds = refl; opens = sym (ap phase_opening rests); opened = refl }
              (λ i ne. record { put = refl; took = refl; puts = sym (ap (putting i) rests); takes = other-none j i (λ e. ne (sym e)) ∙ sym (ap (taking i) rests) })
              record { sum = (omega arith); once = (omega arith); back = (omega arith); bare = (λ e d. absurd (omega arith)); full = (λ e d. absurd (omega arith)) },
          (
            (refl, refl),
            λ i e. (let same : j ≡ i = omega arith in record {
              full = λ _. ap₂ (λ (m : ℕ) (z : Option Basis). (takes_now v m, (m + 1, OneLook (Some (look_for (window_about z) ((window_about z).from + m)))) ∷ c)) same (sym about);
              other = λ ne. absurd (ne hit);
            }),
          ),
        ))
        (λ miss. let w : View = after_try v (OfLook j word) in (
          w,
          keeps,
          tt,
          look-kept key s r id v w at record { about = refl; number = refl; made = refl; parts = refl; drawn = refl }
              (inr record { same = about; own = is.own; makes = is.makes; late = is.late; drew = is.drew; within = is.within; opens = is.opens })
              j word s.homes inside refl (λ i ne. refl) record { holds = refl; opens = refl; opened = refl } (λ i ne. record { put = refl; took = refl; puts = refl; takes = refl })
              (look-stays s.views id v w at (window_for key) j word _ refl refl refl refl k),
          ((refl, refl), λ i e. (let same : j ≡ i = omega arith in record { full = λ is_two. absurd (miss is_two); other = λ _. ap (λ (m : ℕ). (after_try v (OfLook m word), c)) same })),
        ))

  module _ (xs : List (ℕ × BoardSlot)) where
    pub has-put : (look : Option LookValue) → look ≡ Some its-look → v.phase ≡ Putting j → Allows (IsKept key) slots id (v, (j + 1, OneLook look) ∷ xs) (j + 2) (λ _. 2) (tells_has_put (step slots (j + 2) 2 0 maybe.none) (v, (j + 1, OneLook look) ∷ xs))
    has-put look its midst s r _ at _ =
        let w : View = has_put v j in let k = r.looks j inside in let sum = k.sum in let back = k.back in let once = k.once in let is = seated key v about (r.seats id v at) in
        let here : putting j v.phase ≡ 1 = ap (putting j) midst ∙ same-one j j refl in let here' : taking j v.phase ≡ 0 = ap (taking j) midst in let more = total-at (λ (u : View). putting j u.phase) s.views id v at in
        let one = times-same j v.put in let put = total-set (λ (u : View). times j u.put) s.views id v w at in let took = total-same (λ (u : View). times j u.took) s.views id v w at refl in
        let puts_then = total-set (λ (u : View). putting j u.phase) s.views id v w at in let takes_then = total-set (λ (u : View). taking j u.phase) s.views id v w at in (
          w,
          gives,
          tt,
          look-kept key s r id v w at record { about = refl; number = refl; made = refl; parts = refl; drawn = refl }
              (inr record { same = about; own = is.own; makes = is.makes; late = is.late; drew = (λ x. let d = is.drew x in let a = times-append x v.put (j ∷ []) in let b = ap (putting x) midst in omega arith); within = (λ x far. let b = times-other x j v.put (λ e. absurd (let l : j < turns_of key = inside in omega arith)) in let d = is.within x far in omega arith); opens = (let o = is.opens in omega arith) })
              j 2 (set s.homes (j + 1) (maybe.some (OneLook look))) inside (length-set s.homes (j + 1) (maybe.some (OneLook look))) (λ i ne. set_else s.homes (j + 1) i (maybe.some (OneLook look)) ne)
              record { holds = refl; opens = sym (ap phase_opening midst); opened = refl }
              (λ i ne. record { put = times-other i j v.put (λ e. ne (sym e)); took = refl; puts = sym (ap (putting i) midst ∙ other-none j i (λ e. ne (sym e))); takes = sym (ap (taking i) midst) })
              record {
                sum = (omega arith);
                once = (omega arith);
                back = (omega arith);
                bare = (λ e d. absurd (omega arith));
                full = λ e d. set_here s.homes (j + 1) (maybe.some (OneLook look)) (let wide = r.homes in omega arith) ∙ ap (λ (l : Option LookValue). maybe.some (maybe.some (OneLook l))) its;
              },
          ((refl, refl), λ i e. (let same : j ≡ i = omega arith in ap (λ (m : ℕ). (has_put v m, xs)) same)),
        )

    pub has-taken : (old : Option LookValue) → v.phase ≡ Taking j → Allows (IsKept key) slots id (v, (j + 1, Spare old) ∷ xs) (j + 2) (λ _. 3) (tells_has_taken (step slots (j + 2) 3 0 maybe.none) (v, (j + 1, Spare old) ∷ xs))
    has-taken old midst s r _ at _ =
        let w : View = has_taken v j in let k = r.looks j inside in let sum = k.sum in let back = k.back in let once = k.once in let is = seated key v about (r.seats id v at) in
        let here : putting j v.phase ≡ 0 = ap (putting j) midst in let here' : taking j v.phase ≡ 1 = ap (taking j) midst ∙ same-one j j refl in let more = total-at (λ (u : View). taking j u.phase) s.views id v at in
        let one = times-same j v.took in let took = total-set (λ (u : View). times j u.took) s.views id v w at in let put = total-same (λ (u : View). times j u.put) s.views id v w at refl in
        let puts_then = total-set (λ (u : View). putting j u.phase) s.views id v w at in let takes_then = total-set (λ (u : View). taking j u.phase) s.views id v w at in (
          w,
          gives,
          tt,
          look-kept key s r id v w at record { about = refl; number = refl; made = refl; parts = refl; drawn = refl }
              (inr record { same = about; own = is.own; makes = is.makes; late = is.late; drew = (λ x. let d = is.drew x in omega arith); within = (λ x far. let b = times-other x j v.took (λ e. absurd (let l : j < turns_of key = inside in omega arith)) in let d = is.within x far in omega arith); opens = (let o = is.opens in omega arith) })
              j 3 (set s.homes (j + 1) (maybe.some (Spare old))) inside (length-set s.homes (j + 1) (maybe.some (Spare old))) (λ i ne. set_else s.homes (j + 1) i (maybe.some (Spare old)) ne)
              record { holds = refl; opens = sym (ap phase_opening midst); opened = refl }
              (λ i ne. record { put = refl; took = times-other i j v.took (λ e. ne (sym e)); puts = sym (ap (putting i) midst); takes = sym (ap (taking i) midst ∙ other-none j i (λ e. ne (sym e))) })
              record {
                sum = (omega arith);
                once = (omega arith);
                back = (omega arith);
                bare = (λ e d. (old, set_here s.homes (j + 1) (maybe.some (Spare old)) (let wide = r.homes in omega arith)));
                full = (λ e d. absurd (omega arith));
              },
          ((refl, refl), λ i e. (let same : j ≡ i = omega arith in ap (λ (m : ℕ). (has_taken v m, xs)) same)),
        )
