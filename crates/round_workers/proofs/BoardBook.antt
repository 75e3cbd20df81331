-- The steps on the book's word keep a board's rule: it is opened, taken and given.
use Rattle.std.proofs.Common.{◌≡◌, ℕ, ◌+◌, ◌≤◌, true, false, List, ◌∷◌, set, sym, refl, ap, ◌∙◌, subst, inr, ⊎_elim, arith, eqb, length-set, Option, None, Some}
use mathlib.Core.Option as maybe
use native.Mathlib.Decide.{ℕ_discrete}
use lib.ListN.{get_elem?}
use prog.Atomic.{either}
use Rattle.std.specs.Prelude.{IsSomeAnd, slice_index}
use Rattle.atomic_table.specs.Table.{Act, Allows, Me, State, Valid, carried_after, gives, keeps, step, stepped, takes}
use Rattle.atomic_table.proofs.Lists.{exchanged, set_else, set_here}
use Rattle.cell_world.specs.Cell.{one_if}
use Rattle.round_book.specs.Book.{BookValue, StandsFor}
use Rattle.round_book.specs.Machine.{times}
use Rattle.round_book.specs.Window.{Window}
use Rattle.round_workers.specs.declared.board.view.Basis.{Basis}
use Rattle.round_workers.specs.declared.board.view.BoardSlot.{BoardSlot}
use Rattle.round_workers.specs.declared.board.view.BoardSlot.TheVariants.{TheBook}
use Rattle.round_workers.specs.declared.board.view.Phase.TheVariants.{Resting, Opening}
use Rattle.round_workers.specs.declared.board.view.Try.TheVariants.{OfBook}
use Rattle.round_workers.specs.declared.board.view.View.{View}
use Rattle.round_workers.specs.BoardTotals.{summed}
use Rattle.round_workers.specs.BoardView.{window_about, window_for}
use Rattle.round_workers.specs.BoardPlays.{after_try, has_seen, opens_now, tells_give_book, tells_open, tells_opened, tells_take_book, with_book, without_book}
use Rattle.round_workers.specs.BoardRule.{HasHome, IsBookKept, IsKept, has_opened, is_first, only_if, phase_opening, putting, taking}
use Rattle.round_workers.proofs.BoardTotalLemmas.{total-add, total-at, total-gap, total-same, total-set}
use Rattle.round_workers.proofs.BoardKeeps.{book-stays, first-seat, seated}
use Rattle.round_workers.proofs.BoardSteps.{IsSameAt, book-kept}

-- a step continues to a state that keeps the rule, and tells what it tells
abbrev pub Goes : Basis → State BoardSlot View → ℕ → ℕ → Me BoardSlot View → (ℕ → Me BoardSlot View → Type 0) → ℕ → Type 0
Goes key s i id me told x = (w : View) × (a : Act BoardSlot) × Valid s.homes me.1 a × IsKept key (stepped s i x id me.1 w a) × told (slice_index s.words i) (w, carried_after me.1 a)

-- once a seat has seen the book opened, or holds it, it was opened once
pub opened-seen : (window : Window) (word : ℕ) (home : maybe.Option (maybe.Option BoardSlot)) (a b c d : ℕ) → IsBookKept window word home a b c d → 1 ≤ d → c ≡ 1
opened-seen window word home a b c d is some_seen = go (ℕ_discrete c 0) where
  go : Dec (c ≡ 0) → c ≡ 1
  go (yes e) = let none_of = is.unseen e in absurd (omega arith)
  go (no ne) = let once = is.once in omega arith

opened-held : (window : Window) (word : ℕ) (home : maybe.Option (maybe.Option BoardSlot)) (a b c d : ℕ) → IsBookKept window word home a b c d → 1 ≤ a → c ≡ 1
opened-held window word home a b c d is some_held = go (ℕ_discrete c 0) where
  go : Dec (c ≡ 0) → c ≡ 1
  go (yes e) = let none_of = is.unheld e in absurd (omega arith)
  go (no ne) = let once = is.once in omega arith

-- the seat's look steps stay as they are, at rest
rest-stays : (v w : View) → v.phase ≡ Resting → ((j : ℕ) → putting j w.phase ≡ 0) → ((j : ℕ) → taking j w.phase ≡ 0) → w.put ≡ v.put → w.took ≡ v.took → (j : ℕ) → IsSameAt j v w
rest-stays v w rests no_put no_take ep et j = record { put = ap (times j) ep; took = ap (times j) et; puts = no_put j ∙ sym (ap (putting j) rests); takes = no_take j ∙ sym (ap (taking j) rests) }

module _ (key : Basis) (slots id : ℕ) (v : View) (about : v.about ≡ Some key) where
  module _ (c : List (ℕ × BoardSlot)) (zeroth : v.number ≡ 0) (unopened : v.opened ≡ false) (rests : v.phase ≡ Resting) where
    -- while the first seat hasn't opened the book, no other has, nor is about to
    none-opened : (s : State BoardSlot View) → IsKept key s → get_elem? s.views id ≡ maybe.some v → summed (λ u. phase_opening u.phase) s.views + summed has_opened s.views ≡ 0
    none-opened s r at =
        let sum = total-add (λ (u : View). phase_opening u.phase) has_opened s.views in
        let gap = total-gap (λ (u : View). phase_opening u.phase + has_opened u) is_first s.views id v at (λ j u there. ⊎_elim (λ spent. subst (λ (z : View). phase_opening z.phase + has_opened z ≤ is_first z) (sym spent) (omega arith)) (λ is. is.opens) (r.seats j u there)) in
        let one = first-seat key v about zeroth in let all = r.parts.first in let here : phase_opening v.phase ≡ 0 = ap phase_opening rests in let here' : has_opened v ≡ 0 = ap (λ b. only_if b (is_first v)) unopened in omega arith

    pub opens : Allows (IsKept key) slots id (v, c) 1 (λ n. either (eqb n 0) 1 n) (tells_open (step slots 1 0 1 maybe.none) (v, c))
    opens s r _ at _ =
        let w : View = opens_now v in let word : ℕ = slice_index s.words 1 in let bare = none-opened s r at in let k = r.book in let unheld = k.unheld (omega arith) in let unseen = k.unseen (omega arith) in
        let out = k.out in let is_home : word ≡ 0 = omega arith in let is = seated key v about (r.seats id v at) in
        let opening_now = total-set (λ (u : View). phase_opening u.phase) s.views id v w at in let here : phase_opening v.phase ≡ 0 = ap phase_opening rests in let here' : has_opened v ≡ 0 = ap (λ b. only_if b (is_first v)) unopened in
        let held = total-same (λ (u : View). one_if u.holds) s.views id v w at refl in let opened = total-same has_opened s.views id v w at refl in let seen = total-same (λ (u : View). one_if u.opened) s.views id v w at refl in
        let one = first-seat key v about zeroth in
        exchanged word 0 1 (Goes key s 1 id (v, c) (tells_open (step slots 1 0 1 maybe.none) (v, c)))
        (λ hit. (
          w,
          takes 0 (TheBook None),
          k.bare bare,
          book-kept key s r id v w at record { about = refl; number = refl; made = refl; parts = refl; drawn = refl }
              (inr record { same = about; own = is.own; makes = is.makes; late = is.late; drew = (λ x. let d = is.drew x in omega arith); within = is.within; opens = (omega arith) })
              1 (set s.homes 0 maybe.none) (length-set s.homes 0 maybe.none) (λ j ne. set_else s.homes 0 j maybe.none ne) (rest-stays v w rests (λ j. refl) (λ j. refl) refl refl)
              record { out = (omega arith); bit = (omega arith); once = (omega arith); unheld = (λ e. omega arith); unseen = (λ e. omega arith); bare = (λ e. absurd (omega arith)); stands = (λ e. absurd (omega arith)) },
          ((refl, (refl, refl)), hit, refl),
        ))
        (λ miss. absurd (miss is_home))

  module _ (xs : List (ℕ × BoardSlot)) (book : BookValue) (stands : StandsFor (window_for key) book) where
    back-here : (s : State BoardSlot View) → IsKept key s → HasHome (get_elem? (set s.homes 0 (maybe.some (TheBook (Some book)))) 0) (TheBook (Some book))
    back-here s r = let wide = r.homes in set_here s.homes 0 (maybe.some (TheBook (Some book))) (omega arith)

    opened : v.number ≡ 0 → v.phase ≡ Opening → Allows (IsKept key) slots id (v, (0, TheBook (Some book)) ∷ xs) 1 (λ _. 0) (tells_opened (step slots 1 0 0 maybe.none) (v, (0, TheBook (Some book)) ∷ xs))
    opened zeroth midst s r _ at _ =
        let w : View = has_seen v in let k = r.book in let out = k.out in let bit = k.bit in let once = k.once in let is = seated key v about (r.seats id v at) in
        let here : phase_opening v.phase ≡ 1 = ap phase_opening midst in let more = total-at (λ (u : View). phase_opening u.phase) s.views id v at in let more' = total-at has_opened s.views id v at in
        let opening_then = total-set (λ (u : View). phase_opening u.phase) s.views id v w at in let opened_then = total-set has_opened s.views id v w at in
        let held = total-same (λ (u : View). one_if u.holds) s.views id v w at refl in let unheld = k.unheld (omega arith) in let one = first-seat key v about zeroth in (
          w,
          gives,
          tt,
          book-kept key s r id v w at record { about = refl; number = refl; made = refl; parts = refl; drawn = refl }
              (inr record { same = about; own = is.own; makes = is.makes; late = is.late; drew = (λ x. let d = is.drew x in omega arith); within = is.within; opens = (omega arith) })
              0 (set s.homes 0 (maybe.some (TheBook (Some book)))) (length-set s.homes 0 (maybe.some (TheBook (Some book)))) (λ j ne. set_else s.homes 0 j (maybe.some (TheBook (Some book))) ne)
              (λ j. record { put = refl; took = refl; puts = sym (ap (putting j) midst); takes = sym (ap (taking j) midst) })
              record { out = (omega arith); bit = (omega arith); once = (omega arith); unheld = (λ e. omega arith); unseen = (λ e. absurd (omega arith)); bare = (λ e. absurd (omega arith)); stands = (λ _ _. (book, back-here s r, stands)) },
          ((refl, (refl, refl)), refl),
        )

    pub gives-book : v.holds ≡ true → Allows (IsKept key) slots id (v, (0, TheBook (Some book)) ∷ xs) 1 (λ _. 0) (tells_give_book (step slots 1 0 0 maybe.none) (v, (0, TheBook (Some book)) ∷ xs))
    gives-book holds s r _ at _ =
        let w : View = without_book v in let k = r.book in let out = k.out in let bit = k.bit in let once = k.once in let is = seated key v about (r.seats id v at) in
        let here : one_if v.holds ≡ 1 = ap one_if holds in let more = total-at (λ (u : View). one_if u.holds) s.views id v at in
        let was_opened = opened-held _ _ _ _ _ _ _ k (omega arith) in
        let held = total-set (λ (u : View). one_if u.holds) s.views id v w at in
        let opening_then = total-same (λ (u : View). phase_opening u.phase) s.views id v w at refl in let opened_then = total-same has_opened s.views id v w at refl in (
          w,
          gives,
          tt,
          book-kept key s r id v w at record { about = refl; number = refl; made = refl; parts = refl; drawn = refl }
              (inr record { same = about; own = is.own; makes = is.makes; late = is.late; drew = is.drew; within = is.within; opens = is.opens })
              0 (set s.homes 0 (maybe.some (TheBook (Some book)))) (length-set s.homes 0 (maybe.some (TheBook (Some book)))) (λ j ne. set_else s.homes 0 j (maybe.some (TheBook (Some book))) ne)
              (λ j. record { put = refl; took = refl; puts = refl; takes = refl })
              record { out = (omega arith); bit = (omega arith); once = (omega arith); unheld = (λ e. absurd (omega arith)); unseen = (λ e. absurd (omega arith)); bare = (λ e. absurd (omega arith)); stands = (λ _ _. (book, back-here s r, stands)) },
          ((refl, (refl, refl)), refl),
        )

  -- the same of a room that has the book
  pub gives-room : (xs : List (ℕ × BoardSlot)) (content : Option BookValue) → IsSomeAnd content (StandsFor (window_for key)) → v.holds ≡ true
      → Allows (IsKept key) slots id (v, (0, TheBook content) ∷ xs) 1 (λ _. 0) (tells_give_book (step slots 1 0 0 maybe.none) (v, (0, TheBook content) ∷ xs))
  gives-room xs None stands = absurd stands
  gives-room xs (Some book) stands = gives-book xs book stands

  pub opened-room : (xs : List (ℕ × BoardSlot)) (content : Option BookValue) → IsSomeAnd content (StandsFor (window_for key)) → v.number ≡ 0 → v.phase ≡ Opening
      → Allows (IsKept key) slots id (v, (0, TheBook content) ∷ xs) 1 (λ _. 0) (tells_opened (step slots 1 0 0 maybe.none) (v, (0, TheBook content) ∷ xs))
  opened-room xs None stands zeroth midst = absurd stands
  opened-room xs (Some book) stands zeroth midst = opened xs book stands zeroth midst

  module _ (c : List (ℕ × BoardSlot)) (seen : v.opened ≡ true) (free : v.holds ≡ false) where
    pub takes-book : Allows (IsKept key) slots id (v, c) 1 (λ n. either (eqb n 0) 1 n) (tells_take_book (step slots 1 0 1 maybe.none) (v, c))
    takes-book s r _ at _ =
        let word : ℕ = slice_index s.words 1 in let k = r.book in let out = k.out in let bit = k.bit in let once = k.once in let is = seated key v about (r.seats id v at) in
        let saw : one_if v.opened ≡ 1 = ap one_if seen in let more = total-at (λ (u : View). one_if u.opened) s.views id v at in let was_opened = opened-seen _ _ _ _ _ _ _ k (omega arith) in
        exchanged word 0 1 (Goes key s 1 id (v, c) (tells_take_book (step slots 1 0 1 maybe.none) (v, c)))
        (λ hit. let w : View = with_book v in let it = k.stands was_opened (omega arith) in let book : BookValue = it.0 in
        let here : one_if v.holds ≡ 0 = ap one_if free in let held = total-set (λ (u : View). one_if u.holds) s.views id v w at in
        let opening_then = total-same (λ (u : View). phase_opening u.phase) s.views id v w at refl in let opened_then = total-same has_opened s.views id v w at refl in (
          w,
          takes 0 (TheBook (Some book)),
          it.1,
          book-kept key s r id v w at record { about = refl; number = refl; made = refl; parts = refl; drawn = refl }
              (inr record { same = about; own = is.own; makes = is.makes; late = is.late; drew = is.drew; within = is.within; opens = is.opens })
              1 (set s.homes 0 maybe.none) (length-set s.homes 0 maybe.none) (λ j ne. set_else s.homes 0 j maybe.none ne) (λ j. record { put = refl; took = refl; puts = refl; takes = refl })
              record { out = (omega arith); bit = (omega arith); once = (omega arith); unheld = (λ e. absurd (omega arith)); unseen = (λ e. absurd (omega arith)); bare = (λ e. absurd (omega arith)); stands = (λ e d. absurd (omega arith)) },
          ((refl, (refl, refl)), record { home = λ _. (book, subst (λ z. StandsFor (window_about z) book) (sym about) it.2, refl); out = λ ne. absurd (ne hit) }),
        ))
        (λ miss. let w : View = after_try v (OfBook 1) in let is_one : word ≡ 1 = omega arith in (
          w,
          keeps,
          tt,
          book-kept key s r id v w at record { about = refl; number = refl; made = refl; parts = refl; drawn = refl }
              (inr record { same = about; own = is.own; makes = is.makes; late = is.late; drew = is.drew; within = is.within; opens = is.opens })
              word s.homes refl (λ j ne. refl) (λ j. record { put = refl; took = refl; puts = refl; takes = refl })
              (book-stays s.views id v w at (window_for key) word _ refl refl refl refl k),
          ((refl, (refl, refl)), record { home = λ e. absurd (miss e); out = λ _. (is_one, refl) }),
        ))
