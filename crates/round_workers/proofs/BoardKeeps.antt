-- What a step leaves as it was of a board's rule.
use Rattle.std.proofs.Common.{◌≡◌, ◌≢◌, ℕ, zero, ◌+◌, Bool, true, false, List, [], ◌∷◌, ◌++◌, length, set, sym, refl, ap, ◌∙◌, subst, ⊎_elim, arith, Option, Some, None}
use mathlib.Core.Option as maybe
use lib.ListN.{get_elem?}
use Rattle.atomic_table.proofs.Lists.{at_set, at_snoc}
use Rattle.cell_world.specs.Cell.{one_if}
use Rattle.round_book.specs.Machine.{times}
use Rattle.round_book.specs.Window.{Window}
use Rattle.round_workers.specs.declared.board.view.Basis.{Basis}
use Rattle.round_workers.specs.declared.board.view.BoardSlot.{BoardSlot}
use Rattle.round_workers.specs.declared.board.view.View.{View}
use Rattle.round_workers.specs.BoardTotals.{late_among, once_below, summed}
use Rattle.round_workers.specs.BoardRule.{AreDealt, AreParts, IsBookKept, IsBookKeptBy, IsLookKept, IsLookKeptBy, IsSeated, Sits, first_one, has_opened, is_first, only_if, phase_opening, putting, taking}
use Rattle.round_workers.proofs.BoardTotalLemmas.{total-same}

none-some : (basis : Basis) → ¬ (None ≡ Some basis)
none-some basis e = absurd (cc)

-- a seat that knows a window didn't go into another
pub seated : (key : Basis) (v : View) → v.about ≡ Some key → Sits key v → IsSeated key v
seated key v about sits = ⊎_elim (λ spent. absurd (none-some key (sym (ap (λ (u : View). u.about) spent) ∙ about))) (λ is. is) sits

-- a seat whose view is set sits, and the others sit on
pub seats-set : (key : Basis) (views : List View) (id : ℕ) (w : View) → ((i : ℕ) (v : View) → get_elem? views i ≡ maybe.some v → Sits key v) → Sits key w
    → (i : ℕ) (v : View) → get_elem? (set views id w) i ≡ maybe.some v → Sits key v
seats-set key views id w seats here i v at = ⊎_elim (λ it. subst (Sits key) it.1 here) (λ other. seats i v other.1) (at_set views id i w v at)

pub seats-snoc : (key : Basis) (views : List View) (w : View) → ((i : ℕ) (v : View) → get_elem? views i ≡ maybe.some v → Sits key v) → Sits key w
    → (i : ℕ) (v : View) → get_elem? (views ++ w ∷ []) i ≡ maybe.some v → Sits key v
seats-snoc key views w seats here i v at = ⊎_elim (λ other. seats i v other) (λ is. subst (Sits key) is here) (at_snoc views w v i at)

abbrev LookAt : Window → ℕ → ℕ → maybe.Option (maybe.Option BoardSlot) → ℕ × ℕ × ℕ × ℕ → Type 0
LookAt window j word home z = IsLookKept window j word home z.0 z.1 z.2 z.3

abbrev BookAt : Window → ℕ → maybe.Option (maybe.Option BoardSlot) → ℕ × ℕ × ℕ × ℕ → Type 0
BookAt window word home z = IsBookKept window word home z.0 z.1 z.2 z.3

-- the totals of a book are others' too
pub book-by : (window : Window) (word : ℕ) (home : maybe.Option (maybe.Option BoardSlot)) (a b c d a' b' c' d' : ℕ) → a' ≡ a → b' ≡ b → c' ≡ c → d' ≡ d
    → IsBookKept window word home a b c d → IsBookKept window word home a' b' c' d'
book-by window word home a b c d a' b' c' d' ea eb ec ed is = subst (BookAt window word home) (λ k. (sym ea k, sym eb k, sym ec k, sym ed k)) is

pub look-by : (window : Window) (j word : ℕ) (home : maybe.Option (maybe.Option BoardSlot)) (a b c d a' b' c' d' : ℕ) → a' ≡ a → b' ≡ b → c' ≡ c → d' ≡ d
    → IsLookKept window j word home a b c d → IsLookKept window j word home a' b' c' d'
look-by window j word home a b c d a' b' c' d' ea eb ec ed is = subst (LookAt window j word home) (λ k. (sym ea k, sym eb k, sym ec k, sym ed k)) is

-- the seats that have seen the book opened may be others, if none has while it isn't opened
pub book-seen : (window : Window) (word : ℕ) (home : maybe.Option (maybe.Option BoardSlot)) (a b c d d' : ℕ) → (d ≡ 0 → d' ≡ 0) → IsBookKept window word home a b c d → IsBookKept window word home a b c d'
book-seen window word home a b c d d' none_more is = record { out = is.out; bit = is.bit; once = is.once; unheld = is.unheld; unseen = (λ e. none_more (is.unseen e)); bare = is.bare; stands = is.stands }

-- who isn't numbered 0 isn't the first seat
pub first-other : (about : Option Basis) (number : ℕ) → number ≢ 0 → first_one about number ≡ 0
first-other (Some basis) zero ne = absurd (ne refl)
first-other it number ne = refl

pub only-none : (b : Bool) (n : ℕ) → n ≡ 0 → only_if b n ≡ 0
only-none true n e = e
only-none false n e = refl

pub first-seat : (key : Basis) (v : View) → v.about ≡ Some key → v.number ≡ 0 → is_first v ≡ 1
first-seat key v about zeroth = subst (λ (z : Option Basis × ℕ). first_one z.0 z.1 ≡ 1) (λ k. (sym about k, sym zeroth k)) refl

module _ (views : List View) (id : ℕ) (v w : View) (at : get_elem? views id ≡ maybe.some v) where
  abbrev new : List View
  new = set views id w

  same : (f : View → ℕ) → f w ≡ f v → summed f (set views id w) ≡ summed f views
  same f e = total-same f views id v w at e

  pub parts-stay : w.parts ≡ v.parts → w.made ≡ v.made → is_first w ≡ is_first v → AreParts views → AreParts (set views id w)
  parts-stay ep em ef r = let made = same (λ u. u.made) em in let count = same (λ u. length u.parts) (ap length ep) in let first = same is_first ef in
      let c = r.count in let fe = r.few in let f = r.first in
      record {
        each = λ x. same (λ u. times x u.parts) (ap (times x) ep) ∙ (r.each x ∙ ap (λ (m : ℕ). once_below x (m + 1)) (sym made));
        count = omega arith;
        few = omega arith;
        first = omega arith;
      }

  pub tickets-stay : (n word : ℕ) → w.drawn ≡ v.drawn → AreDealt n word views → AreDealt n word (set views id w)
  tickets-stay n word ed r = let late = same (λ u. late_among n u.drawn) (ap (late_among n) ed) in let inside = r.within in
      record { each = λ x. same (λ u. times x u.drawn) (ap (times x) ed) ∙ r.each x; within = omega arith }

  pub book-stays : (window : Window) (word : ℕ) (home : maybe.Option (maybe.Option BoardSlot)) → w.holds ≡ v.holds → phase_opening w.phase ≡ phase_opening v.phase → has_opened w ≡ has_opened v → w.opened ≡ v.opened
      → IsBookKeptBy window word home views → IsBookKeptBy window word home (set views id w)
  book-stays window word home eh ep eo es r = book-by window word home _ _ _ _ _ _ _ _
      (same (λ u. one_if u.holds) (ap one_if eh)) (same (λ u. phase_opening u.phase) ep) (same has_opened eo) (same (λ u. one_if u.opened) (ap one_if es)) r

  pub look-stays : (window : Window) (j word : ℕ) (home : maybe.Option (maybe.Option BoardSlot)) → times j w.put ≡ times j v.put → times j w.took ≡ times j v.took → putting j w.phase ≡ putting j v.phase → taking j w.phase ≡ taking j v.phase
      → IsLookKeptBy window j word home views → IsLookKeptBy window j word home (set views id w)
  look-stays window j word home ep et eu ek r = look-by window j word home _ _ _ _ _ _ _ _
      (same (λ u. times j u.put) ep) (same (λ u. times j u.took) et) (same (λ u. putting j u.phase) eu) (same (λ u. taking j u.phase) ek) r
