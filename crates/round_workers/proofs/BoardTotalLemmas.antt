-- Totals over lists: what a change of one element, or one more, makes of them.
use Rattle.std.proofs.Common.{◌≡◌, ℕ, eq-eqb, ne_eqb, lt_of_not-le, zero, suc, ◌+◌, ◌<◌, ◌≤◌, ◌≢◌, List, [], ◌∷◌, ◌++◌, length, set, sym, refl, ap, arith}
use mathlib.Core.Option.{some, some-injective, some-ne-none}
use lib.ListN.{get_elem?}
use native.Mathlib.Decide.{dec_le, ℕ_discrete}
use Rattle.std.proofs.lemmas.Bool.{le-leb, le-ltb, lt-leb, lt-ltb}
use Rattle.std.specs.List.{AllByRecursion}
use Rattle.std.specs.Prelude.{nat_eq, nat_le, nat_lt}
use Rattle.cell_world.proofs.GridSums.{one_if-le_one}
use Rattle.cell_world.specs.Cell.{one_if}
use Rattle.round_book.specs.Machine.{times}
use Rattle.round_workers.specs.BoardTotals.{late_among, once_below, summed}

module _ {A : Type 0} (f : A → ℕ) where
  pub total-set : (l : List A) (i : ℕ) (v w : A) → get_elem? l i ≡ some v → summed f (set l i w) + f v ≡ summed f l + f w
  total-set [] i v w e = absurd (some-ne-none v (sym e))
  total-set (x ∷ xs) zero v w e = let is : f x ≡ f v = ap f (some-injective x v e) in omega arith
  total-set (x ∷ xs) (suc i) v w e = let r = total-set xs i v w e in omega arith

  pub total-same : (l : List A) (i : ℕ) (v w : A) → get_elem? l i ≡ some v → f w ≡ f v → summed f (set l i w) ≡ summed f l
  total-same l i v w e same = let r = total-set l i v w e in omega arith

  pub total-snoc : (l : List A) (v : A) → summed f (l ++ v ∷ []) ≡ summed f l + f v
  total-snoc [] v = omega arith
  total-snoc (x ∷ xs) v = let r = total-snoc xs v in omega arith

  pub total-at : (l : List A) (i : ℕ) (v : A) → get_elem? l i ≡ some v → f v ≤ summed f l
  total-at [] i v e = absurd (some-ne-none v (sym e))
  total-at (x ∷ xs) zero v e = let is : f x ≡ f v = ap f (some-injective x v e) in omega arith
  total-at (x ∷ xs) (suc i) v e = let r = total-at xs i v e in omega arith

  pub total-none : (l : List A) → ((i : ℕ) (v : A) → get_elem? l i ≡ some v → f v ≡ 0) → summed f l ≡ 0
  total-none [] none_of = refl
  total-none (x ∷ xs) none_of = let here : f x ≡ 0 = none_of 0 x refl in let there = total-none xs (λ i. none_of (suc i)) in omega arith

  -- if no other element counts
  pub total-alone : (l : List A) (i : ℕ) (v : A) → get_elem? l i ≡ some v → ((j : ℕ) (w : A) → j ≢ i → get_elem? l j ≡ some w → f w ≡ 0) → summed f l ≡ f v
  total-alone [] i v e none_of = absurd (some-ne-none v (sym e))
  total-alone (x ∷ xs) zero v e none_of =
      let is : f x ≡ f v = ap f (some-injective x v e) in let rest = total-none xs (λ j w at. none_of (suc j) w (λ h. omega arith) at) in omega arith
  total-alone (x ∷ xs) (suc i) v e none_of =
      let here : f x ≡ 0 = none_of 0 x (λ h. omega arith) refl in let rest = total-alone xs i v e (λ j w other at. none_of (suc j) w (λ h. other (omega arith)) at) in omega arith

  module _ (g : A → ℕ) where
    pub total-add : (l : List A) → summed (λ v. f v + g v) l ≡ summed f l + summed g l
    total-add [] = refl
    total-add (x ∷ xs) = let r = total-add xs in omega arith

    pub total-le : (l : List A) → ((j : ℕ) (u : A) → get_elem? l j ≡ some u → f u ≤ g u) → summed f l ≤ summed g l
    total-le [] le = omega arith
    total-le (x ∷ xs) le = let here : f x ≤ g x = le 0 x refl in let r = total-le xs (λ j. le (suc j)) in omega arith

    -- if f is nowhere above g, the gap of one element is at most that of the totals
    pub total-gap : (l : List A) (i : ℕ) (v : A) → get_elem? l i ≡ some v → ((j : ℕ) (u : A) → get_elem? l j ≡ some u → f u ≤ g u) → summed f l + g v ≤ summed g l + f v
    total-gap [] i v e le = absurd (some-ne-none v (sym e))
    total-gap (x ∷ xs) zero v e le =
        let is : f x ≡ f v = ap f (some-injective x v e) in let is' : g x ≡ g v = ap g (some-injective x v e) in let r = total-le xs (λ j. le (suc j)) in omega arith
    total-gap (x ∷ xs) (suc i) v e le = let here : f x ≤ g x = le 0 x refl in let r = total-gap xs i v e (λ j. le (suc j)) in omega arith

pub times-append : (x : ℕ) (l m : List ℕ) → times x (l ++ m) ≡ times x l + times x m
times-append x [] m = omega arith
times-append x (y ∷ ys) m = let r = times-append x ys m in omega arith

pub late-append : (n : ℕ) (l m : List ℕ) → late_among n (l ++ m) ≡ late_among n l + late_among n m
late-append n [] m = omega arith
late-append n (y ∷ ys) m = let r = late-append n ys m in omega arith

-- a test of two numbers counts one where they are equal, and otherwise none
pub same-one : (a b : ℕ) → a ≡ b → one_if (nat_eq a b) ≡ 1
same-one a b e = ap one_if (eq-eqb a b e)

pub other-none : (a b : ℕ) → a ≢ b → one_if (nat_eq a b) ≡ 0
other-none a b ne = ap one_if (ne_eqb a b ne)

pub below-one : (x n : ℕ) → x < n → once_below x n ≡ 1
below-one x n h = ap one_if (lt-ltb x n h)

pub above-none : (x n : ℕ) → n ≤ x → once_below x n ≡ 0
above-none x n h = ap one_if (le-ltb x n h)

pub once-le : (x n : ℕ) → once_below x n ≤ 1
once-le x n = one_if-le_one (nat_lt x n)

pub below-where : (x n : ℕ) → 1 ≤ once_below x n → x < n
below-where x n h = by_cases (dec_le n x) where
  by_cases : Dec (n ≤ x) → x < n
  by_cases (yes le) = let none_of = above-none x n le in absurd (omega arith)
  by_cases (no gt) = lt_of_not-le gt

-- one more number is below the next bound
pub once-suc : (x n : ℕ) → once_below x (n + 1) ≡ once_below x n + one_if (nat_eq n x)
once-suc x n = by_cases (dec_le n x) (ℕ_discrete n x) where
  by_cases : Dec (n ≤ x) → Dec (n ≡ x) → once_below x (n + 1) ≡ once_below x n + one_if (nat_eq n x)
  by_cases le (yes e) = let a = below-one x (n + 1) (omega arith) in let b = above-none x n (omega arith) in let c = same-one n x e in omega arith
  by_cases (yes le) (no ne) = let a = above-none x (n + 1) (omega arith) in let b = above-none x n le in let c = other-none n x ne in omega arith
  by_cases (no gt) (no ne) = let g : x < n = lt_of_not-le gt in let a = below-one x (n + 1) (omega arith) in let b = below-one x n g in let c = other-none n x ne in omega arith

-- a number that stands in a list is below a bound, if each that stands there is
pub all-below : (n : ℕ) (xs : List ℕ) → ((x : ℕ) → 1 ≤ times x xs → x < n) → AllByRecursion (λ k. k < n) xs
all-below n [] below = tt
all-below n (y ∷ ys) below = (below y (let one = same-one y y refl in omega arith), all-below n ys (λ x h. below x (omega arith)))

pub times-length : (x : ℕ) (xs : List ℕ) → times x xs ≤ length xs
times-length x [] = omega arith
times-length x (y ∷ ys) = let rest = times-length x ys in let one = one_if-le_one (nat_eq y x) in omega arith

-- of numbers that are all below n none is n or above
pub none-late : (n : ℕ) (xs : List ℕ) → AllByRecursion (λ k. k < n) xs → late_among n xs ≡ 0
none-late n [] all = refl
none-late n (y ∷ ys) all = let rest = none-late n ys all.1 in let here = ap one_if (lt-leb n y all.0) in omega arith

pub late-one : (n x : ℕ) → n ≤ x → one_if (nat_le n x) ≡ 1
late-one n x h = ap one_if (le-leb n x h)

module _ {A : Type 0} (f : A → ℕ) where
  -- two elements count no more than all
  pub total-two : (l : List A) (i j : ℕ) (v w : A) → get_elem? l i ≡ some v → get_elem? l j ≡ some w → j ≢ i → f v + f w ≤ summed f l
  total-two [] i j v w e d ne = absurd (some-ne-none v (sym e))
  total-two (x ∷ xs) zero zero v w e d ne = absurd (ne refl)
  total-two (x ∷ xs) zero (suc j) v w e d ne = let is : f x ≡ f v = ap f (some-injective x v e) in let r = total-at f xs j w d in omega arith
  total-two (x ∷ xs) (suc i) zero v w e d ne = let is : f x ≡ f w = ap f (some-injective x w d) in let r = total-at f xs i v e in omega arith
  total-two (x ∷ xs) (suc i) (suc j) v w e d ne = let r = total-two xs i j v w e d (λ h. ne (ap suc h)) in omega arith

  -- if one element becomes what two were, and the other counts none, the total stays
  pub total-joined : (l : List A) (i j : ℕ) (v w both spent : A) → get_elem? l i ≡ some v → get_elem? (set l i both) j ≡ some w → f spent ≡ 0 → summed f (set (set l i both) j spent) + (f v + f w) ≡ summed f l + f both
  total-joined l i j v w both spent e d none_left = let a = total-set f l i v both e in let b = total-set f (set l i both) j w spent d in omega arith
