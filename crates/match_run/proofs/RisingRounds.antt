-- Rounds in another order, and how one of those that never fall is found.
use Rattle.std.proofs.Common.{◌≡◌, ◌<◌, ◌≤◌, ℕ, Bool, true, false, List, length, get_or, Result, Ok, Err, nat_eq, nat_lt, refl, sym, arith, eq-eqb, ne_eqb, ltb-true, ltb-false}
use Rattle.std.specs.Prelude.{IsPermutation}
use Rattle.std.specs.List.Sorted.{IsBinarySearchResult, IsNonDecreasing}
use Rattle.std.specs.Ordering.{nat_cmp}
use Rattle.std.specs.Result.{MatchResult, is_ok}
use Rattle.std.proofs.lemmas.List.Elements.{All-from_get_or}
use Rattle.std.proofs.lemmas.List.Folds.{list_any_at, list_any_none}
use Rattle.std.proofs.lemmas.List.Sorted.{list_any-IsPermutation, searched}
use Rattle.match_run.specs.Dumps.{has_round}

-- the same numbers in another order are the same rounds
pub has_round-permuted : (list other : List ℕ) → IsPermutation list other → (round : ℕ) → has_round other round ≡ has_round list round
has_round-permuted list other moved round = sym (list_any-IsPermutation (λ n. nat_eq n round) list other moved)

-- what halving finds is whether the round is there
pub has_round-searched : (list : List ℕ) (round : ℕ) (found : Result ℕ ℕ) → IsNonDecreasing list → IsBinarySearchResult (λ n. nat_cmp n round) list found → is_ok found ≡ has_round list round
has_round-searched list round found rises is = go found (searched list round found is (λ i j up below. rises i j 0 up below))
  where
    go : (r : Result ℕ ℕ) → MatchResult r (λ i. (i < length list) × (get_or list i 0 ≡ round)) (λ i. (i ≤ length list) × ((k : ℕ) → k < i → get_or list k 0 < round) × ((k : ℕ) → i ≤ k → k < length list → round < get_or list k 0))
        → is_ok r ≡ has_round list round
    go (Ok i) there = sym (list_any_at (λ n. nat_eq n round) list i 0 there.0 (eq-eqb _ _ there.1))
    go (Err i) away = sym (list_any_none (λ n. nat_eq n round) list (All-from_get_or (λ n. nat_eq n round ≡ false) list 0 (λ k below. ne_eqb _ _ (λ same. apart k below same (nat_lt k i) refl))))
      where
        apart : (k : ℕ) → k < length list → get_or list k 0 ≡ round → (b : Bool) → nat_lt k i ≡ b → ⊥
        apart k below same true e = let less = away.1 k (ltb-true k i e) in omega (arith, less, same)
        apart k below same false e = let more = away.2 k (ltb-false k i e) below in omega (arith, more, same)
