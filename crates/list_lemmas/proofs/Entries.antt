-- The element at each number of a list, counted from 0.
use Rattle.std.proofs.Common.{◌≡◌, ℕ, zero, suc, ◌<◌, List, [], ◌∷◌, ◌++◌, length, Some, refl, ap₂, arith}
use Rattle.std.specs.Prelude.{slice_get}
use Rattle.std.proofs.lemmas.Option.{same_Some}

-- an entry of a list is also one of the list with more after it
pub slice_get-front : {X : Type 0} (xs more : List X) (i : ℕ) → i < length xs → slice_get (xs ++ more) i ≡ slice_get xs i
slice_get-front [] more i inside = absurd (omega arith)
slice_get-front (x ∷ xs) more zero inside = refl
slice_get-front (x ∷ xs) more (suc i) inside = slice_get-front xs more i (omega arith)

-- the entry after a list is the first of what follows it
pub slice_get-last : {X : Type 0} (xs : List X) (x : X) → slice_get (xs ++ x ∷ []) (length xs) ≡ Some x
slice_get-last [] x = refl
slice_get-last (y ∷ xs) x = slice_get-last xs x

-- lists of one length with the same entries are equal
pub same_entries : {X : Type 0} (xs ys : List X) → length xs ≡ length ys → ((i : ℕ) → i < length xs → slice_get xs i ≡ slice_get ys i) → xs ≡ ys
same_entries [] [] long each = refl
same_entries (x ∷ xs) (y ∷ ys) long each =
    ap₂ (λ z zs. z ∷ zs) (same_Some x y (each 0 (omega arith))) (same_entries xs ys (omega arith) (λ i early. each (suc i) (omega arith)))
same_entries it that long each = absurd (omega arith)
