-- What a list contains, from its first element on.
use Rattle.std.proofs.Common.{◌≡◌, ℕ, ◌<◌, zero, suc, ◌⊎◌, inl, inr, List, [], ◌∷◌, ◌++◌, length, refl, arith}
use Rattle.std.specs.List.{Contains, slice_index_or}

-- no element is in the empty list
pub Contains-none : {X : Type 0} (x : X) → Contains [] x → ⊥
Contains-none x (k, within, is) = omega arith

-- in a list of one there is this one
pub Contains-one : {X : Type 0} (x y : X) → Contains (x ∷ []) y → x ≡ y
Contains-one x y (zero, within, is) = is
Contains-one x y (suc k, within, is) = absurd (omega arith)

-- the first element is in the list
pub Contains-first : {X : Type 0} (x : X) (xs : List X) → Contains (x ∷ xs) x
Contains-first x xs = (0, omega arith, refl)

-- an element is in a longer list
pub Contains-later : {X : Type 0} (x y : X) (xs : List X) → Contains xs y → Contains (x ∷ xs) y
Contains-later x y xs (k, within, is) = (suc k, omega arith, is)

-- an element is the first one, or a later one
pub Contains-cases : {X : Type 0} (x y : X) (xs : List X) → Contains (x ∷ xs) y → (x ≡ y) ⊎ Contains xs y
Contains-cases x y xs (k, within, is) = go k within is where
  go : (k : ℕ) → k < length (x ∷ xs) → slice_index_or (x ∷ xs) k y ≡ y → (x ≡ y) ⊎ Contains xs y
  go zero within is = inl is
  go (suc k) within is = inr (k, omega arith, is)

-- two lists that are empty together are both empty
pub append-empty : {X : Type 0} (xs ys : List X) → xs ++ ys ≡ [] → (xs ≡ []) × (ys ≡ [])
append-empty [] ys none = (refl, none)
append-empty (x ∷ xs) ys none = (let never : x ∷ (xs ++ ys) ≡ [] = none in absurd (cc))
