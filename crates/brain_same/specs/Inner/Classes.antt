-- Classes of states, each with a name, and two of them joined.
use Rattle.std.specs.Prelude.{◌≡◌, ◌⊎◌, ℕ, ◌+◌, ◌<◌, ◌==◌, Bool, true, false, List, [], ◌∷◌, length, slice_index, if◌then◌else◌}

-- each of this many states has a class of its own, named by its number
pub record AreApart (count : ℕ) (classes : List ℕ) : Type 0 where
  pub each : length classes ≡ count
  pub own : (state : ℕ) → state < count → slice_index classes state ≡ state

-- a name, with another one instead of this one
abbrev pub renamed : ℕ → ℕ → ℕ → ℕ
renamed from to class = if class == from then to else class

-- the sum of all names
abbrev pub total : List ℕ → ℕ
total [] = 0
total (class ∷ classes) = class + total classes

-- the classes of two states became one, and no others did; the names fell
pub record AreJoined (old new : List ℕ) (a b : ℕ) : Type 0 where
  pub each : length new ≡ length old
  pub joined : slice_index new a ≡ slice_index new b
  pub kept : (x y : ℕ) → x < length old → y < length old → slice_index old x ≡ slice_index old y
      → slice_index new x ≡ slice_index new y
  pub only : (x y : ℕ) → x < length old → y < length old → slice_index new x ≡ slice_index new y
      → (slice_index old x ≡ slice_index old y)
      ⊎ ((slice_index old x ≡ slice_index old a) × (slice_index old y ≡ slice_index old b))
      ⊎ ((slice_index old x ≡ slice_index old b) × (slice_index old y ≡ slice_index old a))
  pub falls : total new < total old

-- the classes of two states are joined, if they were two; if they were one, nothing changed
pub data IsJoined (old new : List ℕ) (a b : ℕ) : Bool → Type 0 where
  WereTwo : AreJoined old new a b → IsJoined old new a b true
  WereOne : slice_index old a ≡ slice_index old b → new ≡ old → IsJoined old new a b false
