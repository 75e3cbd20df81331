-- Numbers of the classes of the seen states, in the order in which the classes first occur.
use Rattle.std.specs.Prelude.{◌≡◌, ℕ, ◌<◌, Bool, true, List, length, slice_index, Option, Some, IsSome}
use Rattle.ant_turn.specs.Renumber.{state_number}
use Rattle.brain_minimise.specs.Inner.Seen.{is_seen}
use Rattle.brain_minimise.specs.Minimised.{new_number}

-- before a state of some number there is one of each lower number
abbrev pub IsRising : List (Option ℕ) → Type 0
IsRising numbers = (state number lower : ℕ) → new_number numbers state ≡ Some number → lower < number
    → (earlier : ℕ) × (earlier < state) × (new_number numbers earlier ≡ Some lower)

-- the seen states have numbers: one for each class, and each number appears after all lower ones
pub record AreNumbers (classes : List ℕ) (seen : List Bool) (numbers : List (Option ℕ)) : Type 0 where
  pub each : length numbers ≡ length seen
  pub unseen : (state number : ℕ) → new_number numbers state ≡ Some number → is_seen seen state ≡ true
  pub numbered : (state : ℕ) → is_seen seen state ≡ true → IsSome (new_number numbers state)
  pub same_class : (a b number : ℕ) → new_number numbers a ≡ Some number → new_number numbers b ≡ Some number
      → slice_index classes a ≡ slice_index classes b
  pub same_number : (a b : ℕ) → is_seen seen a ≡ true → is_seen seen b ≡ true
      → slice_index classes a ≡ slice_index classes b
      → new_number numbers a ≡ new_number numbers b
  pub rising : IsRising numbers

-- the number of each state that has one; otherwise the state itself
pub record IsTable (numbers : List (Option ℕ)) (table : List ℕ) : Type 0 where
  pub each : length table ≡ length numbers
  pub entry : (state : ℕ) → state < length numbers → slice_index table state ≡ state_number (new_number numbers) state
