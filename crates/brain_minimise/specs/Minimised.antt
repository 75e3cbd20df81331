-- A minimised brain and the map to its states.
use Rattle.std.specs.Prelude.{◌≡◌, ℕ, ◌<◌, ◌≤◌, List, length, slice_index_or, slice_get, Option, Some, None, IsSome}
use Rattle.brain_read.specs.declared.instr.Instr.{Instr}
use Rattle.ant_turn.specs.Renumber.{state_number, redirected}
use Rattle.ant_turn.specs.Turn.{instruction_at}
use Rattle.brain_minimise.specs.Equivalence.{AreEquivalent}
use Rattle.brain_minimise.specs.Reach.{IsReachable}

-- the new number of an old state by a map; none after the end of the map
abbrev pub new_number : List (Option ℕ) → ℕ → Option ℕ
new_number numbers state = slice_index_or numbers state None

-- this is the least state that has this number
pub record IsLeast (numbers : List (Option ℕ)) (number state : ℕ) : Type 0 where
  pub has : new_number numbers state ≡ Some number
  pub least : (other : ℕ) → new_number numbers other ≡ Some number → state ≤ other

-- a brain was minimised to another by this map
pub record IsMinimised (old new : List Instr) (numbers : List (Option ℕ)) : Type 0 where
  -- the map has one entry for each old state
  pub each : length numbers ≡ length old
  -- the old states that have a number are exactly those that can be reached
  pub kept : (state : ℕ) → IsReachable old state → IsSome (new_number numbers state)
  pub dropped : (state number : ℕ) → new_number numbers state ≡ Some number → IsReachable old state
  -- equivalent states have one number
  pub alike : (a b : ℕ) → IsReachable old a → IsReachable old b
      → AreEquivalent old a b → new_number numbers a ≡ new_number numbers b
  -- only equivalent states have one number
  pub merged : (a b number : ℕ) → new_number numbers a ≡ Some number → new_number numbers b ≡ Some number
      → AreEquivalent old a b
  -- the instruction at a number is that of each of its states, with its successors renumbered
  pub acts : (state number : ℕ) → new_number numbers state ≡ Some number
      → slice_get new number ≡ Some (redirected (state_number (new_number numbers)) (instruction_at old state))
  -- each new state is the number of an old one
  pub onto : (number : ℕ) → number < length new → (state : ℕ) × (new_number numbers state ≡ Some number)
  -- each new state can be reached
  pub reached : (number : ℕ) → number < length new → IsReachable new number
  -- no two new states are equivalent
  pub apart : (a b : ℕ) → AreEquivalent new a b → a ≡ b
  -- the numbers rise with the least states that have them
  pub rising : (lower upper a b : ℕ) → lower < upper → IsLeast numbers lower a → IsLeast numbers upper b → a < b
