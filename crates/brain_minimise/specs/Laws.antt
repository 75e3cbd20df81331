-- Laws of minimising, in its own words.
use Rattle.std.specs.Prelude.{◌≡◌, ℕ, zero, suc, ◌<◌, ◌≤◌, List, [], ◌∷◌, length, map, Option, Some, None}
use Rattle.brain_read.specs.declared.instr.Instr.{Instr}
use Rattle.ant_turn.specs.Renumber.{state_number, redirected}
use Rattle.brain_minimise.specs.Equivalence.{AreEquivalent}
use Rattle.brain_minimise.specs.Minimised.{IsMinimised, new_number}
use Rattle.brain_minimise.specs.Reach.{IsReachable}

-- a brain is minimised to one brain, by one map
abbrev pub OneMinimised : Type 0
OneMinimised =
    (old new other : List Instr) (numbers others : List (Option ℕ)) → IsMinimised old new numbers
    → IsMinimised old other others
    → (new ≡ other) × (numbers ≡ others)

-- minimising a minimised brain changes nothing: the result is the same brain, and each state keeps its number
abbrev pub TwiceIsOnce : Type 0
TwiceIsOnce =
    (old new again : List Instr) (numbers others : List (Option ℕ)) → IsMinimised old new numbers
    → IsMinimised new again others →
    (again ≡ new) × ((state : ℕ) → state < length new → new_number others state ≡ Some state)

-- a brain is made from another by only merging equivalent reachable states: each reachable state has become one of its
-- states, and states that became one are equivalent
pub record Merges (old other : List Instr) (numbers : List (Option ℕ)) : Type 0 where
  pub kept : (state : ℕ) → IsReachable old state
      → (number : ℕ) × (number < length other) × (new_number numbers state ≡ Some number)
  pub merged : (a b number : ℕ) → new_number numbers a ≡ Some number → new_number numbers b ≡ Some number
      → AreEquivalent old a b

-- no brain that is made in this way has fewer states than the minimised one
abbrev pub FewestStates : Type 0
FewestStates =
    (old new other : List Instr) (numbers others : List (Option ℕ)) → IsMinimised old new numbers
    → Merges old other others → length new ≤ length other

-- no two states that can be reached are equivalent
abbrev pub AreDifferent : List Instr → Type 0
AreDifferent brain = (a b : ℕ) → IsReachable brain a → IsReachable brain b → AreEquivalent brain a b → a ≡ b

-- how many states before this one have a number
abbrev pub kept_before : List (Option ℕ) → ℕ → ℕ
kept_before [] state = 0
kept_before (o ∷ numbers) zero = 0
kept_before (None ∷ numbers) (suc state) = kept_before numbers state
kept_before (Some number ∷ numbers) (suc state) = suc (kept_before numbers state)

-- the instructions of the states that have a number, in their order
abbrev pub left_of : List (Option ℕ) → List Instr → List Instr
left_of [] brain = []
left_of (o ∷ numbers) [] = []
left_of (None ∷ numbers) (instruction ∷ brain) = left_of numbers brain
left_of (Some number ∷ numbers) (instruction ∷ brain) = instruction ∷ left_of numbers brain

-- a brain without two equivalent reachable states keeps its instructions, in their order, except the unreachable
-- states: the number of each state is how many reachable ones precede it, and if all can be reached nothing changes
pub record KeepsText (old new : List Instr) (numbers : List (Option ℕ)) : Type 0 where
  pub order : (state number : ℕ) → new_number numbers state ≡ Some number → number ≡ kept_before numbers state
  pub text : new ≡ map (redirected (state_number (new_number numbers))) (left_of numbers old)
  pub whole : ((state : ℕ) → state < length old → IsReachable old state) → new ≡ old

abbrev pub DifferentStay : Type 0
DifferentStay =
    (old new : List Instr) (numbers : List (Option ℕ)) → IsMinimised old new numbers → AreDifferent old
    → KeepsText old new numbers
