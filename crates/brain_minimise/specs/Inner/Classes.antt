-- Classes of states: each is named by its least member.
use Rattle.std.specs.Prelude.{◌≡◌, ℕ, ◌+◌, ◌-◌, ◌<◌, ◌≤◌, true, List, [], ◌∷◌, length, slice_index, slice_index_or, Option, Some, None}
use Rattle.brain_read.specs.declared.instr.Instr.{Instr}
use Rattle.ant_turn.specs.Renumber.{redirected}
use Rattle.ant_turn.specs.Turn.{instruction_at}
use Rattle.brain_minimise.specs.Equivalence.{Relation, IsBisimulation}

-- two states behave alike: they have one shape, and their successors are in the same classes
abbrev pub DoAlike : List Instr → List ℕ → ℕ → ℕ → Type 0
DoAlike brain classes a b =
    redirected (slice_index classes) (instruction_at brain a)
    ≡ redirected (slice_index classes) (instruction_at brain b)

-- each state has a class, which is named by its least member, and equivalent states are in one class
pub record AreClasses (brain : List Instr) (classes : List ℕ) : Type 0 where
  pub each : length classes ≡ length brain
  pub low : (state : ℕ) → state < length brain → slice_index classes state ≤ state
  pub own : (state : ℕ) → state < length brain
      → slice_index classes (slice_index classes state) ≡ slice_index classes state
  pub all : (related : Relation) → IsBisimulation brain brain related → (a b : ℕ) → related a b ≡ true
      → slice_index classes a ≡ slice_index classes b

-- each state behaves as its class's least member
abbrev pub AreStable : List Instr → List ℕ → Type 0
AreStable brain classes = (state : ℕ) → state < length brain → DoAlike brain classes state (slice_index classes state)

-- how far the classes' least members are below their states, in total, if the first state has this number
abbrev pub slack : ℕ → List ℕ → ℕ
slack state [] = 0
slack state (class ∷ classes) = state - class + slack (state + 1) classes

-- the new class of a state: the old one if the state behaves as its least member, and otherwise that of the first state
-- of the old class which doesn't
pub data IsNewClass (brain : List Instr) (classes : List ℕ) (heirs : List (Option ℕ)) (state class : ℕ) : Type 0 where
  Stays : DoAlike brain classes state (slice_index classes state) → class ≡ slice_index classes state
      → IsNewClass brain classes heirs state class
  Parts : (DoAlike brain classes state (slice_index classes state) → ⊥)
      → slice_index_or heirs (slice_index classes state) None ≡ Some class
      → IsNewClass brain classes heirs state class
