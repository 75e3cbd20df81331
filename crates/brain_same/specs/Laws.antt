-- Laws of brains that are the same, and of comparisons.
use Rattle.std.specs.Prelude.{◌≡◌, ℕ, Bool, List, Option, length}
use Rattle.brain_read.specs.Soundness.{IsBrain}
use Rattle.brain_read.specs.declared.instr.Instr.{Instr}
use Rattle.brain_minimise.specs.Minimised.{IsMinimised}
use Rattle.brain_same.specs.declared.comparison.Comparison.{Comparison}
use Rattle.brain_same.specs.declared.way.Step.{Step}
use Rattle.brain_same.specs.Difference.{AreSame, IsComparison, IsFirstDifference, TellsApart}
use Rattle.brain_same.specs.Way.{IsWayComparison, LeadsOn, way_by}

-- each brain is the same as itself; the order of the two doesn't matter; and if two brains are the same as a third,
-- they are the same
pub record SameIsEquivalence : Type 0 where
  pub itself : (brain : List Instr) → IsBrain brain → AreSame brain brain
  pub turned : (first second : List Instr) → AreSame first second → AreSame second first
  pub through : (first second third : List Instr) → AreSame first second → AreSame second third → AreSame first third

-- a brain is the same as its minimised one
abbrev pub MinimisedIsSame : Type 0
MinimisedIsSame = (old new : List Instr) (numbers : List (Option ℕ)) → IsMinimised old new numbers → AreSame old new

-- no list of answers distinguishes brains that are the same
abbrev pub SameIsNotApart : Type 0
SameIsNotApart =
    (first second : List Instr) → AreSame first second → (answers : List Bool) (a b : ℕ)
    → TellsApart first second answers a b → ⊥

-- two brains have one comparison
abbrev pub OneComparison : Type 0
OneComparison =
    (first second : List Instr) (one other : Comparison) → IsComparison first second one
    → IsComparison first second other → one ≡ other

-- two brains have a comparison
abbrev pub HasComparison : Type 0
HasComparison =
    (first second : List Instr) → IsBrain first → IsBrain second
    → (comparison : Comparison) × IsComparison first second comparison

-- the result of comparing two brains is the same with the way
abbrev pub WayIsComparison : Type 0
WayIsComparison =
    (first second : List Instr) (comparison : Comparison) (steps : List Step)
    → IsWayComparison first second comparison steps → IsComparison first second comparison

-- two brains have one comparison by one way
abbrev pub OneWay : Type 0
OneWay =
    (first second : List Instr) (one other : Comparison) (steps others : List Step)
    → IsWayComparison first second one steps → IsWayComparison first second other others
    → (one ≡ other) × (steps ≡ others)

-- two brains have a comparison by a way
abbrev pub HasWay : Type 0
HasWay =
    (first second : List Instr) → IsBrain first → IsBrain second
    → (comparison : Comparison) × (steps : List Step) × IsWayComparison first second comparison steps

-- the way has a step for each answer; the first begins at the states 0, each follows from the one before by its answer
-- in both brains, and the last leads to the two states of the first difference
abbrev pub WayLeads : Type 0
WayLeads = (first second : List Instr) (many a b : ℕ) (difference : IsFirstDifference first second many a b) →
    (length (way_by first second difference.answers 0 0) ≡ many)
    × LeadsOn first second (way_by first second difference.answers 0 0) 0 0 a b
