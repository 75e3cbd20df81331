-- Equivalent states of a brain, and relations between the states of two brains (the task's neurology).
use Rattle.std.specs.Prelude.{◌≡◌, ℕ, ◌<◌, Bool, true, List, [], ◌∷◌, length}
use Rattle.brain_read.specs.declared.instr.Instr.{Instr}
use Rattle.brain_read.specs.Grammar.{states_of}
use Rattle.ant_turn.specs.Renumber.{redirected}
use Rattle.ant_turn.specs.Turn.{instruction_at}

-- a relation on states, as a test
abbrev pub Relation : Type 0
Relation = ℕ → ℕ → Bool

-- the kind of an instruction, with its sight, condition, marker, side or bound: everything except the states that it
-- names
abbrev pub shape_of : Instr → Instr
shape_of instruction = redirected (λ _. 0) instruction

-- the states of two lists are related place by place
abbrev pub AreRelated : Relation → List ℕ → List ℕ → Type 0
AreRelated related [] [] = Unit {0}
AreRelated related [] (b ∷ others) = ⊥
AreRelated related (a ∷ states) [] = ⊥
AreRelated related (a ∷ states) (b ∷ others) = (related a b ≡ true) × AreRelated related states others

-- related states are a state of the first brain and one of the second, have the same kind and the same sight,
-- condition, marker, side or bound, and their successors are related place by place
pub record IsBisimulation (first second : List Instr) (related : Relation) : Type 0 where
  pub inside : (a b : ℕ) → related a b ≡ true → (a < length first) × (b < length second)
  pub shape : (a b : ℕ) → related a b ≡ true → shape_of (instruction_at first a) ≡ shape_of (instruction_at second b)
  pub onward : (a b : ℕ) → related a b ≡ true
      → AreRelated related (states_of (instruction_at first a)) (states_of (instruction_at second b))

-- two states of a brain are equivalent: some bisimulation of it and itself relates them
pub record AreEquivalent (brain : List Instr) (a b : ℕ) : Type 0 where
  pub related : Relation
  pub bisimulation : IsBisimulation brain brain related
  pub holds : related a b ≡ true
