-- Two brains that are the same, and the first difference of others (over the task's neurology).
use Rattle.std.specs.Prelude.{◌≡◌, ◌≢◌, ℕ, Bool, true, List, length, Some}
use Rattle.brain_read.specs.declared.instr.Instr.{Instr}
use Rattle.ant_turn.specs.Turn.{instruction_at}
use Rattle.brain_minimise.specs.Equivalence.{Relation, IsBisimulation, shape_of}
use Rattle.brain_same.specs.declared.comparison.Comparison.{Comparison}
use Rattle.brain_same.specs.declared.comparison.Comparison.TheVariants.{Same, Different}
use Rattle.brain_same.specs.declared.comparison.Found.{Found}
use Rattle.brain_same.specs.Answers.{IsNoLater, led_to}

-- two brains are the same except for the numbers of their states: some bisimulation relates their states 0
pub record AreSame (first second : List Instr) : Type 0 where
  pub related : Relation
  pub bisimulation : IsBisimulation first second related
  pub holds : related 0 0 ≡ true

-- the same answers lead from the states 0 to these two, whose instructions differ in more than the states that they
-- name
pub record TellsApart (first second : List Instr) (answers : List Bool) (a b : ℕ) : Type 0 where
  pub one : led_to first answers 0 ≡ Some a
  pub other : led_to second answers 0 ≡ Some b
  pub differ : shape_of (instruction_at first a) ≢ shape_of (instruction_at second b)

-- these two are the first difference of the brains: this many answers lead there, and no list of answers that
-- distinguishes the brains comes before them
pub record IsFirstDifference (first second : List Instr) (many a b : ℕ) : Type 0 where
  pub answers : List Bool
  pub count : length answers ≡ many
  pub apart : TellsApart first second answers a b
  pub least : (others : List Bool) (c d : ℕ) → TellsApart first second others c d → IsNoLater answers others

-- a state and its instruction
abbrev pub found_of : List Instr → ℕ → Found
found_of brain state = record { state = state; instruction = instruction_at brain state }

-- the result of comparing two brains
pub data IsComparison (first second : List Instr) : Comparison → Type 0 where
  IsSame : AreSame first second → IsComparison first second Same
  IsDifferent : (many a b : ℕ) → IsFirstDifference first second many a b
      → IsComparison first second (Different many (found_of first a) (found_of second b))
