-- The way to the first difference of two brains, answer by answer (over the task's neurology).
use Rattle.std.specs.Prelude.{◌≡◌, ℕ, Bool, List, [], ◌∷◌, Some, unwrap_or}
use Rattle.brain_read.specs.declared.instr.Instr.{Instr}
use Rattle.ant_turn.specs.Turn.{instruction_at}
use Rattle.brain_same.specs.declared.comparison.Comparison.{Comparison}
use Rattle.brain_same.specs.declared.comparison.Comparison.TheVariants.{Same, Different}
use Rattle.brain_same.specs.declared.way.Step.{Step}
use Rattle.brain_same.specs.Answers.{next_by}
use Rattle.brain_same.specs.Difference.{AreSame, IsFirstDifference, found_of}

-- an answer of both brains, with the states before it and their instructions
abbrev pub step_of : List Instr → List Instr → ℕ → ℕ → Bool → Step
step_of first second a b met = record { first = found_of first a; second = found_of second b; met = met }

-- the state to which an answer leads from a state whose instruction has it
abbrev pub state_after : List Instr → ℕ → Bool → ℕ
state_after brain state met = unwrap_or (next_by (instruction_at brain state) met) 0

-- the way by these answers from a state of each brain: a step for each answer, in their order
abbrev pub way_by : List Instr → List Instr → List Bool → ℕ → ℕ → List Step
way_by first second [] = λ a b. []
way_by first second (met ∷ answers) = λ a b. step_of first second a b met ∷ way_by first second answers (state_after first a met) (state_after second b met)

-- the result of comparing two brains, and the way there: none if they are the same; otherwise the way by the answers
-- after which they first differ
pub data IsWayComparison (first second : List Instr) : Comparison → List Step → Type 0 where
  NoWay : AreSame first second → IsWayComparison first second Same []
  ByWay : (many a b : ℕ) (difference : IsFirstDifference first second many a b)
      → IsWayComparison first second (Different many (found_of first a) (found_of second b))
      (way_by first second difference.answers 0 0)

-- a step from these states, whose answer both instructions have: it leads to those
pub record IsStep (first second : List Instr) (step : Step) (a b next other : ℕ) : Type 0 where
  pub one : step.first ≡ found_of first a
  pub two : step.second ≡ found_of second b
  pub leads : next_by step.first.instruction step.met ≡ Some next
  pub leads_too : next_by step.second.instruction step.met ≡ Some other

-- from two states: each step follows from the one before by its answer in both brains, and the last leads to these two
abbrev pub LeadsOn : List Instr → List Instr → List Step → ℕ → ℕ → ℕ → ℕ → Type 0
LeadsOn first second [] = λ a b c d. (a ≡ c) × (b ≡ d)
LeadsOn first second (step ∷ steps) =
    λ a b c d. (next : ℕ) × (other : ℕ) × IsStep first second step a b next other
    × LeadsOn first second steps next other c d
