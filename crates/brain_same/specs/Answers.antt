-- Where answers lead in a brain, and which list of answers comes first (over the task's neurology).
use Rattle.std.specs.Prelude.{◌≡◌, ℕ, ◌<◌, Bool, true, false, List, [], ◌∷◌, length, slice_get, Option, Some}
use Rattle.std.specs.Option.{option_and_then}
use Rattle.brain_read.specs.declared.instr.Instr.{Instr}
use Rattle.brain_read.specs.Grammar.{states_of}
use Rattle.ant_turn.specs.Turn.{instruction_at}

-- the state to which an answer leads: met leads to the first that the instruction names, unmet to the second; an
-- instruction that names one state has one answer, met
abbrev pub next_by : Instr → Bool → Option ℕ
next_by instruction true = slice_get (states_of instruction) 0
next_by instruction false = slice_get (states_of instruction) 1

-- the state to which these answers lead from a state, one after another; none if an instruction on the way doesn't have
-- the answer
abbrev pub led_to : List Instr → List Bool → ℕ → Option ℕ
led_to brain [] = λ state. Some state
led_to brain (met ∷ answers) =
    λ state. option_and_then (led_to brain answers) (next_by (instruction_at brain state) met)

-- at the first difference of two lists, the first has met and the second unmet
abbrev pub IsMetFirst : List Bool → List Bool → Type 0
IsMetFirst [] others = Unit {0}
IsMetFirst (met ∷ answers) [] = ⊥
IsMetFirst (true ∷ answers) (true ∷ others) = IsMetFirst answers others
IsMetFirst (true ∷ answers) (false ∷ others) = Unit {0}
IsMetFirst (false ∷ answers) (true ∷ others) = ⊥
IsMetFirst (false ∷ answers) (false ∷ others) = IsMetFirst answers others

-- the first list isn't after the second: it is shorter, or equally long and has met at their first difference, or equal
pub data IsNoLater (answers others : List Bool) : Type 0 where
  IsShorter : length answers < length others → IsNoLater answers others
  IsAsLong : length answers ≡ length others → IsMetFirst answers others → IsNoLater answers others
