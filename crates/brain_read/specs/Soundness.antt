-- What holds of every brain, as the clauses of the public calls use it (the task's neurology).
use Rattle.std.specs.Prelude.{◌≡◌, ℕ, ◌<◌, ◌≤◌, List, length, slice_get, Some}
use Rattle.brain_read.specs.declared.instr.Cond.{Cond}
use Rattle.brain_read.specs.declared.instr.Cond.TheVariants.{Marker}
use Rattle.brain_read.specs.declared.instr.Instr.{Instr}
use Rattle.brain_read.specs.declared.instr.Instr.TheVariants.{Sense, Mark, Unmark, PickUp, Drop, Turn, Move, Flip}

-- the largest number of instructions of a brain
abbrev pub most_states : ℕ
most_states = 10000

-- a condition that names a marker names one of 0 to 5
abbrev pub IsSoundCondition : Cond → Type 0
IsSoundCondition (Marker i) = i < 6
IsSoundCondition _ = Unit {0}

-- every state that the instruction names is below n, its marker is below 6 and its bound is at least 1
abbrev pub IsSound : ℕ → Instr → Type 0
IsSound n (Sense sight met unmet condition) = (met < n) × (unmet < n) × IsSoundCondition condition
IsSound n (Mark i next) = (i < 6) × (next < n)
IsSound n (Unmark i next) = (i < 6) × (next < n)
IsSound n (PickUp met unmet) = (met < n) × (unmet < n)
IsSound n (Drop next) = next < n
IsSound n (Turn side next) = next < n
IsSound n (Move met unmet) = (met < n) × (unmet < n)
IsSound n (Flip bound met unmet) = (1 ≤ bound) × (met < n) × (unmet < n)

-- 1 to 10,000 instructions, each of them sound
pub record IsBrain (list : List Instr) : Type 0 where
  pub some : 1 ≤ length list
  pub few : length list ≤ most_states
  pub sound : (i : ℕ) (instruction : Instr) → slice_get list i ≡ Some instruction → IsSound (length list) instruction
