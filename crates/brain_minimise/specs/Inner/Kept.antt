-- The instructions of the kept states.
use Rattle.std.specs.Prelude.{◌≡◌, ℕ, ◌<◌, ◌≤◌, List, length, slice_get, Option, Some}
use Rattle.brain_read.specs.declared.instr.Instr.{Instr}
use Rattle.ant_turn.specs.Renumber.{state_number, redirected}
use Rattle.ant_turn.specs.Turn.{instruction_at}
use Rattle.brain_minimise.specs.Minimised.{new_number}

-- the instruction with each number is that of a state with this number, with its successors renumbered
pub record AreKept (brain : List Instr) (numbers : List (Option ℕ)) (kept : List Instr) : Type 0 where
  pub few : length kept ≤ length brain
  pub below : (state number : ℕ) → new_number numbers state ≡ Some number → number < length kept
  pub from : (number : ℕ) → number < length kept → (state : ℕ) × (new_number numbers state ≡ Some number)
      × (slice_get kept number ≡ Some (redirected (state_number (new_number numbers)) (instruction_at brain state)))
