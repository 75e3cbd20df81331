-- Which states of a brain can be reached (the task's neurology).
use Rattle.std.specs.Prelude.{ℕ, List}
use Rattle.std.specs.List.{Contains}
use Rattle.brain_read.specs.declared.instr.Instr.{Instr}
use Rattle.brain_read.specs.Grammar.{states_of}
use Rattle.ant_turn.specs.Turn.{instruction_at}

-- state 0 can be reached, and from a reachable state each state that its instruction names
pub data IsReachable (brain : List Instr) : ℕ → Type 0 where
  Start : IsReachable brain 0
  Next : (state next : ℕ) → IsReachable brain state → Contains (states_of (instruction_at brain state)) next
      → IsReachable brain next
