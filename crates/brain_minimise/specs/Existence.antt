-- A law beside the one that a brain has at most one minimised brain: it has at least one.
use Rattle.std.specs.Prelude.{ℕ, List, Option}
use Rattle.brain_read.specs.Soundness.{IsBrain}
use Rattle.brain_read.specs.declared.instr.Instr.{Instr}
use Rattle.brain_minimise.specs.Minimised.{IsMinimised}

-- each brain has a minimised one
abbrev pub HasMinimised : Type 0
HasMinimised =
    (brain : List Instr) → IsBrain brain
    → (new : List Instr) × (numbers : List (Option ℕ)) × IsMinimised brain new numbers
