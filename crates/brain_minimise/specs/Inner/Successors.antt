-- The first and the last state that an instruction names; the same state twice if it names only one.
use Rattle.std.specs.Prelude.{ℕ, ◌-◌, length, slice_index}
use Rattle.brain_read.specs.declared.instr.Instr.{Instr}
use Rattle.brain_read.specs.Grammar.{states_of}

abbrev pub first_next : Instr → ℕ
first_next instruction = slice_index (states_of instruction) 0

abbrev pub last_next : Instr → ℕ
last_next instruction = slice_index (states_of instruction) (length (states_of instruction) - 1)
