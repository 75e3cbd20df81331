-- The fault of a refused line, as the clause of `BrainFault::of_line` uses it (this project's own).
use Rattle.std.specs.Prelude.{ℕ, if◌then◌else◌}
use Rattle.brain_read.specs.declared.fault.BrainFault.{BrainFault}
use Rattle.brain_read.specs.declared.fault.BrainFault.TheVariants.{BadByte, UnknownWord, MissingToken, BadNumber, ExtraToken}
use Rattle.line_tokens.specs.declared.refusal.LineFault.{LineFault}
use Rattle.line_tokens.specs.declared.refusal.Refusal.{Refusal}

-- the fault of a line whose refused token has no bad byte
abbrev pub fault_at : ℕ → LineFault → BrainFault
fault_at line LineFault.UnknownWord = UnknownWord line
fault_at line LineFault.MissingToken = MissingToken line
fault_at line LineFault.BadNumber = BadNumber line
fault_at line LineFault.ExtraToken = ExtraToken line

-- the fault of a refused line
abbrev pub refusal_at : ℕ → Refusal → BrainFault
refusal_at line refusal = if refusal.bad_byte then BadByte line else fault_at line refusal.fault
