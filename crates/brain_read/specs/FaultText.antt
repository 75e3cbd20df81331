-- The texts of the faults of a brain's text (this project's own).
use Rattle.std.specs.Prelude.{ℕ, List, codes, decimal}
use Rattle.ant_base.specs.Layout.{◌+++◌}
use Rattle.ant_base.specs.FaultText.{line_says, memory_text}
use Rattle.line_tokens.specs.FaultText.{bad_byte_text, line_fault_text}
use Rattle.line_tokens.specs.declared.refusal.LineFault.TheVariants as line_fault
use Rattle.brain_read.specs.declared.fault.BrainFault.{BrainFault}
use Rattle.brain_read.specs.declared.fault.BrainFault.TheVariants.{BadByte, UnknownWord, MissingToken, BadNumber, ExtraToken, TooMany, Empty, NoSuchState, OutOfMemory}

-- the text of a brain's fault
abbrev pub brain_fault_text : BrainFault → List ℕ
brain_fault_text (BadByte line) = line_says line bad_byte_text
brain_fault_text (UnknownWord line) = line_says line (line_fault_text line_fault.UnknownWord)
brain_fault_text (MissingToken line) = line_says line (line_fault_text line_fault.MissingToken)
brain_fault_text (BadNumber line) = line_says line (line_fault_text line_fault.BadNumber)
brain_fault_text (ExtraToken line) = line_says line (line_fault_text line_fault.ExtraToken)
brain_fault_text (TooMany line) = line_says line (codes "too many instructions")
brain_fault_text Empty = codes "no instruction"
brain_fault_text (NoSuchState line state) = line_says line (codes "no such state " +++ decimal state)
brain_fault_text OutOfMemory = memory_text
