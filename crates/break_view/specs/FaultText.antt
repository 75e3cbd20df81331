-- The texts of the faults of a text of breaks (this project's own).
use Rattle.std.specs.Prelude.{ℕ, List, codes}
use Rattle.ant_base.specs.FaultText.{line_says, memory_text}
use Rattle.line_tokens.specs.FaultText.{line_fault_text}
use Rattle.line_tokens.specs.declared.refusal.LineFault.TheVariants as line_fault
use Rattle.break_view.specs.declared.fault.BreakFault.{BreakFault}
use Rattle.break_view.specs.declared.fault.BreakFault.TheVariants.{UnknownWord, MissingToken, BadNumber, ExtraToken, TooMany, OutOfMemory}

-- the text of the fault of a text of breaks
abbrev pub break_fault_text : BreakFault → List ℕ
break_fault_text (UnknownWord line) = line_says line (line_fault_text line_fault.UnknownWord)
break_fault_text (MissingToken line) = line_says line (line_fault_text line_fault.MissingToken)
break_fault_text (BadNumber line) = line_says line (line_fault_text line_fault.BadNumber)
break_fault_text (ExtraToken line) = line_says line (line_fault_text line_fault.ExtraToken)
break_fault_text (TooMany line) = line_says line (codes "too many breaks")
break_fault_text OutOfMemory = memory_text
