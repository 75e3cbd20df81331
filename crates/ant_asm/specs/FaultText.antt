-- The texts of the faults of a labelled program (this project's own).
use Rattle.std.specs.Prelude.{ℕ, List, codes}
use Rattle.ant_base.specs.FaultText.{line_says, memory_text}
use Rattle.line_tokens.specs.FaultText.{bad_byte_text, line_fault_text}
use Rattle.line_tokens.specs.declared.refusal.LineFault.TheVariants as line_fault
use Rattle.brain_read.specs.FaultText.{brain_fault_text}
use Rattle.brain_read.specs.declared.fault.BrainFault.TheVariants as brain
use Rattle.ant_asm.specs.declared.fault.AsmFault.{AsmFault}
use Rattle.ant_asm.specs.declared.fault.AsmFault.TheVariants.{BadByte, UnknownWord, MissingToken, BadNumber, ExtraToken, BadName, Misplaced, Twice, NoBlock, WrongCount, TooMany, EmptyBlock, Empty, NoLabel, OutOfMemory}

-- the text of a labelled program's fault
abbrev pub asm_fault_text : AsmFault → List ℕ
asm_fault_text (BadByte line) = line_says line bad_byte_text
asm_fault_text (UnknownWord line) = line_says line (line_fault_text line_fault.UnknownWord)
asm_fault_text (MissingToken line) = line_says line (line_fault_text line_fault.MissingToken)
asm_fault_text (BadNumber line) = line_says line (line_fault_text line_fault.BadNumber)
asm_fault_text (ExtraToken line) = line_says line (line_fault_text line_fault.ExtraToken)
asm_fault_text (BadName line) = line_says line (codes "bad name")
asm_fault_text (Misplaced line) = line_says line (codes "misplaced")
asm_fault_text (Twice line) = line_says line (codes "name taken")
asm_fault_text (NoBlock line) = line_says line (codes "no such block")
asm_fault_text (WrongCount line) = line_says line (codes "wrong number of labels")
asm_fault_text (TooMany line) = line_says line (codes "too many")
asm_fault_text (EmptyBlock line) = line_says line (codes "empty block")
asm_fault_text Empty = brain_fault_text brain.Empty
asm_fault_text (NoLabel line) = line_says line (codes "no such label")
asm_fault_text OutOfMemory = memory_text
