use Rattle.ant_asm.proofs.OutlineReading.{AreUnderway}
use Rattle.ant_asm.proofs.outline.outlines_into.Given as goal

-- the lines before were read, and the others are still to be read
abbrev pub invariant-loop-line : goal.invariant-loop-line
invariant-loop-line l = AreUnderway l.initial.outlines l.outlines l.number l.line-iterator l.text
