use Rattle.ant_asm.proofs.ReadingLemmas.{IsUnderway}
use Rattle.ant_asm.proofs.program.read_lines.Given as goal

-- the lines before were read, and the others are still to be read
abbrev pub invariant-loop-line : goal.invariant-loop-line
invariant-loop-line l = IsUnderway l.program l.number l.line-iterator l.text
