use Rattle.std.proofs.Common.{map}
use Rattle.brain_read.specs.Inner.Answered.{placed_of}
use Rattle.brain_read.specs.Inner.Verdict.{brain_reader}
use Rattle.line_tokens.proofs.LineLemmas.{IsUnderway}
use Rattle.brain_read.proofs.read.read_drafts.Given as goal

-- the lines before were read, and the others are still to be read
abbrev pub invariant-loop-line : goal.invariant-loop-line
invariant-loop-line l = IsUnderway brain_reader (map placed_of l.drafts.items) l.number l.line-iterator l.text
