use Rattle.line_tokens.proofs.LineLemmas.{IsUnderway}
use Rattle.break_view.specs.Inner.Verdict.{break_reader}
use Rattle.break_view.proofs.read.read_list.Given as goal

-- the lines before were read, and the others are still to be read
abbrev pub invariant-loop-line : goal.invariant-loop-line
invariant-loop-line l = IsUnderway break_reader l.list.items l.number l.line-iterator l.text
