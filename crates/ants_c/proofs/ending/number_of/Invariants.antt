-- No line so far equals the text, so the number is that of the rest. No more lines are left than bytes.
use Rattle.std.proofs.Common.{◌≡◌, ◌≤◌, ◌+◌, length}
use Rattle.ant_base.specs.Lines.{lines_of}
use Rattle.ants_c.specs.Ended.{number_of}
use Rattle.ants_c.proofs.ending.number_of.Given as goal

abbrev pub invariant-loop-line : goal.invariant-loop-line
invariant-loop-line l = (number_of l.number l.text l.line-iterator ≡ number_of l.fn.first l.text (lines_of l.lines)) × (l.number + length l.line-iterator ≤ l.fn.first + length l.lines)
