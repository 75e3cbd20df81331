use Rattle.brain_minimise.proofs.Numbers.{IsKeeping}
use Rattle.brain_minimise.proofs.numbering.kept_instructions.Given as goal

abbrev pub invariant-loop-state : goal.invariant-loop-state
invariant-loop-state l = IsKeeping l.brain l.numbers l.table l.list.items l.state
