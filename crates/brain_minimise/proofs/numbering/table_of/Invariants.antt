use Rattle.brain_minimise.proofs.Numbers.{IsTabling}
use Rattle.brain_minimise.proofs.numbering.table_of.Given as goal

abbrev pub invariant-loop-state : goal.invariant-loop-state
invariant-loop-state l = IsTabling l.numbers l.table.items l.state
