use Rattle.brain_minimise.proofs.Numbers.{IsNumbering}
use Rattle.brain_minimise.proofs.numbering.number_states.Given as goal

abbrev pub invariant-loop-state : goal.invariant-loop-state
invariant-loop-state l = IsNumbering l.classes l.seen l.order.keys l.numbers.items l.state
