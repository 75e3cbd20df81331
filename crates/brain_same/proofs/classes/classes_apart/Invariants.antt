use Rattle.brain_same.specs.Inner.Classes.{AreApart}
use Rattle.brain_same.proofs.classes.classes_apart.Given as goal

abbrev pub invariant-loop-state : goal.invariant-loop-state
invariant-loop-state l = AreApart l.state l.classes.items
