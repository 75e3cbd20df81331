use Rattle.brain_minimise.specs.Inner.Classes.{AreClasses, slack}
use Rattle.brain_minimise.proofs.classes.equivalence_classes.Given as goal

abbrev pub invariant-loop-classes : goal.invariant-loop-classes
invariant-loop-classes l = AreClasses l.brain l.classes.items

abbrev pub decreases-loop-classes : goal.decreases-loop-classes
decreases-loop-classes l = slack 0 l.classes.items
