use Rattle.brain_minimise.proofs.Refinement.{IsRefining}
use Rattle.brain_minimise.proofs.classes.refine.Given as goal

abbrev pub invariant-loop-state : goal.invariant-loop-state
invariant-loop-state l = IsRefining l.brain l.classes l.heirs.items l.finer.items l.parted l.state
