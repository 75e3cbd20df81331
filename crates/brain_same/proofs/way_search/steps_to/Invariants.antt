use Rattle.brain_same.proofs.ReachedLemmas.{Walks}
use Rattle.brain_same.proofs.way_search.steps_to.Given as goal

abbrev pub invariant-loop-at : goal.invariant-loop-at
invariant-loop-at l = Walks l.first l.second l.reached l.place l.at l.steps.items

abbrev pub decreases-loop-at : goal.decreases-loop-at
decreases-loop-at l = l.at
