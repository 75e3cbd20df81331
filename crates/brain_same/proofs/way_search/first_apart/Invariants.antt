use Rattle.std.proofs.Common.{◌+◌, ◌-◌, ◌*◌, length}
use Rattle.brain_same.specs.Inner.Classes.{total}
use Rattle.brain_same.proofs.ReachedLemmas.{Keeps}
use Rattle.brain_same.proofs.way_search.first_apart.Given as goal

abbrev pub invariant-loop-place : goal.invariant-loop-place
invariant-loop-place l = Keeps l.first l.second l.classes l.reached.items l.place

abbrev pub decreases-loop-place : goal.decreases-loop-place
decreases-loop-place l = 2 * total l.classes + (length l.reached.items - l.place)
