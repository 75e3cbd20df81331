use Rattle.std.proofs.Common.{◌+◌, ◌*◌, length}
use Rattle.brain_minimise.proofs.Search.{Explores, unseen}
use Rattle.brain_minimise.proofs.reach.reachable.Given as goal

abbrev pub invariant-loop-state : goal.invariant-loop-state
invariant-loop-state l = Explores l.brain l.seen.items l.waiting.items

abbrev pub decreases-loop-state : goal.decreases-loop-state
decreases-loop-state l = 2 * unseen l.seen.items + length l.waiting.items
