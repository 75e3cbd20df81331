use Rattle.std.proofs.Common.{◌+◌, ◌*◌, length}
use Rattle.brain_same.specs.Inner.Classes.{total}
use Rattle.brain_same.proofs.SearchLemmas.{Searching}
use Rattle.brain_same.proofs.search.search.Given as goal

abbrev pub invariant-loop-pair : goal.invariant-loop-pair
invariant-loop-pair l = Searching l.first l.second l.classes l.waiting.items

abbrev pub decreases-loop-pair : goal.decreases-loop-pair
decreases-loop-pair l = 2 * total l.classes + length l.waiting.items
