use Rattle.brain_same.specs.Way.IsWayComparison.{NoWay}
use Rattle.brain_same.proofs.ReachedLemmas.{AreSame-ends}
use Rattle.brain_same.proofs.way_search.compare_way.Goals as goal

pub returns : goal.returns
returns c = rw c.new.ensures.items (NoWay (AreSame-ends c.args.first.now c.args.second.now c.first_apart.new.reached.items c.in_ok-place.field-0 c.in_ok-place.ensures c.in-None.is))
