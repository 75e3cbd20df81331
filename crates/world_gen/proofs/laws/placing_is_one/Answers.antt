-- one element after another
use Rattle.world_gen.proofs.Unique.{one_outcome}
use Rattle.world_gen.proofs.laws.placing_is_one.Goals as goal

pub returns : goal.returns
returns c = one_outcome
