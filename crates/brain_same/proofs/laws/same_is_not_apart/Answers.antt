use Rattle.brain_same.proofs.SameLaws.{same_is_not_apart}
use Rattle.brain_same.proofs.laws.same_is_not_apart.Goals as goal

pub returns : goal.returns
returns c = same_is_not_apart
