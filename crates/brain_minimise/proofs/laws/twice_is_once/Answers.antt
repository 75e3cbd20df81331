use Rattle.brain_minimise.proofs.Ranks.{twice}
use Rattle.brain_minimise.proofs.laws.twice_is_once.Goals as goal

pub returns : goal.returns
returns c = twice
