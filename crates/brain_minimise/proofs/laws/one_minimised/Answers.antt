use Rattle.brain_minimise.proofs.Uniqueness.{one_minimised}
use Rattle.brain_minimise.proofs.laws.one_minimised.Goals as goal

pub returns : goal.returns
returns c = one_minimised
