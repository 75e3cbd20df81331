use Rattle.brain_minimise.proofs.Ranks.{KeepsText-minimised}
use Rattle.brain_minimise.proofs.laws.different_stay.Goals as goal

pub returns : goal.returns
returns c = KeepsText-minimised
