-- each fits beside those before it
use Rattle.world_gen.proofs.Separate.{lie_apart}
use Rattle.world_gen.proofs.laws.elements_lie_apart.Goals as goal

pub returns : goal.returns
returns c = lie_apart
