-- the weight after a change
use Rattle.cell_world.proofs.Weights.{weight-put}
use Rattle.cell_world.proofs.ground_laws.set_weighs.Goals as goal

pub returns : goal.returns
returns c = weight-put
