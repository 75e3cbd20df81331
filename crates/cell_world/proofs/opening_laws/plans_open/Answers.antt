-- the opening world of a plan is a world
use Rattle.cell_world.proofs.OpeningValid.{IsWorld-opening}
use Rattle.cell_world.proofs.opening_laws.plans_open.Goals as goal

pub returns : goal.returns
returns c = IsWorld-opening
