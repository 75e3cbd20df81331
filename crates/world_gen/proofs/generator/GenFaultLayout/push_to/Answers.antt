-- the element is what its variant names
use Rattle.world_gen.proofs.generator.GenFaultLayout.push_to.Goals as goal

pub returns-in-NoRoom : goal.returns-in-NoRoom
returns-in-NoRoom g c = rw c.in-NoRoom.is c.push_to.ensures
