-- the ants on the cells are counted by their ids
use Rattle.cell_world.proofs.AliveArePlaced.{alive-placed}
use Rattle.cell_world.proofs.count_laws.alive_are_placed.Goals as goal

pub returns : goal.returns
returns c = alive-placed
