use Rattle.cell_world.proofs.Patches.{same_parts}
use Rattle.cell_world.proofs.part_laws.cells_are_parts.Goals as goal

pub returns : goal.returns
returns c = same_parts
