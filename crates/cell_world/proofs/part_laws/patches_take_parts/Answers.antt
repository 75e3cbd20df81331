use Rattle.cell_world.proofs.Patches.{patched-HasParts}
use Rattle.cell_world.proofs.part_laws.patches_take_parts.Goals as goal

pub returns : goal.returns
returns c = patched-HasParts
