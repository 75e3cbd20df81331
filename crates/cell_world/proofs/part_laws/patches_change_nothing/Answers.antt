use Rattle.cell_world.proofs.Patches.{patched-unchanged}
use Rattle.cell_world.proofs.part_laws.patches_change_nothing.Goals as goal

pub returns : goal.returns
returns c = patched-unchanged
