use Rattle.cell_world.proofs.Patches.{patched-swap}
use Rattle.cell_world.proofs.part_laws.patches_settle.Goals as goal

pub returns : goal.returns
returns c = patched-swap
