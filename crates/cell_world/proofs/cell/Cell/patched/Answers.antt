use Rattle.cell_world.specs.Parts.{patched}
use Rattle.cell_world.proofs.cell.Cell.patched.Goals as goal

pub returns : goal.returns
unfolding patched
returns c = rw (c.choose.ensures, c.choose-2.ensures, c.choose-3.ensures, c.choose-4.ensures, c.has.ensures, c.has-2.ensures, c.has-3.ensures, c.has-4.ensures, c.patched_ant.ensures)
