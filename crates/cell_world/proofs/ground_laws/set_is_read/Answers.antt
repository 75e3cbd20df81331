-- what is put is there, and nowhere else
use Rattle.std.proofs.Common.{sym}
use Rattle.cell_world.proofs.Puts.{put_cell-other, put_cell-same}
use Rattle.cell_world.proofs.ground_laws.set_is_read.Goals as goal

pub returns : goal.returns
returns c = record {
  here = λ w p cell. put_cell-same w.cells p cell;
  elsewhere = λ w p cell q apart. put_cell-other w.cells p cell q (λ e. apart (sym e));
}
