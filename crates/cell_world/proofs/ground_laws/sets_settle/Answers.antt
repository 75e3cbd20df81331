-- the laws of two changes
use Rattle.std.proofs.Common.{refl}
use Rattle.cell_world.proofs.Puts.{put-swap, put-twice, put-unchanged}
use Rattle.cell_world.proofs.ground_laws.sets_settle.Goals as goal

pub returns : goal.returns
returns c = record { swap = put-swap; twice = put-twice; same = λ w p. put-unchanged w p (w.cells p) refl }
