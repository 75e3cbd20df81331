use Rattle.std.proofs.Common.{◌≡◌, ◌++◌, drop}
use Rattle.match_save.specs.State.{ground_cells}
use Rattle.match_save.proofs.floor.ground_cells.Given as goal

-- the cells that are made, and those of what is left
abbrev pub invariant-loop-i : goal.invariant-loop-i
invariant-loop-i l = l.cells.items ++ ground_cells (drop l.i l.soils) (drop l.i l.reds) (drop l.i l.blacks) (drop l.i l.foods) ≡ ground_cells l.soils l.reds l.blacks l.foods
