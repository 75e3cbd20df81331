use Rattle.std.proofs.Common.{◌≡◌, drop}
use Rattle.match_save.specs.Inner.Floor.{are_sound_cells}
use Rattle.match_save.proofs.floor.are_sound_cells.Given as goal

-- it holds of all cells where it holds of those that are left
abbrev pub invariant-loop-number : goal.invariant-loop-number
invariant-loop-number l = are_sound_cells l.width l.height 0 l.cells ≡ are_sound_cells l.width l.height l.number (drop l.number l.cells)
