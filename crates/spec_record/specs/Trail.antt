-- A world on which a turn is tried: a borrowed one, with cells that were set over it (this project's own).
use Rattle.std.specs.Prelude.{ℕ, ◌-◌, List, [], ◌∷◌, length}
use Rattle.hex_geometry.specs.declared.position.Pos.{Pos}
use Rattle.cell_world.specs.declared.cell.Cell.{Cell}
use Rattle.cell_world.specs.Grid.{Grid, world_of}
use Rattle.cell_world.specs.World.{Cells, World, put_cell, with_cells}

-- positions with their cells, the oldest first
abbrev pub Sets : Type 0
Sets = List (Pos × Cell)

-- what a contract sees of a trail: the borrowed world, and what was set since
pub record TrailValue : Type 0 where
  pub base : Grid
  pub sets : Sets

-- the cells after each of these was set in turn
unfoldable pub laid : Cells → Sets → Cells
laid cells [] = cells
laid cells (new ∷ more) = laid (put_cell cells new.0 new.1) more

-- the world of a trail
abbrev pub trail_world : TrailValue → World
trail_world trail = with_cells (world_of trail.base) (laid (world_of trail.base).cells trail.sets)

-- how many more cells it can take
abbrev pub trail_room : TrailValue → ℕ
trail_room trail = 9 - length trail.sets
