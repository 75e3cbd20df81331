-- A world as its cells in row order, and the function from positions to cells that they are.
use Rattle.std.specs.Prelude.{◌≡◌, ℕ, ◌+◌, ◌*◌, if◌then◌else◌, nat_lt, List, length, None, slice_index_or}
use Rattle.std.specs.List.{AllByRecursion}
use Rattle.hex_geometry.specs.declared.position.Pos.{Pos}
use Rattle.cell_world.specs.declared.cell.Cell.{Cell}
use Rattle.cell_world.specs.Cell.{rock}
use Rattle.cell_world.specs.World.{World}
use Rattle.cell_world.specs.Valid.{Valid}

-- a world's sizes, the number of ids ever assigned, and its cells, row by row from the top, each row from left to right
pub record Grid : Type 0 where
  pub width : ℕ
  pub height : ℕ
  pub ids : ℕ
  pub cells : List Cell

-- the cell at a position; to the right of the rows and below the last one there is rock
unfoldable pub cell_in : Grid → Pos → Cell
cell_in g p = if nat_lt p.x g.width then slice_index_or g.cells (p.y * g.width + p.x) rock else rock

-- the world of a grid
abbrev pub world_of : Grid → World
world_of g = record { width = g.width; height = g.height; ids = g.ids; cells = cell_in g }

-- what holds of every grid of a world: it has all its cells, and its world is valid
pub record IsWorld (g : Grid) : Type 0 where
  pub full : length g.cells ≡ g.width * g.height
  pub valid : Valid (world_of g)

-- the grid of a world without ants
pub record IsGround (g : Grid) : Type 0 where
  pub world : IsWorld g
  pub empty : AllByRecursion (λ (cell : Cell). cell.ant ≡ None) g.cells
