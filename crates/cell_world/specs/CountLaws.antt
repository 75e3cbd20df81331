-- The counts of a world, in the task's own words (the task's biology and game play).
use Rattle.std.specs.Prelude.{◌≡◌, ℕ, ◌+◌, suc, zero}
use Rattle.std.specs.Option.{is_some}
use Rattle.hex_geometry.specs.declared.position.Pos.{Pos}
use Rattle.hex_geometry.specs.Position.{IsInside}
use Rattle.cell_world.specs.declared.ant.Colour.{Colour}
use Rattle.cell_world.specs.declared.ant.Colour.TheVariants.{Red, Black}
use Rattle.cell_world.specs.declared.cell.Cell.{Cell}
use Rattle.cell_world.specs.Cell.{food_in, one_if}
use Rattle.cell_world.specs.Score.{alive_in, alive_of, food_of, hill_food_in, hill_food_of}
use Rattle.cell_world.specs.Valid.{Valid}
use Rattle.cell_world.specs.World.{World, place_in, put}

-- after a change, the new cell counts instead of the old one: in all food, in the food on each hill, and in the ants of
-- each colour
pub record PutCounts : Type 0 where
  pub food : (w : World) (p : Pos) (cell : Cell) → IsInside w.width w.height p
      → food_of (put w p cell) + food_in (w.cells p) ≡ food_of w + food_in cell
  pub hill : (w : World) (colour : Colour) (p : Pos) (cell : Cell) → IsInside w.width w.height p
      → hill_food_of (put w p cell) colour + hill_food_in colour (w.cells p)
      ≡ hill_food_of w colour + hill_food_in colour cell
  pub alive : (w : World) (colour : Colour) (p : Pos) (cell : Cell) → IsInside w.width w.height p
      → alive_of (put w p cell) colour + alive_in colour (w.cells p) ≡ alive_of w colour + alive_in colour cell

-- how many of the ids below this number have a place
abbrev pub placed_below : World → ℕ → ℕ
placed_below w zero = 0
placed_below w (suc t) = placed_below w t + one_if (is_some (place_in w t))

-- the number of living ants of both colours is the number of ids that have a place
abbrev pub AliveArePlaced : Type 0
AliveArePlaced = (w : World) → Valid w → alive_of w Red + alive_of w Black ≡ placed_below w w.ids
