-- The food and the ants of a world, and what a change of its cells does to their number.
use Rattle.std.proofs.Common.{◌≡◌, ◌+◌}
use Rattle.hex_geometry.specs.declared.position.Pos.{Pos}
use Rattle.hex_geometry.specs.Position.{IsInside}
use Rattle.cell_world.specs.declared.ant.Colour.{Colour}
use Rattle.cell_world.specs.declared.cell.Cell.{Cell}
use Rattle.cell_world.specs.Cell.{food_in}
use Rattle.cell_world.specs.Score.{alive_in, alive_of, food_of, hill_food_in, hill_food_of}
use Rattle.cell_world.specs.World.{World, put}
use Rattle.cell_world.proofs.Totals.{total-put}

-- all food after a change of one cell: the new cell's instead of the old one's
pub food_of-put : (w : World) (p : Pos) (cell : Cell) → IsInside w.width w.height p → food_of (put w p cell) + food_in (w.cells p) ≡ food_of w + food_in cell
unfolding food_of
food_of-put w p cell inside = total-put food_in w p cell inside

-- the ants of a colour after a change of one cell
pub alive_of-put : (w : World) (colour : Colour) (p : Pos) (cell : Cell) → IsInside w.width w.height p → alive_of (put w p cell) colour + alive_in colour (w.cells p) ≡ alive_of w colour + alive_in colour cell
unfolding alive_of
alive_of-put w colour p cell inside = total-put (alive_in colour) w p cell inside

-- the food on a hill after a change of one cell
pub hill_food_of-put : (w : World) (colour : Colour) (p : Pos) (cell : Cell) → IsInside w.width w.height p → hill_food_of (put w p cell) colour + hill_food_in colour (w.cells p) ≡ hill_food_of w colour + hill_food_in colour cell
unfolding hill_food_of
hill_food_of-put w colour p cell inside = total-put (hill_food_in colour) w p cell inside
