-- An ant at its place.
use Rattle.std.specs.Prelude.{◌≡◌, ◌≤◌, false, Some}
use Rattle.hex_geometry.specs.declared.position.Pos.{Pos}
use Rattle.hex_geometry.specs.Position.{IsInner, HasNeighbours}
use Rattle.cell_world.specs.declared.ant.Ant.{Ant}
use Rattle.cell_world.specs.declared.cell.Cell.{Cell}
use Rattle.cell_world.specs.Limits.{most_weight}
use Rattle.cell_world.specs.Valid.{Valid}
use Rattle.cell_world.specs.World.{World}

-- this ant is at p, on this cell of a world; the cell is clear, not on the rim, and holds no more food than a world
-- weighs
pub record StandsAt (w : World) (p : Pos) (cell : Cell) (ant : Ant) : Type 0 where
  pub valid : Valid w
  pub here : cell ≡ w.cells p
  pub holds : cell.ant ≡ Some ant
  pub clear : cell.rocky ≡ false
  pub inner : IsInner w.width w.height p
  pub near : HasNeighbours p
  pub light : cell.food ≤ most_weight
