-- The meaning of a world's fields, and what holds of them.
use Rattle.cell_world.specs.declared.world.World.TheInside.{Inside}
use Rattle.cell_world.specs.Grid.{Grid, IsWorld}
use Rattle.cell_world.specs.Inner.Index.{IsIndex}
use Rattle.cell_world.specs.Inner.Stored.{grid_from, stored_places}

-- the grid of the fields
abbrev pub grid_of : Inside → Grid
grid_of fields = grid_from fields.width fields.height fields.tiles.items fields.bodies.items

-- the grid is that of a world, and each body has its ant's place
pub record IsWellStored (fields : Inside) : Type 0 where
  pub world : IsWorld (grid_of fields)
  pub index : IsIndex (grid_of fields) (stored_places fields.bodies.items)
