-- The place of each ant, by id.
use Rattle.std.specs.Prelude.{◌≡◌, ℕ, ◌<◌, List, length, slice_index_or, Option}
use Rattle.hex_geometry.specs.declared.position.Pos.{Pos}
use Rattle.cell_world.specs.World.{place_in}
use Rattle.cell_world.specs.Grid.{Grid, world_of}

-- the place of each ant, by id, as the cells say
pub record IsIndex (g : Grid) (places : List (Option Pos)) : Type 0 where
  pub all_ids : length places ≡ g.ids
  pub agrees : (t : ℕ) (none : Option Pos) → t < g.ids → slice_index_or places t none ≡ place_in (world_of g) t
