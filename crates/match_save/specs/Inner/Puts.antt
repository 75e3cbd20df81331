-- How far the ants of a save were put into its world.
use Rattle.std.specs.Prelude.{◌≡◌, ℕ, ◌+◌, ◌*◌, ◌<◌, ◌≤◌, List, length, Some}
use Rattle.std.specs.List.{AllByRecursion}
use Rattle.hex_geometry.specs.Position.{IsInside}
use Rattle.hex_geometry.specs.declared.position.Pos.{Pos}
use Rattle.cell_world.specs.declared.ant.Ant.{Ant}
use Rattle.cell_world.specs.declared.ant.PlacedAnt.{PlacedAnt}
use Rattle.cell_world.specs.Grid.{Grid, cell_in, world_of}
use Rattle.cell_world.specs.Limits.{most_weight}
use Rattle.cell_world.specs.World.{weight}
use Rattle.match_save.specs.Draft.{IdsRise}
use Rattle.match_save.specs.Inner.AntPuts.{CanAllStand, all_standing, weight_of_ants}

-- some ants were put into a world, which has all its cells, and these are left: with them it is what it should become;
-- they can all be placed if all could at first; their ids are above those of the placed ones, and the world stays light
-- enough
pub record PutsOn (old now : Grid) (all left : List PlacedAnt) : Type 0 where
  pub full : length now.cells ≡ now.width * now.height
  pub becomes : all_standing now left ≡ all_standing old all
  pub can : CanAllStand now left → CanAllStand old all
  pub could : CanAllStand old all → CanAllStand now left
  pub inside : AllByRecursion (λ (it : PlacedAnt). IsInside now.width now.height it.place) left
  pub least : ℕ
  pub rise : IdsRise least left
  pub below : (p : Pos) (ant : Ant) → (cell_in now p).ant ≡ Some ant → ant.id < least
  pub light : weight (world_of now) + weight_of_ants left ≤ most_weight
