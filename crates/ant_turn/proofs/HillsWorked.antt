-- Hill cells, counted.
use Rattle.std.proofs.Common.{◌≡◌, ◌∷◌, [], refl}
use Rattle.cell_world.specs.Cell.{rock}
use Rattle.cell_world.specs.Grid.{cell_in, world_of}
use Rattle.cell_world.specs.Opening.{floor, opening}
use Rattle.cell_world.proofs.OpeningWorked.{three_hills}
use Rattle.ant_turn.specs.HillLaws.{hill_cells, hill_cells_of}

-- two red hill cells and a black one, among fifteen; food or an ant on a cell counts nothing
pub three : (hill_cells_of (world_of (opening 5 3 three_hills)) ≡ 3)
    × (hill_cells (opening 5 3 three_hills).cells ≡ 3)
    × (hill_cells (record floor { food = 7 } ∷ rock ∷ []) ≡ 0)
unfolding hill_cells_of cell_in opening floor rock
three = (refl, refl, refl)
