-- Two opening worlds, written out.
use Rattle.std.proofs.Common.{◌≡◌, ℕ, false, List, [], ◌∷◌, ◌++◌, map, Option, Some, None, refl}
use Rattle.std.specs.Prelude.{replicate}
use Rattle.hex_geometry.specs.declared.direction.Dir.TheVariants.{East}
use Rattle.hex_geometry.specs.declared.position.Pos.{Pos}
use Rattle.cell_world.specs.declared.ant.Ant.{Ant}
use Rattle.cell_world.specs.declared.ant.Colour.{Colour}
use Rattle.cell_world.specs.declared.ant.Colour.TheVariants.{Red, Black}
use Rattle.cell_world.specs.declared.cell.Cell.{Cell}
use Rattle.cell_world.specs.declared.kind.Kind.{Kind}
use Rattle.cell_world.specs.declared.kind.Kind.TheVariants.{Rock, RedHill, BlackHill}
use Rattle.cell_world.specs.Cell.{cell_weight, rock}
use Rattle.cell_world.specs.Grid.{Grid, cell_in, world_of}
use Rattle.cell_world.specs.Opening.{IsPlan, floor, opening}
use Rattle.cell_world.specs.World.{place_in, placed_cells, weight}
use Rattle.cell_world.proofs.Plans.{IsPlan-test}

-- one red hill cell: `# # #`, `# + #`, `# # #`
abbrev pub one_hill : List Kind
one_hill = Rock ∷ Rock ∷ Rock ∷ Rock ∷ RedHill ∷ Rock ∷ Rock ∷ Rock ∷ Rock ∷ []

-- three hill cells: `# # # # #`, `# + + - #`, `# # # # #`
abbrev pub three_hills : List Kind
three_hills = Rock ∷ Rock ∷ Rock ∷ Rock ∷ Rock ∷ Rock ∷ RedHill ∷ RedHill ∷ BlackHill ∷ Rock ∷ Rock ∷ Rock ∷ Rock ∷ Rock ∷ Rock ∷ []

-- both are plans
pub IsPlan-one_hill : IsPlan 3 3 one_hill
IsPlan-one_hill = IsPlan-test 3 3 one_hill refl

pub IsPlan-three_hills : IsPlan 5 3 three_hills
IsPlan-three_hills = IsPlan-test 5 3 three_hills refl

-- the ants of a world, in the row order of its cells
abbrev ants_in : Grid → List (Option Ant)
ants_in g = map (λ (cell : Cell). cell.ant) g.cells

-- the ant of the one hill cell
ants-one_hill : ants_in (opening 3 3 one_hill)
    ≡ None ∷ None ∷ None ∷ None ∷ Some (record { id = 0; colour = Red; state = 0; resting = 0; facing = East; laden = false }) ∷ None ∷ None ∷ None ∷ None ∷ []
unfolding opening rock floor
ants-one_hill = refl

-- where it stands, and that there is no other
places-one_hill : (place_in (world_of (opening 3 3 one_hill)) 0 ≡ Some (record { x = 1; y = 1 })) × (place_in (world_of (opening 3 3 one_hill)) 1 ≡ None)
unfolding place_in cell_in opening rock floor
places-one_hill = (refl, refl)

-- the ants of the three hill cells, red, red and black, are numbered from the left
ants-three_hills : ants_in (opening 5 3 three_hills)
    ≡ replicate 6 None
    ++ Some (record { id = 0; colour = Red; state = 0; resting = 0; facing = East; laden = false })
    ∷ Some (record { id = 1; colour = Red; state = 0; resting = 0; facing = East; laden = false })
    ∷ Some (record { id = 2; colour = Black; state = 0; resting = 0; facing = East; laden = false })
    ∷ replicate 6 None
unfolding opening rock floor
ants-three_hills = refl

-- and so they stand
places-three_hills : (place_in (world_of (opening 5 3 three_hills)) 0 ≡ Some (record { x = 1; y = 1 }))
    × (place_in (world_of (opening 5 3 three_hills)) 1 ≡ Some (record { x = 2; y = 1 }))
    × (place_in (world_of (opening 5 3 three_hills)) 2 ≡ Some (record { x = 3; y = 1 }))
    × (place_in (world_of (opening 5 3 three_hills)) 3 ≡ None)
unfolding place_in cell_in opening rock floor
places-three_hills = (refl, refl, refl, refl)

-- three ants weigh nine each
weight-three_hills : weight (world_of (opening 5 3 three_hills)) ≡ 27
unfolding weight cell_weight cell_in opening rock floor
weight-three_hills = refl

-- its cells come in row order, each with its position
abbrev at : ℕ → ℕ → Option Colour → Pos × Option Colour
at x y hill = (record { x = x; y = y }, hill)

cells-three_hills : map (λ (placed : Pos × Cell). (placed.0, placed.1.hill)) (placed_cells (world_of (opening 5 3 three_hills)))
    ≡ at 0 0 None ∷ at 1 0 None ∷ at 2 0 None ∷ at 3 0 None ∷ at 4 0 None
    ∷ at 0 1 None ∷ at 1 1 (Some Red) ∷ at 2 1 (Some Red) ∷ at 3 1 (Some Black) ∷ at 4 1 None
    ∷ at 0 2 None ∷ at 1 2 None ∷ at 2 2 None ∷ at 3 2 None ∷ at 4 2 None ∷ []
unfolding placed_cells cell_in opening rock floor
cells-three_hills = refl
