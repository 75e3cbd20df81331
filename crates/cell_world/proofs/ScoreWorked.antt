-- A score, worked out.
use Rattle.std.proofs.Common.{◌≡◌, true, ◌∷◌, [], Some, refl}
use Rattle.hex_geometry.specs.Position.{same_pos}
use Rattle.cell_world.specs.declared.ant.Colour.TheVariants.{Red, Black}
use Rattle.cell_world.specs.declared.kind.Kind.TheVariants.{Rock, RedHill, BlackHill, Food}
use Rattle.cell_world.specs.Cell.{rock}
use Rattle.cell_world.specs.Grid.{cell_in, world_of}
use Rattle.cell_world.specs.Opening.{floor, hill_cell, new_ant, opening}
use Rattle.cell_world.specs.Score.{alive_of, food_of, hill_food_of, score_of}
use Rattle.cell_world.specs.World.{World, put, put_cell}

-- two cells of the red hill, one of the black hill, and one of neither with four particles
abbrev start : World
start = world_of (opening 6 3 (Rock ∷ Rock ∷ Rock ∷ Rock ∷ Rock ∷ Rock ∷ Rock ∷ RedHill ∷ RedHill ∷ BlackHill ∷ Food 4 ∷ Rock ∷ Rock ∷ Rock ∷ Rock ∷ Rock ∷ Rock ∷ Rock ∷ []))

-- three particles under a red ant, two more where a black ant stands that carries one, and one under nobody
abbrev later : World
later =
    put (put (put start (record { x = 1; y = 1 }) (record (hill_cell Red 0) { food = 3 }))
    (record { x = 2; y = 1 }) (record floor { hill = Some Red; food = 2; ant = Some (record (new_ant Black 2) { laden = true }) }))
    (record { x = 3; y = 1 }) (record floor { hill = Some Black; food = 1 })

-- the score is what lies on each hill, whoever is there; what is carried, and what lies elsewhere, is food but no score
score-later : (score_of later ≡ record { red = 5; black = 1 }) × (food_of later ≡ 11) × (alive_of later Red ≡ 1) × (alive_of later Black ≡ 1)
unfolding score_of hill_food_of food_of alive_of put_cell same_pos cell_in opening rock floor
score-later = (refl, refl, refl, refl)
