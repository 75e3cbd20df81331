-- When breaks hold, worked out.
use Rattle.std.proofs.Common.{◌≡◌, true, false, List, [], ◌∷◌, Some, None, refl}
use Rattle.cell_world.specs.declared.ant.Colour.TheVariants.{Red, Black}
use Rattle.cell_world.specs.declared.kind.Kind.{Kind}
use Rattle.cell_world.specs.declared.kind.Kind.TheVariants.{Rock, RedHill, Food}
use Rattle.cell_world.specs.Cell.{rock}
use Rattle.cell_world.specs.Grid.{cell_in, world_of}
use Rattle.cell_world.specs.Opening.{floor, opening}
use Rattle.cell_world.specs.Score.{hill_food_of}
use Rattle.cell_world.specs.World.{World, place_in, put_cell}
use Rattle.hex_geometry.specs.Position.{same_pos}
use Rattle.break_view.specs.declared.breaks.Break.{Break}
use Rattle.break_view.specs.Met.{is_met, first_met}

-- four by three cells between rocks: a red hill with its ant of id 0, and to its right a cell with one food particle
abbrev kinds : List Kind
kinds =
    Rock ∷ Rock ∷ Rock ∷ Rock
    ∷ Rock ∷ RedHill ∷ Food 1 ∷ Rock
    ∷ Rock ∷ Rock ∷ Rock ∷ Rock ∷ []

abbrev start : World
start = world_of (opening 4 3 kinds)

-- the same with two food particles instead of the ant
abbrev ended : World
ended = record start { cells = put_cell start.cells (record { x = 1; y = 1 }) (record floor { hill = Some Red; food = 2 }) }

-- a round
round_here : (is_met (Break.Round 3) start 3 0 ≡ true) × (is_met (Break.Round 3) start 2 0 ≡ false) × (is_met (Break.Round 3) start 4 0 ≡ false)
round_here = (refl, refl, refl)

-- the state of the ant whose turn it was, alive and of that colour
state_here : (is_met (Break.State Red 0) start 1 0 ≡ true) × (is_met (Break.State Black 0) start 1 0 ≡ false) × (is_met (Break.State Red 1) start 1 0 ≡ false) × (is_met (Break.State Red 0) ended 1 0 ≡ false)
unfolding opening cell_in rock floor place_in put_cell same_pos
state_here = (refl, refl, refl, refl)

-- an ant of that colour on the cell
stand_here : (is_met (Break.Stand Red 1 1) start 1 0 ≡ true) × (is_met (Break.Stand Black 1 1) start 1 0 ≡ false) × (is_met (Break.Stand Red 2 1) start 1 0 ≡ false) × (is_met (Break.Stand Red 9 9) start 1 0 ≡ false)
unfolding opening cell_in rock floor
stand_here = (refl, refl, refl, refl)

-- food on the cell, with 0 on a clear one only: not on rock, and not outside the world
food_here : (is_met (Break.Food 2 1 1) start 1 0 ≡ true) × (is_met (Break.Food 2 1 2) start 1 0 ≡ false) × (is_met (Break.Food 1 1 0) start 1 0 ≡ true) × (is_met (Break.Food 0 0 0) start 1 0 ≡ false) × (is_met (Break.Food 9 9 0) start 1 0 ≡ false)
unfolding opening cell_in rock floor
food_here = (refl, refl, refl, refl, refl)

-- an ant that was made and is dead, and not an id that never was
killed_here : (is_met (Break.Killed 0) start 1 0 ≡ false) × (is_met (Break.Killed 0) ended 1 0 ≡ true) × (is_met (Break.Killed 1) ended 1 0 ≡ false)
unfolding opening cell_in rock floor place_in put_cell same_pos
killed_here = (refl, refl, refl)

-- at least this much food on the hill
score_here : (is_met (Break.Score Red 0) start 1 0 ≡ true) × (is_met (Break.Score Red 1) start 1 0 ≡ false) × (is_met (Break.Score Red 2) ended 1 0 ≡ true) × (is_met (Break.Score Red 3) ended 1 0 ≡ false) × (is_met (Break.Score Black 1) ended 1 0 ≡ false)
unfolding opening cell_in rock floor hill_food_of put_cell same_pos
score_here = (refl, refl, refl, refl, refl)

-- the first of two breaks that hold, and the number of one that holds after one that doesn't
first_here : (first_met 1 (Break.Round 1 ∷ Break.Killed 0 ∷ []) ended 1 0 ≡ Some 1) × (first_met 1 (Break.Round 2 ∷ Break.Killed 0 ∷ []) ended 1 0 ≡ Some 2) × (first_met 1 (Break.Round 2 ∷ []) ended 1 0 ≡ None)
unfolding opening cell_in rock floor place_in put_cell same_pos
first_here = (refl, refl, refl)
