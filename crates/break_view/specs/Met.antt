-- When a break holds: what a caller of `find_stop` believes.
use Rattle.std.specs.Prelude.{ℕ, ◌+◌, Bool, false, not, ◌&&◌, ◌==◌, nat_lt, nat_le, List, [], ◌∷◌, Option, Some, None, if◌then◌else◌}
use Rattle.std.specs.Option.{is_some}
use Rattle.hex_geometry.specs.declared.position.Pos.{Pos}
use Rattle.cell_world.specs.declared.ant.Ant.{Ant}
use Rattle.cell_world.specs.declared.ant.Colour.{Colour}
use Rattle.cell_world.specs.declared.cell.Cell.{Cell}
use Rattle.cell_world.specs.Cell.{is_ant_of}
use Rattle.cell_world.specs.Colour.{same_colour}
use Rattle.cell_world.specs.Score.{hill_food_of}
use Rattle.cell_world.specs.World.{World, place_in}
use Rattle.break_view.specs.declared.breaks.Break.{Break}
use Rattle.break_view.specs.declared.breaks.Break.TheVariants.{Round, State, Stand, Food, Killed, Score}

-- the ant of the cell at a position, if there is a position
abbrev pub ant_at : World → Option Pos → Option Ant
ant_at w None = None
ant_at w (Some p) = (w.cells p).ant

-- whether there is an ant, of this colour and in this state
abbrev pub is_in_state : Colour → ℕ → Option Ant → Bool
is_in_state colour state None = false
is_in_state colour state (Some ant) = same_colour colour ant.colour && (ant.state == state)

-- a cell that is clear
abbrev pub if_clear : Cell → Option Cell
if_clear cell = if cell.rocky then None else Some cell

-- the clear cell in column x of row y; none on rock and outside the world
abbrev pub clear_cell : World → ℕ → ℕ → Option Cell
clear_cell w x y = if_clear (w.cells (record { x = x; y = y }))

-- whether there is a clear cell with an ant of this colour
abbrev pub has_ant_of : Colour → Option Cell → Bool
has_ant_of colour None = false
has_ant_of colour (Some cell) = is_ant_of colour cell.ant

-- whether there is a clear cell with at least this many food particles
abbrev pub is_fed : ℕ → Option Cell → Bool
is_fed least None = false
is_fed least (Some cell) = nat_le least cell.food

-- whether the break holds in a world after the turn of id t in round r
abbrev pub is_met : Break → World → ℕ → ℕ → Bool
-- it is this round
is_met (Round round) w r t = round == r
-- the ant whose turn it was is alive, of this colour and in this state
is_met (State colour state) w r t = is_in_state colour state (ant_at w (place_in w t))
-- an ant of this colour is on the cell
is_met (Stand colour x y) w r t = has_ant_of colour (clear_cell w x y)
-- the cell has at least this much food
is_met (Food x y least) w r t = is_fed least (clear_cell w x y)
-- the id was assigned, and no cell holds its ant
is_met (Killed id) w r t = nat_lt id w.ids && not (is_some (place_in w id))
-- the food on the colour's hill is at least this much
is_met (Score colour least) w r t = nat_le least (hill_food_of w colour)

-- the number of the first break of a list that holds then, if the first of the list has this number
abbrev pub first_met : ℕ → List Break → World → ℕ → ℕ → Option ℕ
first_met number [] w r t = None
first_met number (item ∷ items) w r t = if is_met item w r t then Some number else first_met (number + 1) items w r t
