-- What can change whether a break holds from one turn to the next.
use Rattle.std.specs.Prelude.{◌≡◌, ℕ, Bool, true, false, ◌&&◌, ◌==◌, List, Option, Some, None, slice_index_or}
use Rattle.std.specs.List.{AllByRecursion}
use Rattle.cell_world.specs.declared.ant.Ant.{Ant}
use Rattle.cell_world.specs.declared.ant.Colour.{Colour}
use Rattle.cell_world.specs.declared.ant.Colour.TheVariants.{Red, Black}
use Rattle.cell_world.specs.declared.cell.Cell.{Cell}
use Rattle.cell_world.specs.World.{World, place_in}
use Rattle.ant_turn.specs.Turn.{has_ant}
use Rattle.break_view.specs.declared.breaks.Break.{Break}
use Rattle.break_view.specs.declared.breaks.Break.TheVariants.{Round, State, Stand, Food, Killed, Score}
use Rattle.break_view.specs.Met.{ant_at, first_met, is_met}

-- whether a break is one of a state: only such a break depends on the ant whose turn it was
abbrev pub is_state : Break → Bool
is_state (Round round) = false
is_state (State colour state) = true
is_state (Stand colour x y) = false
is_state (Food x y least) = false
is_state (Killed id) = false
is_state (Score colour least) = false

-- every other break holds in both worlds or in neither
abbrev pub LooksSame : World → World → Type 0
LooksSame w v = (item : Break) (r t u : ℕ) → is_state item ≡ false → is_met item v r u ≡ is_met item w r t

-- the food on a cell, if there is a cell
abbrev pub food_in : Option Cell → ℕ
food_in None = 0
food_in (Some cell) = cell.food

-- whether an ant is on a cell with this much food; true without a cell
abbrev pub is_left : Option Cell → ℕ → Bool
is_left None food = true
is_left (Some cell) food = has_ant cell.ant && (cell.food == food)

-- whether the tables of both colours name a state; after its end a table names every state
abbrev pub names : List Bool → List Bool → Colour → ℕ → Bool
names red black Red state = slice_index_or red state true
names red black Black state = slice_index_or black state true

-- the tables name the state of a break, if it is one of a state
abbrev pub IsNamed : List Bool → List Bool → Break → Type 0
IsNamed red black (Round round) = Unit {0}
IsNamed red black (State colour state) = names red black colour state ≡ true
IsNamed red black (Stand colour x y) = Unit {0}
IsNamed red black (Food x y least) = Unit {0}
IsNamed red black (Killed id) = Unit {0}
IsNamed red black (Score colour least) = Unit {0}

-- whether the tables name the state of an ant, if there is one
abbrev pub names_ant : List Bool → List Bool → Option Ant → Bool
names_ant red black None = false
names_ant red black (Some ant) = names red black ant.colour ant.state

-- no break holds after this turn, except perhaps one of a state
abbrev pub IsQuietButStates : List Break → World → ℕ → ℕ → Type 0
IsQuietButStates items w r t = (red black : List Bool) → AllByRecursion (IsNamed red black) items
    → names_ant red black (ant_at w (place_in w t)) ≡ false → first_met 1 items w r t ≡ None
