-- The ants that are killed in a turn, each with its position and as it was when its cell was checked (the task's
-- martial arts).
use Rattle.std.specs.Prelude.{ℕ, zero, suc, if◌then◌else◌, List, [], ◌∷◌, ◌++◌, Option, Some, None, option_map}
use Rattle.hex_geometry.specs.declared.position.Pos.{Pos}
use Rattle.hex_geometry.specs.Neighbourhood.{adjacent_pos}
use Rattle.cell_world.specs.declared.ant.Ant.{Ant}
use Rattle.cell_world.specs.declared.ant.PlacedAnt.{PlacedAnt}
use Rattle.cell_world.specs.World.{Cells, World, place_in}
use Rattle.brain_read.specs.declared.instr.Instr.{Instr}
use Rattle.brain_read.specs.declared.instr.Instr.TheVariants.{Sense, Mark, Unmark, PickUp, Drop, Turn, Move, Flip}
use Rattle.ant_turn.specs.Kills.{check_at, is_surrounded, places_around}
use Rattle.ant_turn.specs.Minds.{Minds, mind_of}
use Rattle.ant_turn.specs.Sheet.{Sheet}
use Rattle.ant_turn.specs.Turn.{instruction_at, is_blocked, stepped}

-- the ant of p, if there is one, with its place
abbrev pub placed : Pos → Option Ant → List (Option PlacedAnt)
placed p None = []
placed p (Some ant) = Some (record { place = p; ant = ant }) ∷ []

-- the ant that the check of one cell kills
unfoldable pub dead_at : Sheet → Cells → Pos → List (Option PlacedAnt)
dead_at sheet cells p = if is_surrounded sheet cells p then placed p (cells p).ant else []

-- the ants that checks of cells in order kill, in that order
abbrev pub dead_all : Sheet → Cells → List Pos → List (Option PlacedAnt)
dead_all sheet cells [] = []
dead_all sheet cells (p ∷ places) = dead_at sheet cells p ++ dead_all sheet (check_at sheet cells p) places

-- the ants that the check around p kills
abbrev pub dead_around : Sheet → Cells → Pos → List (Option PlacedAnt)
dead_around sheet cells p = dead_all sheet cells (places_around p)

-- the ants that are killed when the ant at p executes an instruction; only a step ahead can kill
abbrev pub dead_by : Sheet → Cells → Pos → Ant → Instr → List (Option PlacedAnt)
dead_by sheet cells p ant (Sense sight met unmet condition) = []
dead_by sheet cells p ant (Mark i next) = []
dead_by sheet cells p ant (Unmark i next) = []
dead_by sheet cells p ant (PickUp met unmet) = []
dead_by sheet cells p ant (Drop next) = []
dead_by sheet cells p ant (Turn side next) = []
dead_by sheet cells p ant (Move met unmet) =
    let ahead = adjacent_pos p ant.facing in if is_blocked (cells ahead) then [] else dead_around sheet (stepped sheet cells p ant ahead met) ahead
dead_by sheet cells p ant (Flip bound met unmet) = []

-- the ants that are killed in the turn of an ant with this resting count
abbrev pub dead_after : ℕ → Minds → Cells → Pos → Ant → List (Option PlacedAnt)
dead_after zero minds cells p ant =
    dead_by minds.sheet cells p ant (instruction_at (mind_of minds ant.colour) ant.state)
dead_after (suc left) minds cells p ant = []

-- the ants that are killed in the turn of the ant at p, if there is one
abbrev pub dead_from : Minds → Cells → Pos → Option Ant → List (Option PlacedAnt)
dead_from minds cells p None = []
dead_from minds cells p (Some ant) = dead_after ant.resting minds cells p ant

-- the ants that are killed in the turn at a place, if there is one
abbrev pub dead_with : Minds → Cells → Option Pos → List (Option PlacedAnt)
dead_with minds cells None = []
dead_with minds cells (Some p) = dead_from minds cells p (cells p).ant

-- the ants that are killed in the turn of id t
unfoldable pub dead_in : Minds → World → ℕ → List (Option PlacedAnt)
dead_in minds w t = dead_with minds w.cells (place_in w t)

-- what is noted, if it is reported, and then these
abbrev pub with_noted : List (Option PlacedAnt) → Option (List (Option PlacedAnt)) → Option (List (Option PlacedAnt))
with_noted dead noted = option_map (λ all. all ++ dead) noted
