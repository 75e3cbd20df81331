-- What a turn reads, by parts of cells (this project's own).
use Rattle.std.specs.Prelude.{ℕ, zero, suc, if◌then◌else◌, List, [], ◌∷◌, ◌++◌, map, Option, Some, None}
use Rattle.std.specs.List.{flat_map}
use Rattle.hex_geometry.specs.declared.position.Pos.{Pos}
use Rattle.hex_geometry.specs.Neighbourhood.{adjacent_pos, neighbours_of, sensed_pos}
use Rattle.cell_world.specs.declared.ant.Ant.{Ant}
use Rattle.cell_world.specs.declared.ant.Colour.{Colour}
use Rattle.cell_world.specs.declared.ant.Colour.TheVariants.{Red, Black}
use Rattle.cell_world.specs.declared.part.Part.{Part}
use Rattle.cell_world.specs.declared.part.Part.TheVariants as part
use Rattle.cell_world.specs.declared.part.Parts.{Parts}
use Rattle.cell_world.specs.Colour.{foe_of}
use Rattle.cell_world.specs.Parts.{no_parts, only, with_part}
use Rattle.cell_world.specs.World.{Cells, World, place_in}
use Rattle.brain_read.specs.declared.instr.Cond.{Cond}
use Rattle.brain_read.specs.declared.instr.Cond.TheVariants.{Friend, Foe, FriendWithFood, FoeWithFood, Food, Rock, Marker, FoeMarker, Home, FoeHome}
use Rattle.brain_read.specs.declared.instr.Instr.{Instr}
use Rattle.brain_read.specs.declared.instr.Instr.TheVariants.{Sense, Mark, Unmark, PickUp, Drop, Turn, Move, Flip}
use Rattle.ant_turn.specs.Kills.{check_at, is_surrounded, places_around}
use Rattle.ant_turn.specs.Minds.{Minds, mind_of}
use Rattle.ant_turn.specs.Sheet.{Sheet}
use Rattle.ant_turn.specs.Turn.{has_ant, instruction_at, is_blocked, stepped}
use Rattle.spec_record.specs.Claims.{Claim, claim, merged}

-- an ant's identity with its state, rest and direction; its load with the food on its cell; all of an ant
abbrev pub who_and_mind : Parts
who_and_mind = with_part (only part.Who) part.Mind

abbrev pub load_and_food : Parts
load_and_food = with_part (only part.Load) part.Food

abbrev pub whole_ant : Parts
whole_ant = with_part who_and_mind part.Load

abbrev pub ant_and_food : Parts
ant_and_food = with_part whole_ant part.Food

-- the part with the markers of a colour
abbrev pub marks_part : Colour → Part
marks_part Red = part.RedMarks
marks_part Black = part.BlackMarks

-- the parts of the sensed cell that a condition tests, for an ant of this colour
abbrev pub asked : Cond → Colour → Parts
asked Friend colour = only part.Who
asked Foe colour = only part.Who
asked FriendWithFood colour = with_part (only part.Who) part.Load
asked FoeWithFood colour = with_part (only part.Who) part.Load
asked Food colour = only part.Food
asked Rock colour = no_parts
asked (Marker i) colour = only (marks_part colour)
asked FoeMarker colour = only (marks_part (foe_of colour))
asked Home colour = no_parts
asked FoeHome colour = no_parts

-- the cells whose ants are killed by checks of cells in order, in that order
abbrev pub emptied : Sheet → Cells → List Pos → List Pos
emptied sheet cells [] = []
emptied sheet cells (p ∷ places) =
    (if is_surrounded sheet cells p then p ∷ [] else []) ++ emptied sheet (check_at sheet cells p) places

-- the neighbours of a cell if it holds an ant; otherwise none
abbrev pub neighbours_if_manned : Cells → Pos → List Pos
neighbours_if_manned cells p = if has_ant (cells p).ant then neighbours_of p else []

-- the cells whose ants decide the checks around q: q, its neighbours, and the neighbours of each of these that holds an
-- ant
abbrev pub seen_around : Cells → Pos → List Pos
seen_around cells q = places_around q ++ flat_map (neighbours_if_manned cells) (neighbours_of q)

-- what the ant at p also reads when it moves to q: its load, the ants that decide the checks, and what the killed leave
abbrev pub reads_going : Sheet → Cells → Pos → Ant → Pos → ℕ → List Claim
reads_going sheet cells p ant q next =
    let after = stepped sheet cells p ant q next in
    claim p (only part.Load)
    ∷ map (λ r. claim r (only part.Who)) (seen_around after q)
    ++ map (λ r. claim r load_and_food) (emptied sheet after (places_around q))

-- what the ant at p also reads by its instruction
abbrev pub reads_besides : Sheet → Cells → Pos → Ant → Instr → List Claim
reads_besides sheet cells p ant (Sense sight met unmet condition) =
    claim (sensed_pos p ant.facing sight) (asked condition ant.colour) ∷ []
reads_besides sheet cells p ant (Mark i next) = claim p (only (marks_part ant.colour)) ∷ []
reads_besides sheet cells p ant (Unmark i next) = claim p (only (marks_part ant.colour)) ∷ []
reads_besides sheet cells p ant (PickUp met unmet) = claim p load_and_food ∷ []
reads_besides sheet cells p ant (Drop next) = claim p load_and_food ∷ []
reads_besides sheet cells p ant (Turn side next) = []
reads_besides sheet cells p ant (Move met unmet) =
    let ahead = adjacent_pos p ant.facing in
    if is_blocked (cells ahead)
    then claim ahead (only part.Who) ∷ []
    else reads_going sheet cells p ant ahead met
reads_besides sheet cells p ant (Flip bound met unmet) = []

-- what an ant reads besides its own cell; nothing while it rests
abbrev pub reads_acting : ℕ → Minds → Cells → Pos → Ant → List Claim
reads_acting zero minds cells p ant =
    reads_besides minds.sheet cells p ant (instruction_at (mind_of minds ant.colour) ant.state)
reads_acting (suc left) minds cells p ant = []

-- what the ant at p reads, if there is one: its identity, its state, rest and direction, and what its turn also reads
abbrev pub reads_of : Minds → Cells → Pos → Option Ant → List Claim
reads_of minds cells p None = []
reads_of minds cells p (Some ant) = claim p who_and_mind ∷ reads_acting ant.resting minds cells p ant

-- nothing for a dead ant
abbrev pub reads_from : Minds → Cells → Option Pos → List Claim
reads_from minds cells None = []
reads_from minds cells (Some p) = reads_of minds cells p (cells p).ant

-- what the turn of an id reads in a world: each position once, with the parts that are read there
unfoldable pub reads : Minds → World → ℕ → List Claim
reads minds w t = merged (reads_from minds w.cells (place_in w t))
