-- What a turn writes, by parts of cells (this project's own).
use Rattle.std.specs.Prelude.{ℕ, zero, suc, if◌then◌else◌, List, [], ◌∷◌, map, Option, Some, None}
use Rattle.hex_geometry.specs.declared.position.Pos.{Pos}
use Rattle.hex_geometry.specs.Neighbourhood.{adjacent_pos}
use Rattle.cell_world.specs.declared.ant.Ant.{Ant}
use Rattle.cell_world.specs.declared.part.Part.TheVariants as part
use Rattle.cell_world.specs.Parts.{only}
use Rattle.cell_world.specs.World.{Cells, World, place_in}
use Rattle.brain_read.specs.declared.instr.Instr.{Instr}
use Rattle.brain_read.specs.declared.instr.Instr.TheVariants.{Sense, Mark, Unmark, PickUp, Drop, Turn, Move, Flip}
use Rattle.ant_turn.specs.Kills.{places_around}
use Rattle.ant_turn.specs.Minds.{Minds, mind_of}
use Rattle.ant_turn.specs.Sheet.{Sheet}
use Rattle.ant_turn.specs.Turn.{instruction_at, is_blocked, stepped}
use Rattle.spec_record.specs.Claims.{Claim, claim, merged}
use Rattle.spec_record.specs.Reads.{ant_and_food, emptied, load_and_food, marks_part, whole_ant}

-- what the ant at p also writes when it moves to q: all of an ant on both cells, and the cells of the killed
abbrev pub writes_going : Sheet → Cells → Pos → Ant → Pos → ℕ → List Claim
writes_going sheet cells p ant q next =
    claim p whole_ant ∷ claim q whole_ant ∷ map (λ r. claim r ant_and_food) (emptied sheet (stepped sheet cells p ant q next) (places_around q))

-- what the ant at p also writes by its instruction
abbrev pub writes_besides : Sheet → Cells → Pos → Ant → Instr → List Claim
writes_besides sheet cells p ant (Sense sight met unmet condition) = []
writes_besides sheet cells p ant (Mark i next) = claim p (only (marks_part ant.colour)) ∷ []
writes_besides sheet cells p ant (Unmark i next) = claim p (only (marks_part ant.colour)) ∷ []
writes_besides sheet cells p ant (PickUp met unmet) = claim p load_and_food ∷ []
writes_besides sheet cells p ant (Drop next) = claim p load_and_food ∷ []
writes_besides sheet cells p ant (Turn side next) = []
writes_besides sheet cells p ant (Move met unmet) =
    let ahead = adjacent_pos p ant.facing in
    if is_blocked (cells ahead) then [] else writes_going sheet cells p ant ahead met
writes_besides sheet cells p ant (Flip bound met unmet) = []

-- what an ant writes besides its own state, resting count and direction; nothing while it rests
abbrev pub writes_acting : ℕ → Minds → Cells → Pos → Ant → List Claim
writes_acting zero minds cells p ant =
    writes_besides minds.sheet cells p ant (instruction_at (mind_of minds ant.colour) ant.state)
writes_acting (suc left) minds cells p ant = []

-- what the ant at p writes, if there is one
abbrev pub writes_of : Minds → Cells → Pos → Option Ant → List Claim
writes_of minds cells p None = []
writes_of minds cells p (Some ant) = claim p (only part.Mind) ∷ writes_acting ant.resting minds cells p ant

-- nothing for a dead ant
abbrev pub writes_from : Minds → Cells → Option Pos → List Claim
writes_from minds cells None = []
writes_from minds cells (Some p) = writes_of minds cells p (cells p).ant

-- what the turn of an id writes in a world: each position once, with the parts that are written there
unfoldable pub writes : Minds → World → ℕ → List Claim
writes minds w t = merged (writes_from minds w.cells (place_in w t))
