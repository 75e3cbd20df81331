-- What an ant that stays reads and writes, and a look in which nothing is recorded.
use Rattle.std.specs.Prelude.{ℕ, false, List, [], ◌∷◌}
use Rattle.hex_geometry.specs.declared.position.Pos.{Pos}
use Rattle.hex_geometry.specs.Neighbourhood.{adjacent_pos, sensed_pos}
use Rattle.cell_world.specs.declared.ant.Ant.{Ant}
use Rattle.cell_world.specs.declared.ant.Colour.{Colour}
use Rattle.cell_world.specs.declared.part.Part.TheVariants as part
use Rattle.cell_world.specs.declared.part.Parts.{Parts}
use Rattle.cell_world.specs.declared.cell.Cell.{Cell}
use Rattle.cell_world.specs.Parts.{no_parts, only, union}
use Rattle.cell_world.specs.World.{Cells}
use Rattle.brain_read.specs.declared.instr.Instr.{Instr}
use Rattle.brain_read.specs.declared.instr.Instr.TheVariants.{Sense, Mark, Unmark, PickUp, Drop, Turn, Move, Flip}
use Rattle.ant_turn.specs.Turn.{with_ant}
use Rattle.spec_record.specs.Claims.{Sighting}
use Rattle.spec_record.specs.Look.{LookValue}
use Rattle.spec_record.specs.Reads.{asked, load_and_food, marks_part, who_and_mind}
use Rattle.spec_record.specs.Inner.Sightings.{sighted}

-- a look at a turn and a guess in which nothing is recorded yet
abbrev pub blank_look : ℕ → ℕ → LookValue
blank_look t guess = record { turn = t; guess = guess; drew = false; reads = []; writes = []; killed = [] }

-- which cell an ant that stays reads besides its identity and its state, rest and direction
abbrev pub read_at : Pos → Ant → Instr → Pos
read_at p ant (Sense sight met unmet condition) = sensed_pos p ant.facing sight
read_at p ant (Mark i next) = p
read_at p ant (Unmark i next) = p
read_at p ant (PickUp met unmet) = p
read_at p ant (Drop next) = p
read_at p ant (Turn side next) = p
read_at p ant (Move met unmet) = adjacent_pos p ant.facing
read_at p ant (Flip bound met unmet) = p

-- which parts of that cell it reads
abbrev pub read_parts : Colour → Instr → Parts
read_parts colour (Sense sight met unmet condition) = asked condition colour
read_parts colour (Mark i next) = only (marks_part colour)
read_parts colour (Unmark i next) = only (marks_part colour)
read_parts colour (PickUp met unmet) = load_and_food
read_parts colour (Drop next) = load_and_food
read_parts colour (Turn side next) = no_parts
read_parts colour (Move met unmet) = only part.Who
read_parts colour (Flip bound met unmet) = no_parts

-- which parts of its cell it writes besides its state, rest and direction
abbrev pub written_besides : Colour → Instr → Parts
written_besides colour (Sense sight met unmet condition) = no_parts
written_besides colour (Mark i next) = only (marks_part colour)
written_besides colour (Unmark i next) = only (marks_part colour)
written_besides colour (PickUp met unmet) = load_and_food
written_besides colour (Drop next) = load_and_food
written_besides colour (Turn side next) = no_parts
written_besides colour (Move met unmet) = no_parts
written_besides colour (Flip bound met unmet) = no_parts

-- a look at an ant that rests and becomes this one
abbrev pub rested_look : ℕ → ℕ → Pos → Cell → Ant → LookValue
rested_look t guess p cell ant = record {
  turn = t;
  guess = guess;
  drew = false;
  reads = (p, who_and_mind, cell) ∷ [];
  writes = (p, only part.Mind, with_ant cell ant) ∷ [];
  killed = [];
}

-- the reads of an ant that stays
abbrev pub staying_reads : Cells → Pos → Ant → Instr → List Sighting
staying_reads cells p ant instruction =
    let at = read_at p ant instruction in
    sighted ((p, who_and_mind, cells p) ∷ []) (at, read_parts ant.colour instruction, cells at)

-- its writes, if these are the cells after the turn
abbrev pub staying_writes : Cells → Pos → Ant → Instr → List Sighting
staying_writes last p ant instruction =
    (p, union (only part.Mind) (written_besides ant.colour instruction), last p) ∷ []
