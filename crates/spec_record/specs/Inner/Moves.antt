-- A Move that succeeds, as a look finds what it reads.
use Rattle.std.specs.Prelude.{◌≡◌, ℕ, Bool, not, ◌&&◌, ◌||◌, if◌then◌else◌, List, [], ◌∷◌, ◌++◌, Option, Some, None}
use Rattle.std.specs.List.{flat_map}
use Rattle.hex_geometry.specs.declared.position.Pos.{Pos}
use Rattle.hex_geometry.specs.Neighbourhood.{adjacent_pos, neighbours_of}
use Rattle.hex_geometry.specs.Position.{same_pos}
use Rattle.cell_world.specs.declared.ant.Ant.{Ant}
use Rattle.cell_world.specs.declared.part.Part.TheVariants as part
use Rattle.cell_world.specs.Parts.{only}
use Rattle.cell_world.specs.World.{Cells, World, place_in}
use Rattle.brain_read.specs.declared.instr.Instr.{Instr}
use Rattle.brain_read.specs.declared.instr.Instr.TheVariants.{Sense, Mark, Unmark, PickUp, Drop, Turn, Move, Flip}
use Rattle.ant_turn.specs.Kills.{places_around}
use Rattle.ant_turn.specs.Minds.{Minds, mind_of}
use Rattle.ant_turn.specs.Sheet.{Sheet}
use Rattle.ant_turn.specs.Turn.{arrived, has_ant, instruction_at, is_blocked, left_by_ant, with_ant}
use Rattle.spec_record.specs.Claims.{Sighting}
use Rattle.spec_record.specs.Reads.{ant_and_food, load_and_food, whole_ant}
use Rattle.spec_record.specs.Inner.Sightings.{all_sighted, sightings_of}

-- the cell to which an ant moves by an instruction, if it moves
abbrev pub destination : Cells → Pos → Ant → Instr → Option Pos
destination cells p ant (Sense sight met unmet condition) = None
destination cells p ant (Mark i next) = None
destination cells p ant (Unmark i next) = None
destination cells p ant (PickUp met unmet) = None
destination cells p ant (Drop next) = None
destination cells p ant (Turn side next) = None
destination cells p ant (Move met unmet) =
    if is_blocked (cells (adjacent_pos p ant.facing)) then None else Some (adjacent_pos p ant.facing)
destination cells p ant (Flip bound met unmet) = None

-- whether an ant other than the one from p is on r
abbrev pub is_manned : Cells → Pos → Pos → Bool
is_manned cells p r = not (same_pos r p) && has_ant (cells r).ant

-- the neighbours of a cell with such an ant; otherwise none
abbrev pub beyond : Cells → Pos → Pos → List Pos
beyond cells p r = if is_manned cells p r then neighbours_of r else []

-- the cells whose ants decide the checks around q after the ant at p went there
abbrev pub seen_from : Cells → Pos → Pos → List Pos
seen_from cells p q = places_around q ++ flat_map (beyond cells p) (neighbours_of q)

-- whether an ant was on r when the ant from p had moved to q, and none is there at the end
abbrev pub has_fallen : Cells → Cells → Pos → Pos → Pos → Bool
has_fallen cells last p q r = (same_pos r q || is_manned cells p r) && not (has_ant (last r).ant)

-- that position, if so
abbrev pub fallen_at : Cells → Cells → Pos → Pos → Pos → List Pos
fallen_at cells last p q r = if has_fallen cells last p q r then r ∷ [] else []

-- the positions around q for which it is so
abbrev pub fallen : Cells → Cells → Pos → Pos → List Pos
fallen cells last p q = flat_map (fallen_at cells last p q) (places_around q)

-- the reads of an ant that moves to q if no ant is killed
abbrev pub calm_reads : Cells → Pos → Pos → List Sighting
calm_reads cells p q =
    all_sighted ((p, whole_ant, cells p) ∷ []) (sightings_of cells (only part.Who) (seen_from cells p q))

-- the reads of an ant that moves to q
abbrev pub going_reads : Cells → Cells → Pos → Pos → List Sighting
going_reads cells last p q =
    all_sighted (calm_reads cells p q) (sightings_of cells load_and_food (fallen cells last p q))

-- the writes of an ant that moves to q
abbrev pub going_writes : Cells → Cells → Pos → Pos → List Sighting
going_writes cells last p q =
    all_sighted ((p, whole_ant, last p) ∷ (q, whole_ant, last q) ∷ [])
    (sightings_of last ant_and_food (fallen cells last p q))

-- the ant at p acts in the turn of id t, and its instruction moves it to q
pub record GoesTo (minds : Minds) (w : World) (t : ℕ) (p q : Pos) : Type 0 where
  pub ant : Ant
  pub found : place_in w t ≡ Some p
  pub holds : (w.cells p).ant ≡ Some ant
  pub ready : ant.resting ≡ 0
  pub way : destination w.cells p ant (instruction_at (mind_of minds ant.colour) ant.state) ≡ Some q

-- the state of an ant after a Move that succeeds; 0 for any other instruction
abbrev pub state_gone : Instr → ℕ
state_gone (Sense sight met unmet condition) = 0
state_gone (Mark i next) = 0
state_gone (Unmark i next) = 0
state_gone (PickUp met unmet) = 0
state_gone (Drop next) = 0
state_gone (Turn side next) = 0
state_gone (Move met unmet) = met
state_gone (Flip bound met unmet) = 0

-- the writes of an ant that moves to q if no ant is killed and its state becomes next
abbrev pub calm_writes : Sheet → Cells → Pos → Ant → Pos → ℕ → List Sighting
calm_writes sheet cells p ant q next =
    (p, whole_ant, left_by_ant (cells p)) ∷ (q, whole_ant, with_ant (cells q) (arrived sheet ant next)) ∷ []
