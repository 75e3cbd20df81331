-- One turn (the task's kinetics).
use Rattle.std.specs.Prelude.{ℕ, zero, suc, ◌+◌, ◌-◌, Bool, true, false, if◌then◌else◌, ◌||◌, ◌==◌, List, [], slice_index_or, Option, Some, None, is_some}
use Rattle.hex_geometry.specs.declared.position.Pos.{Pos}
use Rattle.hex_geometry.specs.Direction.{turned_by}
use Rattle.hex_geometry.specs.Neighbourhood.{adjacent_pos, sensed_pos}
use Rattle.cell_world.specs.declared.ant.Ant.{Ant}
use Rattle.cell_world.specs.declared.ant.Colour.{Colour}
use Rattle.cell_world.specs.declared.ant.Colour.TheVariants.{Red, Black}
use Rattle.cell_world.specs.declared.cell.Cell.{Cell}
use Rattle.cell_world.specs.Cell.{one_if}
use Rattle.cell_world.specs.Marks.{with_mark, without_mark}
use Rattle.cell_world.specs.World.{Cells, World, put_cell, place_in}
use Rattle.brain_read.specs.declared.instr.Instr.{Instr}
use Rattle.brain_read.specs.declared.instr.Instr.TheVariants.{Sense, Mark, Unmark, PickUp, Drop, Turn, Move, Flip}
use Rattle.ant_random.specs.Stream.{drawn}
use Rattle.ant_turn.specs.Conditions.{meets}
use Rattle.ant_turn.specs.Kills.{check_all, killed_all, places_around}
use Rattle.ant_turn.specs.Minds.{Minds, mind_of}
use Rattle.ant_turn.specs.Sheet.{Sheet}

-- the cells after a turn, whether it drew a random number, and the ants that it killed, in order
pub record Outcome : Type 0 where
  pub cells : Cells
  pub drew : Bool
  pub killed : List ℕ

-- the ant in this state
abbrev pub in_state : Ant → ℕ → Ant
in_state ant state = record ant { state = state }

-- the cell with this ant
abbrev pub with_ant : Cell → Ant → Cell
with_ant cell ant = record cell { ant = Some ant }

-- the cell with this colour's marker i set
abbrev pub marked : Cell → Colour → ℕ → Cell
marked cell Red i = record cell { red = with_mark cell.red i }
marked cell Black i = record cell { black = with_mark cell.black i }

-- the cell with this colour's marker i cleared
abbrev pub unmarked : Cell → Colour → ℕ → Cell
unmarked cell Red i = record cell { red = without_mark cell.red i }
unmarked cell Black i = record cell { black = without_mark cell.black i }

-- whether there is an ant
abbrev pub has_ant : Option Ant → Bool
has_ant ant = is_some ant

-- whether no ant can move onto a cell: it is rocky or holds an ant
abbrev pub is_blocked : Cell → Bool
is_blocked cell = cell.rocky || is_some cell.ant

-- the cell without its ant
abbrev pub left_by_ant : Cell → Cell
left_by_ant cell = record cell { ant = None }

-- the ant after it has moved, in this state and resting
abbrev pub arrived : Sheet → Ant → ℕ → Ant
arrived sheet ant next = record ant { state = next; resting = sheet.rest }

-- the cells after the ant at p has moved to q
unfoldable pub stepped : Sheet → Cells → Pos → Ant → Pos → ℕ → Cells
stepped sheet cells p ant q next =
    put_cell (put_cell cells p (record (cells p) { ant = None })) q (with_ant (cells q) (record ant { state = next; resting = sheet.rest }))

-- nothing happens
abbrev pub idle : Cells → Outcome
idle cells = record { cells = cells; drew = false; killed = [] }

-- the cell at p becomes this one, and nothing else happens
abbrev pub cell_becomes : Cells → Pos → Cell → Outcome
cell_becomes cells p cell = record { cells = put_cell cells p cell; drew = false; killed = [] }

-- the ant at p becomes this one, and nothing else happens
abbrev pub ant_becomes : Cells → Pos → Ant → Outcome
ant_becomes cells p ant = cell_becomes cells p (with_ant (cells p) ant)

-- q and its six neighbours are checked, and nothing else happens
abbrev pub checked : Sheet → Cells → Pos → Outcome
checked sheet cells q = record { cells = check_all sheet cells (places_around q); drew = false; killed = killed_all sheet cells (places_around q) }

-- what the ant at p does by its instruction, on these cells and at this place of a seed's stream
abbrev pub execute : Sheet → ℕ → Cells → ℕ → Pos → Ant → Instr → Outcome
-- the state becomes met if the sensed cell meets the condition for the ant's colour, otherwise unmet
execute sheet seed cells place p ant (Sense sight met unmet condition) =
    ant_becomes cells p (record ant { state = if meets (cells (sensed_pos p ant.facing sight)) condition ant.colour then met else unmet })
-- the own colour's marker i is set on its own cell; the state becomes next
execute sheet seed cells place p ant (Mark i next) = cell_becomes cells p (with_ant (marked (cells p) ant.colour i) (in_state ant next))
-- the own colour's marker i is cleared on its own cell; the state becomes next
execute sheet seed cells place p ant (Unmark i next) = cell_becomes cells p (with_ant (unmarked (cells p) ant.colour i) (in_state ant next))
-- if the ant carries food or its cell has none, the state becomes unmet; otherwise one particle goes from the cell to
-- the ant and the state becomes met
execute sheet seed cells place p ant (PickUp met unmet) =
    cell_becomes cells p (if ant.laden || (cells p).food == 0
    then with_ant (cells p) (in_state ant unmet)
    else record (cells p) { food = (cells p).food - 1; ant = Some (record ant { laden = true; state = met }) })
-- if the ant carries food, the cell's food rises by one and the ant carries none; the state becomes next in any case
execute sheet seed cells place p ant (Drop next) =
    cell_becomes cells p (record (cells p) { food = (cells p).food + one_if ant.laden; ant = Some (record ant { laden = false; state = next }) })
-- the direction turns Left or Right; the state becomes next
execute sheet seed cells place p ant (Turn side next) = ant_becomes cells p (record ant { facing = turned_by ant.facing side; state = next })
-- if the cell ahead is rocky or holds an ant, the state becomes unmet; otherwise the ant moves there, the state becomes
-- met, it rests, and the new cell and its six neighbours are checked
execute sheet seed cells place p ant (Move met unmet) =
    let ahead = adjacent_pos p ant.facing in
    if (cells ahead).rocky || is_some (cells ahead).ant
    then ant_becomes cells p (in_state ant unmet)
    else checked sheet (stepped sheet cells p ant ahead met) ahead
-- one random number below the bound is drawn; the state becomes met if it is 0, otherwise unmet
execute sheet seed cells place p ant (Flip bound met unmet) =
    record (ant_becomes cells p (record ant { state = if drawn seed place bound == 0 then met else unmet })) { drew = true }

-- the instruction of a state
abbrev pub instruction_at : List Instr → ℕ → Instr
instruction_at mind state = slice_index_or mind state (Drop 0)

-- the turn of the ant at p, by its resting count: if that is above 0, it falls by one and nothing else happens;
-- otherwise the instruction at its state in its colour's brain is executed. Each state of an ant has one, so `Drop 0`
-- is never used
abbrev pub acts : ℕ → Minds → ℕ → Cells → ℕ → Pos → Ant → Outcome
acts zero minds seed cells place p ant =
    execute minds.sheet seed cells place p ant (slice_index_or (mind_of minds ant.colour) ant.state (Drop 0))
acts (suc left) minds seed cells place p ant = ant_becomes cells p (record ant { resting = left })

-- the turn at a position that may hold an ant
abbrev pub turn_at : Minds → ℕ → Cells → ℕ → Pos → Option Ant → Outcome
turn_at minds seed cells place p None = idle cells
turn_at minds seed cells place p (Some ant) = acts ant.resting minds seed cells place p ant

-- the turn of an ant at its place, if it has one; a dead ant has none
abbrev pub turn_from : Minds → ℕ → Cells → ℕ → Option Pos → Outcome
turn_from minds seed cells place None = idle cells
turn_from minds seed cells place (Some p) = turn_at minds seed cells place p (cells p).ant

-- the turn of an id in a world at a place of the stream
unfoldable pub turn : Minds → ℕ → World → ℕ → ℕ → Outcome
turn minds seed w place t = turn_from minds seed w.cells place (place_in w t)
