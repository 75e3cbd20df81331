-- What a turn comes to: nothing happens, an ant stays, or an ant goes.
use Rattle.std.proofs.Common.{◌≡◌, ◌⊎◌, inl, inr, ℕ, zero, suc, ◌<◌, Bool, true, false, if◌then◌else◌, [], Option, Some, None, refl}
use Rattle.std.specs.Prelude.{◌==◌}
use Rattle.hex_geometry.specs.declared.position.Pos.{Pos}
use Rattle.hex_geometry.specs.Neighbourhood.{adjacent_pos, sensed_pos}
use Rattle.cell_world.specs.declared.ant.Ant.{Ant}
use Rattle.cell_world.specs.declared.cell.Cell.{Cell}
use Rattle.cell_world.specs.World.{Cells, World, put_cell, place_in}
use Rattle.brain_read.specs.declared.instr.Instr.{Instr}
use Rattle.brain_read.specs.declared.instr.Instr.TheVariants.{Sense, Mark, Unmark, PickUp, Drop, Turn, Move, Flip}
use Rattle.brain_read.specs.Soundness.{IsSound}
use Rattle.ant_random.specs.Stream.{drawn}
use Rattle.ant_turn.specs.Conditions.{meets}
use Rattle.ant_turn.specs.Minds.{Minds, mind_of}
use Rattle.ant_turn.specs.Sheet.{Sheet}
use Rattle.ant_turn.specs.Turn.{Outcome, acts, ant_becomes, checked, execute, idle, in_state, instruction_at, is_blocked, stepped, turn, turn_from, turn_at}
use Rattle.ant_turn.proofs.OwnCells.{Stays, rest_stays, sense_stays, mark_stays, unmark_stays, pick_up_stays, drop_stays, turn_stays, move_stays, flip_stays}

-- the ant of p stays: its own cell changes, and no other
pub record Stayed (instruction : Instr) (cells : Cells) (p : Pos) (ant : Ant) (outcome : Outcome) : Type 0 where
  pub new : Cell
  pub stays : Stays instruction (cells p) ant new
  pub cells_after : outcome.cells ≡ put_cell cells p new
  pub killed : outcome.killed ≡ []

-- the ant of p goes ahead, and surrounded ants are checked there
pub record Went (instruction : Instr) (sheet : Sheet) (cells : Cells) (p : Pos) (ant : Ant) (outcome : Outcome) : Type 0 where
  pub next : ℕ
  pub free : is_blocked (cells (adjacent_pos p ant.facing)) ≡ false
  pub state : (n : ℕ) → IsSound n instruction → next < n
  pub is : outcome ≡ checked sheet (stepped sheet cells p ant (adjacent_pos p ant.facing) next) (adjacent_pos p ant.facing)

-- one of the two
abbrev pub Does : Instr → Sheet → Cells → Pos → Ant → Outcome → Type 0
Does instruction sheet cells p ant outcome = Stayed instruction cells p ant outcome ⊎ Went instruction sheet cells p ant outcome

-- an ant with this new cell stays
stays_there : {instruction : Instr} {cells : Cells} {p : Pos} {ant : Ant} {new : Cell} (drew : Bool) → Stays instruction (cells p) ant new → Stayed instruction cells p ant (record { cells = put_cell cells p new; drew = drew; killed = [] })
stays_there {instruction} {cells} {p} {ant} {new} drew stays = record { new = new; stays = stays; cells_after = refl; killed = refl }

-- a Move towards a cell that is blocked or not
move_parts : (sheet : Sheet) (cells : Cells) (p : Pos) (ant : Ant) (met unmet : ℕ) (blocked : Bool) → is_blocked (cells (adjacent_pos p ant.facing)) ≡ blocked →
    Does (Move met unmet) sheet cells p ant (if blocked then ant_becomes cells p (in_state ant unmet) else checked sheet (stepped sheet cells p ant (adjacent_pos p ant.facing) met) (adjacent_pos p ant.facing))
move_parts sheet cells p ant met unmet true _ = inl (stays_there false (move_stays (cells p) ant met unmet))
move_parts sheet cells p ant met unmet false free = inr (record { next = met; free = free; state = λ n sound. sound.0; is = refl })

-- what an instruction comes to
pub execute_parts : (sheet : Sheet) (seed : ℕ) (cells : Cells) (place : ℕ) (p : Pos) (ant : Ant) (instruction : Instr) → Does instruction sheet cells p ant (execute sheet seed cells place p ant instruction)
execute_parts sheet seed cells place p ant (Sense sight met unmet condition) =
    inl (stays_there false (sense_stays (cells p) ant sight met unmet condition (meets (cells (sensed_pos p ant.facing sight)) condition ant.colour)))
execute_parts sheet seed cells place p ant (Mark i next) = inl (stays_there false (mark_stays ant.colour (cells p) ant i next refl))
execute_parts sheet seed cells place p ant (Unmark i next) = inl (stays_there false (unmark_stays ant.colour (cells p) ant i next refl))
execute_parts sheet seed cells place p ant (PickUp met unmet) = inl (stays_there false (pick_up_stays (cells p) ant met unmet))
execute_parts sheet seed cells place p ant (Drop next) = inl (stays_there false (drop_stays (cells p) ant next))
execute_parts sheet seed cells place p ant (Turn side next) = inl (stays_there false (turn_stays (cells p) ant side next))
execute_parts sheet seed cells place p ant (Move met unmet) = move_parts sheet cells p ant met unmet (is_blocked (cells (adjacent_pos p ant.facing))) refl
execute_parts sheet seed cells place p ant (Flip bound met unmet) =
    inl (stays_there true (flip_stays (cells p) ant bound met unmet (drawn seed place bound == 0)))

-- what the turn of an ant comes to
pub acts_parts : (minds : Minds) (seed : ℕ) (cells : Cells) (place : ℕ) (p : Pos) (ant : Ant) (resting : ℕ) → Does (instruction_at (mind_of minds ant.colour) ant.state) minds.sheet cells p ant (acts resting minds seed cells place p ant)
acts_parts minds seed cells place p ant zero = execute_parts minds.sheet seed cells place p ant (instruction_at (mind_of minds ant.colour) ant.state)
acts_parts minds seed cells place p ant (suc left) = inl (stays_there false (rest_stays (instruction_at (mind_of minds ant.colour) ant.state) (cells p) ant left))

-- an ant that has a place takes its turn
pub record Acted (minds : Minds) (w : World) (t : ℕ) (outcome : Outcome) : Type 0 where
  pub p : Pos
  pub ant : Ant
  pub place : place_in w t ≡ Some p
  pub is : (w.cells p).ant ≡ Some ant
  pub does : Does (instruction_at (mind_of minds ant.colour) ant.state) minds.sheet w.cells p ant outcome

-- the turn at a place
turn_of_parts : (minds : Minds) (seed : ℕ) (w : World) (place t : ℕ) (p : Pos) (o : Option Ant) → place_in w t ≡ Some p → (w.cells p).ant ≡ o →
    (turn_at minds seed w.cells place p o ≡ idle w.cells) ⊎ Acted minds w t (turn_at minds seed w.cells place p o)
turn_of_parts minds seed w place t p None found is = inl refl
turn_of_parts minds seed w place t p (Some ant) found is = inr (record { p = p; ant = ant; place = found; is = is; does = acts_parts minds seed w.cells place p ant ant.resting })

-- the turn of an id that may have a place
turn_from_parts : (minds : Minds) (seed : ℕ) (w : World) (place t : ℕ) (o : Option Pos) → place_in w t ≡ o →
    (turn_from minds seed w.cells place o ≡ idle w.cells) ⊎ Acted minds w t (turn_from minds seed w.cells place o)
turn_from_parts minds seed w place t None found = inl refl
turn_from_parts minds seed w place t (Some p) found = turn_of_parts minds seed w place t p (w.cells p).ant found refl

-- what a turn comes to
pub turn_parts : (minds : Minds) (seed : ℕ) (w : World) (place t : ℕ) → (turn minds seed w place t ≡ idle w.cells) ⊎ Acted minds w t (turn minds seed w place t)
unfolding turn
turn_parts minds seed w place t = turn_from_parts minds seed w place t (place_in w t) refl
