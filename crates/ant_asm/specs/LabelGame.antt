-- Games in which the ants of one side have addresses of a labelled program instead of states (the task's kinetics;
-- labels are this project's own).
use Rattle.std.specs.Prelude.{ℕ, zero, suc, ◌+◌, if◌then◌else◌, ◌||◌, ◌==◌, [], ◌∷◌, Option, Some, None}
use Rattle.hex_geometry.specs.declared.position.Pos.{Pos}
use Rattle.hex_geometry.specs.Neighbourhood.{adjacent_pos, sensed_pos}
use Rattle.cell_world.specs.declared.ant.Ant.{Ant}
use Rattle.cell_world.specs.declared.ant.Colour.{Colour}
use Rattle.cell_world.specs.Cell.{one_if}
use Rattle.cell_world.specs.Colour.{same_colour}
use Rattle.cell_world.specs.World.{Cells, World, place_in, with_cells}
use Rattle.brain_read.specs.declared.instr.Instr.{Instr}
use Rattle.brain_read.specs.declared.instr.Instr.TheVariants as instr
use Rattle.ant_random.specs.Stream.{drawn}
use Rattle.ant_turn.specs.Conditions.{meets}
use Rattle.ant_turn.specs.Minds.{Minds}
use Rattle.ant_turn.specs.Renumber.{with_mind}
use Rattle.ant_turn.specs.Turn.{Outcome, is_blocked, turn}
use Rattle.ant_asm.specs.declared.action.Action.{Action}
use Rattle.ant_asm.specs.declared.action.Label.{Label}
use Rattle.ant_asm.specs.Program.{Items}
use Rattle.ant_asm.specs.declared.action.Action.TheVariants.{Sense, Mark, Unmark, PickUp, Drop, Turn, Move, Flip}
use Rattle.ant_asm.specs.Places.{Address, Placed, placed, beginning}

-- the instruction with a state for each label
abbrev pub instruction_by : {L : Type 0} → (L → ℕ) → Action L → Instr
instruction_by state (Sense sight met unmet condition) = instr.Sense sight (state met) (state unmet) condition
instruction_by state (Mark i on) = instr.Mark i (state on)
instruction_by state (Unmark i on) = instr.Unmark i (state on)
instruction_by state (PickUp met unmet) = instr.PickUp (state met) (state unmet)
instruction_by state (Drop on) = instr.Drop (state on)
instruction_by state (Turn side on) = instr.Turn side (state on)
instruction_by state (Move met unmet) = instr.Move (state met) (state unmet)
instruction_by state (Flip bound met unmet) = instr.Flip bound (state met) (state unmet)

-- the bare instruction: each label is replaced by the state 0
abbrev pub bare_instruction : Action Label → Instr
bare_instruction action = instruction_by (λ label. 0) action

-- the label to which an instruction of the ant at p leads, on these cells and at this place of a seed's stream
abbrev pub label_taken : ℕ → Cells → ℕ → Pos → Ant → Action Label → Label
label_taken seed cells place p ant (Sense sight met unmet condition) =
    if meets (cells (sensed_pos p ant.facing sight)) condition ant.colour then met else unmet
label_taken seed cells place p ant (Mark i on) = on
label_taken seed cells place p ant (Unmark i on) = on
label_taken seed cells place p ant (PickUp met unmet) = if ant.laden || (cells p).food == 0 then unmet else met
label_taken seed cells place p ant (Drop on) = on
label_taken seed cells place p ant (Turn side on) = on
label_taken seed cells place p ant (Move met unmet) =
    if is_blocked (cells (adjacent_pos p ant.facing)) then unmet else met
label_taken seed cells place p ant (Flip bound met unmet) = if drawn seed place bound == 0 then met else unmet

-- A moment of such a game: a world in which the ants of the side have no states (theirs are always 0), the address of
-- each ant by its id, and how many random numbers were used so far.
pub record LabelMoment : Type 0 where
  pub world : World
  pub address : ℕ → Address
  pub place : ℕ

-- The address, after its turn, of the ant at p. If the ant rests, the address is unchanged. Otherwise the ant's
-- instruction takes a label, and the address is the one to which that label leads.
abbrev pub address_acted : ℕ → ℕ → Cells → ℕ → Pos → Ant → Placed → Address → Address
address_acted zero seed cells place p ant at address = at.target (label_taken seed cells place p ant at.action)
address_acted (suc left) seed cells place p ant at address = address

-- the same at a position that may have no ant, or an ant of the other side; then the address is unchanged
abbrev pub address_at : Colour → ℕ → Cells → ℕ → Pos → Option Ant → Placed → Address → Address
address_at side seed cells place p None at address = address
address_at side seed cells place p (Some ant) at address =
    if same_colour side ant.colour then address_acted ant.resting seed cells place p ant at address else address

-- the same for an ant that may be dead; then the address is unchanged
abbrev pub address_from : Colour → ℕ → Cells → ℕ → Option Pos → Placed → Address → Address
address_from side seed cells place None at address = address
address_from side seed cells place (Some p) at address = address_at side seed cells place p (cells p).ant at address

-- the addresses, with this one for id t
abbrev pub with_address : (ℕ → Address) → ℕ → Address → ℕ → Address
with_address addresses t address u = if t == u then address else addresses u

-- the turn of an id: its ant acts as if its brain were only the instruction at its address
unfoldable pub label_outcome : Items → Colour → Minds → ℕ → LabelMoment → ℕ → Outcome
label_outcome main side minds seed m t =
    turn (with_mind minds side (bare_instruction (placed main (m.address t)).action ∷ [])) seed m.world m.place t

-- the moment after the turn of an id
unfoldable pub label_turn : Items → Colour → Minds → ℕ → LabelMoment → ℕ → LabelMoment
label_turn main side minds seed m t = record {
  world = with_cells m.world (label_outcome main side minds seed m t).cells;
  address =
      with_address m.address t
      (address_from side seed m.world.cells m.place (place_in m.world t) (placed main (m.address t)) (m.address t));
  place = m.place + one_if (label_outcome main side minds seed m t).drew;
}

-- the moment after the turns of n ids from `from` on, in rising order
abbrev pub label_turns : Items → Colour → Minds → ℕ → LabelMoment → ℕ → ℕ → LabelMoment
label_turns main side minds seed m from zero = m
label_turns main side minds seed m from (suc n) =
    label_turn main side minds seed (label_turns main side minds seed m from n) (from + n)

-- the moment after r rounds
abbrev pub label_rounds : Items → Colour → Minds → ℕ → LabelMoment → ℕ → LabelMoment
label_rounds main side minds seed m zero = m
label_rounds main side minds seed m (suc r) =
    let before : LabelMoment = label_rounds main side minds seed m r in
    label_turns main side minds seed before 0 before.world.ids

-- the moment at the start: each ant of the side begins at main's first instruction
abbrev pub label_start : Items → World → LabelMoment
label_start main w = record { world = w; address = λ t. beginning main; place = 0 }
