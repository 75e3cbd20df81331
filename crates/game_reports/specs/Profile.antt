-- How often each state is executed (this project's own; states are the task's neurology, turns its kinetics).
use Rattle.std.specs.Prelude.{ℕ, zero, suc, ◌==◌, ◌&&◌, Bool, List, [], ◌∷◌, length, filter, Option, Some, None, codes, decimal}
use Rattle.hex_geometry.specs.declared.position.Pos.{Pos}
use Rattle.ant_base.specs.Layout.{numbered, ◌+++◌}
use Rattle.ant_turn.specs.Minds.{Minds, mind_of}
use Rattle.ant_turn.specs.Rounds.{Moment, start_of}
use Rattle.ant_turn.specs.Turn.{instruction_at}
use Rattle.brain_read.specs.Canonical.{instruction_text}
use Rattle.brain_read.specs.declared.instr.Instr.{Instr}
use Rattle.brain_read.specs.declared.instr.Instr.TheVariants.{Sense, Mark, Unmark, PickUp, Drop, Turn, Move, Flip}
use Rattle.cell_world.specs.Colour.{same_colour}
use Rattle.cell_world.specs.declared.ant.Ant.{Ant}
use Rattle.cell_world.specs.declared.ant.Colour.{Colour}
use Rattle.cell_world.specs.declared.ant.Colour.TheVariants.{Red, Black}
use Rattle.cell_world.specs.World.{Cells, World, place_in}
use Rattle.dump_print.specs.Content.{colour_text}
use Rattle.dump_print.specs.Texts.{seed_text}
use Rattle.game_reports.specs.declared.executed.Executed.{Executed}
use Rattle.match_run.specs.Seen.{is_met}
use Rattle.match_run.specs.Told.{from_round, told_in_rounds}

-- what the ant at p with this resting count executes: its state, if it doesn't rest
abbrev pub executed_by : ℕ → Minds → ℕ → Cells → ℕ → Pos → Ant → List Executed
executed_by zero minds seed cells place p ant =
    record {
      colour = ant.colour;
      state = ant.state;
      met = is_met seed cells place p ant (instruction_at (mind_of minds ant.colour) ant.state);
    } ∷ []
executed_by (suc left) minds seed cells place p ant = []

-- what is executed at a position that may hold an ant
abbrev pub executed_at : Minds → ℕ → Cells → ℕ → Pos → Option Ant → List Executed
executed_at minds seed cells place p None = []
executed_at minds seed cells place p (Some ant) = executed_by ant.resting minds seed cells place p ant

-- what is executed in the turn of an ant that has a place, or is dead
abbrev pub executed_from : Minds → ℕ → Cells → ℕ → Option Pos → List Executed
executed_from minds seed cells place None = []
executed_from minds seed cells place (Some p) = executed_at minds seed cells place p (cells p).ant

-- what is executed in the turn of id t
unfoldable pub executed_in : Minds → ℕ → Moment → ℕ → List Executed
executed_in minds seed m t = executed_from minds seed m.world.cells m.place (place_in m.world t)

-- what is executed in the rounds of a game from round `from` on, turn after turn
unfoldable pub executed_in_rounds : Minds → ℕ → World → ℕ → ℕ → List Executed
executed_in_rounds minds seed w rounds from =
    told_in_rounds (from_round from (λ round. executed_in minds seed)) minds seed (start_of w) rounds

-- whether this state of a colour's brain was executed
abbrev pub is_of : Colour → ℕ → Executed → Bool
is_of colour state executed = same_colour executed.colour colour && (executed.state == state)

-- in how many turns it was executed
unfoldable pub times_of : List Executed → Colour → ℕ → ℕ
times_of list colour state = length (filter (is_of colour state) list)

-- in how many of these the answer was the first
unfoldable pub met_of : List Executed → Colour → ℕ → ℕ
met_of list colour state = length (filter (λ executed. is_of colour state executed && executed.met) list)

-- in how many turns the answer was the first, if the instruction has two
abbrev pub met_text : Instr → ℕ → List ℕ
met_text (Sense sight met unmet condition) many = codes ", " +++ decimal many +++ codes " met"
met_text (Mark i next) many = []
met_text (Unmark i next) many = []
met_text (PickUp met unmet) many = codes ", " +++ decimal many +++ codes " met"
met_text (Drop next) many = []
met_text (Turn side next) many = []
met_text (Move met unmet) many = codes ", " +++ decimal many +++ codes " met"
met_text (Flip bound met unmet) many = codes ", " +++ decimal many +++ codes " met"

-- the line of a state, with its instruction and both counts
unfoldable pub tally_line : Colour → ℕ → Instr → ℕ → ℕ → List ℕ
tally_line colour state instruction times met =
    colour_text colour +++ codes " " +++ decimal state +++ codes ": " +++ decimal times +++ codes " times"
    +++ met_text instruction met
    +++ codes ": " +++ instruction_text instruction

-- the line of a state of a colour's brain
abbrev pub state_line : Colour → List Instr → List Executed → ℕ → List ℕ
state_line colour brain list state = tally_line colour state (instruction_at brain state) (times_of list colour state) (met_of list colour state)

-- the lines of a colour's brain, from state 0 on
unfoldable pub brain_lines : Colour → List Instr → List Executed → List ℕ
brain_lines colour brain list = numbered (state_line colour brain list) (length brain)

-- the text of a profile from round `from` on: the line of the seed, the lines of the red brain, and those of the black
-- one
unfoldable pub profile_text : Minds → ℕ → World → ℕ → ℕ → List ℕ
profile_text minds seed w rounds from =
    let list = executed_in_rounds minds seed w rounds from in
    seed_text seed +++ brain_lines Red minds.red list +++ brain_lines Black minds.black list
