-- What reports can know of a turn (this project's own; turns are the task's kinetics, deaths its martial arts, the
-- score its game play).
use Rattle.std.specs.Prelude.{ℕ, zero, suc, ◌==◌, ◌&&◌, ◌||◌, Bool, true, false, not, if◌then◌else◌, nat_eq, List, [], ◌∷◌, map, Option, Some, None, option_map}
use Rattle.std.specs.Option.{option_and_then}
use Rattle.hex_geometry.specs.declared.position.Pos.{Pos}
use Rattle.hex_geometry.specs.Neighbourhood.{adjacent_pos, sensed_pos}
use Rattle.ant_random.specs.Stream.{drawn}
use Rattle.ant_turn.specs.Conditions.{meets}
use Rattle.ant_turn.specs.Minds.{Minds, mind_of}
use Rattle.ant_turn.specs.Rounds.{Moment}
use Rattle.ant_turn.specs.Turn.{Outcome, instruction_at, is_blocked, turn}
use Rattle.brain_read.specs.declared.instr.Instr.{Instr}
use Rattle.brain_read.specs.declared.instr.Instr.TheVariants.{Sense, Mark, Unmark, PickUp, Drop, Turn, Move, Flip}
use Rattle.cell_world.specs.declared.ant.Ant.{Ant}
use Rattle.cell_world.specs.declared.ant.Colour.{Colour}
use Rattle.cell_world.specs.declared.ant.PlacedAnt.{PlacedAnt}
use Rattle.cell_world.specs.declared.score.Score.{Score}
use Rattle.cell_world.specs.Score.{score_of}
use Rattle.cell_world.specs.World.{Cells, World, place_in, with_cells}

-- an ant that is killed in a turn, as if it didn't rest, and the place of its death. In the worlds of games every
-- killed ant has both. They are options so that what is seen is defined by ids in every world, even one that no game
-- reaches. There, too, a report by ids has the same text as one of what is seen. The rest is left out because a killed
-- ant may rest, and no report may depend on how long others rest (`IgnoresRest`)
pub record Killed : Type 0 where
  pub ant : Option Ant
  pub place : Option Pos

-- what is seen of a turn: its round; the ant as it was before the turn, its position, and the hill that its cell
-- belongs to; what it executed, and whether its answer was the first; the killed in the order of the checks; the scores
-- before and after
pub record Seen : Type 0 where
  pub round : ℕ
  pub place : Pos
  pub hill : Option Colour
  pub ant : Ant
  pub instruction : Instr
  pub met : Bool
  pub killed : List Killed
  pub before : Score
  pub after : Score

-- whether an instruction's answer is the first: the condition holds, a particle is taken, the ant moves, the number
-- drawn is 0; an instruction with one answer always has that one
abbrev pub is_met : ℕ → Cells → ℕ → Pos → Ant → Instr → Bool
is_met seed cells place p ant (Sense sight met unmet condition) = meets (cells (sensed_pos p ant.facing sight)) condition ant.colour
is_met seed cells place p ant (Mark i next) = true
is_met seed cells place p ant (Unmark i next) = true
is_met seed cells place p ant (PickUp met unmet) = not (ant.laden || ((cells p).food == 0))
is_met seed cells place p ant (Drop next) = true
is_met seed cells place p ant (Turn side next) = true
is_met seed cells place p ant (Move met unmet) = not (is_blocked (cells (adjacent_pos p ant.facing)))
is_met seed cells place p ant (Flip bound met unmet) = drawn seed place bound == 0

-- whether an instruction takes a particle if its answer is the first
abbrev picks_up : Instr → Bool
picks_up (Sense sight met unmet condition) = false
picks_up (Mark i next) = false
picks_up (Unmark i next) = false
picks_up (PickUp met unmet) = true
picks_up (Drop next) = false
picks_up (Turn side next) = false
picks_up (Move met unmet) = false
picks_up (Flip bound met unmet) = false

-- whether an instruction gives a particle away, if the ant carries one
abbrev puts_down : Instr → Bool
puts_down (Sense sight met unmet condition) = false
puts_down (Mark i next) = false
puts_down (Unmark i next) = false
puts_down (PickUp met unmet) = false
puts_down (Drop next) = true
puts_down (Turn side next) = false
puts_down (Move met unmet) = false
puts_down (Flip bound met unmet) = false

-- whether a particle went from the ant's cell to it
abbrev pub takes_food : Seen → Bool
takes_food seen = picks_up seen.instruction && seen.met

-- whether one went from it to its cell
abbrev pub drops_food : Seen → Bool
drops_food seen = puts_down seen.instruction && seen.ant.laden

-- the ant with an id, if it is alive
unfoldable pub ant_in : World → ℕ → Option Ant
ant_in w t = option_and_then (λ p. (w.cells p).ant) (place_in w t)

-- the cell ahead of the ant with an id
unfoldable pub ahead_of : World → ℕ → Option Pos
ahead_of w t =
    option_and_then (λ p. option_map (λ (ant : Ant). adjacent_pos p ant.facing) (w.cells p).ant) (place_in w t)

-- the place of death of an ant that is killed in the turn of t in this world: for t itself the cell ahead, onto which
-- it has moved, and for any other ant its own cell
unfoldable pub death_place : World → ℕ → ℕ → Option Pos
death_place w t killed = if nat_eq killed t then ahead_of w t else place_in w killed

-- an ant as if it didn't rest
abbrev pub unrested : Ant → Ant
unrested ant = record ant { resting = 0 }

-- an id that is killed in the turn of t
abbrev pub killed_as : World → ℕ → ℕ → Killed
killed_as w t killed = record { ant = option_map unrested (ant_in w killed); place = death_place w t killed }

-- what is seen of the turn of t, whose ant is this one and executes this instruction with this outcome
abbrev pub seen_of : ℕ → ℕ → World → ℕ → ℕ → Pos → Ant → Instr → Outcome → Seen
seen_of seed round w place t p ant instruction outcome = record {
  round = round;
  place = p;
  hill = (w.cells p).hill;
  ant = ant;
  instruction = instruction;
  met = is_met seed w.cells place p ant instruction;
  killed = map (killed_as w t) outcome.killed;
  before = score_of w;
  after = score_of (with_cells w outcome.cells);
}

-- what is seen of the turn of an ant with this resting count
abbrev pub seen_by : ℕ → Minds → ℕ → ℕ → Moment → ℕ → Pos → Ant → List Seen
seen_by zero minds seed round m t p ant =
    seen_of seed round m.world m.place t p ant (instruction_at (mind_of minds ant.colour) ant.state)
    (turn minds seed m.world m.place t) ∷ []
seen_by (suc left) minds seed round m t p ant = []

-- what is seen of the turn at a position that may hold an ant
abbrev pub seen_at : Minds → ℕ → ℕ → Moment → ℕ → Pos → Option Ant → List Seen
seen_at minds seed round m t p None = []
seen_at minds seed round m t p (Some ant) = seen_by ant.resting minds seed round m t p ant

-- what is seen of the turn of an ant at its place, if it has one; a dead ant has none
abbrev pub seen_from : Minds → ℕ → ℕ → Moment → ℕ → Option Pos → List Seen
seen_from minds seed round m t None = []
seen_from minds seed round m t (Some p) = seen_at minds seed round m t p (m.world.cells p).ant

-- what is seen of the turn of id t: one entry, or none if it is idle
unfoldable pub seen : Minds → ℕ → ℕ → Moment → ℕ → List Seen
seen minds seed round m t = seen_from minds seed round m t (place_in m.world t)

-- what is seen of the turn of an ant at its place that doesn't rest
abbrev pub seen_here : Minds → ℕ → ℕ → Moment → PlacedAnt → Seen
seen_here minds seed round m it =
    seen_of seed round m.world m.place it.ant.id it.place it.ant
    (instruction_at (mind_of minds it.ant.colour) it.ant.state) (turn minds seed m.world m.place it.ant.id)
