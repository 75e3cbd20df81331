-- Renumbered states of a side's ants (this project's own).
use Rattle.std.specs.Prelude.{◌≡◌, ℕ, ◌<◌, if◌then◌else◌, List, length, Option, Some, IsSome, unwrap_or, option_map}
use Rattle.std.specs.List.{AllByRecursion}
use Rattle.hex_geometry.specs.declared.position.Pos.{Pos}
use Rattle.cell_world.specs.declared.ant.Ant.{Ant}
use Rattle.cell_world.specs.declared.ant.Colour.{Colour}
use Rattle.cell_world.specs.declared.ant.Colour.TheVariants.{Red, Black}
use Rattle.cell_world.specs.declared.cell.Cell.{Cell}
use Rattle.cell_world.specs.Colour.{same_colour}
use Rattle.cell_world.specs.World.{Cells, World, with_cells}
use Rattle.brain_read.specs.declared.instr.Instr.{Instr}
use Rattle.brain_read.specs.declared.instr.Instr.TheVariants.{Sense, Mark, Unmark, PickUp, Drop, Turn, Move, Flip}
use Rattle.brain_read.specs.Grammar.{states_of}
use Rattle.ant_turn.specs.Minds.{Minds}
use Rattle.ant_turn.specs.Rounds.{Moment}
use Rattle.ant_turn.specs.Turn.{Outcome, instruction_at}

-- new numbers of states; a state may have none
abbrev pub Numbers : Type 0
Numbers = ℕ → Option ℕ

-- the new number of a state; a state that has none is unchanged
abbrev pub state_number : Numbers → ℕ → ℕ
state_number numbers state = unwrap_or (numbers state) state

-- the state of an ant after the states of the colour `own` get new numbers
abbrev pub side_states : Numbers → Colour → Colour → ℕ → ℕ
side_states numbers colour own state = if same_colour colour own then state_number numbers state else state

-- the instruction with each state that it names mapped; its kind and its parameters are unchanged
abbrev pub redirected : (ℕ → ℕ) → Instr → Instr
redirected f (Sense sight met unmet condition) = Sense sight (f met) (f unmet) condition
redirected f (Mark i next) = Mark i (f next)
redirected f (Unmark i next) = Unmark i (f next)
redirected f (PickUp met unmet) = PickUp (f met) (f unmet)
redirected f (Drop next) = Drop (f next)
redirected f (Turn side next) = Turn side (f next)
redirected f (Move met unmet) = Move (f met) (f unmet)
redirected f (Flip bound met unmet) = Flip bound (f met) (f unmet)

-- the ant in another state, which its colour and its state determine
abbrev pub renumbered_ant : (Colour → ℕ → ℕ) → Ant → Ant
renumbered_ant f ant = record ant { state = f ant.colour ant.state }

-- the cell with such an ant, if it holds one
abbrev pub renumbered_cell : (Colour → ℕ → ℕ) → Cell → Cell
renumbered_cell f cell = record cell { ant = option_map (renumbered_ant f) cell.ant }

-- the cells
abbrev pub renumbered_cells : (Colour → ℕ → ℕ) → Cells → Cells
renumbered_cells f cells p = renumbered_cell f (cells p)

-- the world
abbrev pub renumbered_world : (Colour → ℕ → ℕ) → World → World
renumbered_world f w = with_cells w (renumbered_cells f w.cells)

-- the world in which the state of each ant of this colour has its new number, and everything else is unchanged
abbrev pub renumbered : Numbers → Colour → World → World
renumbered numbers colour w = renumbered_world (side_states numbers colour) w

-- the same for a moment: the place in the stream is unchanged
abbrev pub renumbered_moment : Numbers → Colour → Moment → Moment
renumbered_moment numbers colour m = record m { world = renumbered numbers colour m.world }

-- the same for what a turn did: whether it drew, and which ants it killed, are unchanged
abbrev pub renumbered_outcome : Numbers → Colour → Outcome → Outcome
renumbered_outcome numbers colour outcome =
    record outcome { cells = renumbered_cells (side_states numbers colour) outcome.cells }

-- the minds with another brain of this colour
abbrev pub with_mind : Minds → Colour → List Instr → Minds
with_mind minds Red brain = record minds { red = brain }
with_mind minds Black brain = record minds { black = brain }

-- the numbers turn a brain into another one. At a state's number the other brain has the state's instruction with its
-- successors mapped, of the same kind and with the same parameters. If a state has a number, its successors have
-- numbers
pub record Carries (numbers : Numbers) (old new : List Instr) : Type 0 where
  pub inside : (state number : ℕ) → numbers state ≡ Some number → (state < length old) × (number < length new)
  pub acts : (state number : ℕ) → numbers state ≡ Some number
      → instruction_at new number ≡ redirected (state_number numbers) (instruction_at old state)
  pub onward : (state number : ℕ) → numbers state ≡ Some number
      → AllByRecursion (λ next. IsSome (numbers next)) (states_of (instruction_at old state))

-- the state of each ant of this colour has a number
pub record AreNumbered (numbers : Numbers) (colour : Colour) (w : World) : Type 0 where
  pub each : (p : Pos) (ant : Ant) → (w.cells p).ant ≡ Some ant → ant.colour ≡ colour → IsSome (numbers ant.state)
