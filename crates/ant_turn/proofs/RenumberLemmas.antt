-- Turns under other states of the ants: the states decide nothing but which instruction is executed.
use Rattle.std.proofs.Common.{◌≡◌, ℕ, refl}
use Rattle.cell_world.specs.declared.ant.Ant.{Ant}
use Rattle.cell_world.specs.declared.ant.Colour.{Colour}
use Rattle.cell_world.specs.declared.cell.Cell.{Cell}
use Rattle.cell_world.specs.World.{World, place_in}
use Rattle.brain_read.specs.declared.instr.Cond.{Cond}
use Rattle.ant_turn.specs.Conditions.{meets}
use Rattle.ant_turn.specs.Minds.{Minds}
use Rattle.ant_turn.specs.Renumber.{renumbered_cell, renumbered_cells, renumbered_world}
use Rattle.ant_turn.specs.Turn.{Outcome, turn}
use Rattle.ant_turn.proofs.OtherAnts.{ActsAlikeAt, meets-mapped, place_in-mapped, turn-mapped}

module _ (f : Colour → ℕ → ℕ) where
  abbrev state_of : Ant → ℕ
  state_of ant = f ant.colour ant.state

  abbrev rest_of : Ant → ℕ
  rest_of ant = ant.resting

  -- what a turn made, renumbered
  abbrev pub after : Outcome → Outcome
  after outcome = record outcome { cells = renumbered_cells f outcome.cells }

  -- each ant is where it was
  pub place_in-renumbered : (w : World) (t : ℕ) → place_in (renumbered_world f w) t ≡ place_in w t
  place_in-renumbered w t = place_in-mapped state_of rest_of w t

  -- cells meet what they met
  pub meets-renumbered : (cell : Cell) (condition : Cond) (colour : Colour) → meets (renumbered_cell f cell) condition colour ≡ meets cell condition colour
  meets-renumbered cell condition colour = meets-mapped state_of rest_of cell condition colour

  -- a turn commutes with new numbers of states, whatever they are, if the ant whose turn it is acts alike
  pub turn-alike : (minds other : Minds) → other.sheet ≡ minds.sheet → (seed : ℕ) (w : World) (place t : ℕ) → ActsAlikeAt f minds other w.cells (place_in w t) →
      turn other seed (renumbered_world f w) place t ≡ after (turn minds seed w place t)
  turn-alike minds other rules seed w place t alike = turn-mapped state_of rest_of t f (λ ant same. refl) minds other rules seed w place alike
