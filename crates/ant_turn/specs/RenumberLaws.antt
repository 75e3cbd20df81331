-- Turns and rounds are the same under new numbers for a side's states (the task's kinetics; renumbering is this
-- project's own).
use Rattle.std.specs.Prelude.{◌≡◌, ℕ, List}
use Rattle.cell_world.specs.declared.ant.Colour.{Colour}
use Rattle.cell_world.specs.World.{World, with_cells}
use Rattle.brain_read.specs.declared.instr.Instr.{Instr}
use Rattle.ant_turn.specs.Minds.{Minds, mind_of}
use Rattle.ant_turn.specs.Renumber.{Numbers, Carries, AreNumbered, renumbered, renumbered_moment, renumbered_outcome, with_mind}
use Rattle.ant_turn.specs.Rounds.{Moment, after_rounds}
use Rattle.ant_turn.specs.Turn.{turn}

-- if numbers turn a colour's brain into another one, and the state of each ant of that colour has a number, a turn
-- commutes with renumbering: it draws and kills as before, its cells are the old turn's, renumbered, and each state
-- still has a number
pub record TurnsRenumber : Type 0 where
  pub commutes : (numbers : Numbers) (colour : Colour) (minds : Minds) (brain : List Instr) (seed : ℕ)
      (w : World) (place t : ℕ)
      → Carries numbers (mind_of minds colour) brain → AreNumbered numbers colour w →
      turn (with_mind minds colour brain) seed (renumbered numbers colour w) place t
      ≡ renumbered_outcome numbers colour (turn minds seed w place t)
  pub keeps : (numbers : Numbers) (colour : Colour) (minds : Minds) (brain : List Instr) (seed : ℕ)
      (w : World) (place t : ℕ)
      → Carries numbers (mind_of minds colour) brain → AreNumbered numbers colour w →
      AreNumbered numbers colour (with_cells w (turn minds seed w place t).cells)

-- so does any number of rounds: the moment after them is the old game's, renumbered, at the same place of the stream
pub record RoundsRenumber : Type 0 where
  pub commutes : (numbers : Numbers) (colour : Colour) (minds : Minds) (brain : List Instr) (seed : ℕ)
      (m : Moment) (r : ℕ)
      → Carries numbers (mind_of minds colour) brain → AreNumbered numbers colour m.world →
      after_rounds (with_mind minds colour brain) seed (renumbered_moment numbers colour m) r
      ≡ renumbered_moment numbers colour (after_rounds minds seed m r)
  pub keeps : (numbers : Numbers) (colour : Colour) (minds : Minds) (brain : List Instr) (seed : ℕ) (m : Moment) (r : ℕ)
      → Carries numbers (mind_of minds colour) brain → AreNumbered numbers colour m.world →
      AreNumbered numbers colour (after_rounds minds seed m r).world
