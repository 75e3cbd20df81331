-- What turns leave unchanged, and how turns and rounds follow one another (the task's kinetics).
use Rattle.std.specs.Prelude.{◌≡◌, ◌≢◌, ◌⊎◌, ℕ, ◌+◌, false, Some, None}
use Rattle.std.specs.List.{Contains}
use Rattle.hex_geometry.specs.declared.position.Pos.{Pos}
use Rattle.hex_geometry.specs.Neighbourhood.{adjacent_pos}
use Rattle.cell_world.specs.declared.ant.Ant.{Ant}
use Rattle.cell_world.specs.declared.ant.Colour.{Colour}
use Rattle.cell_world.specs.Cell.{holds_id, marks_of}
use Rattle.cell_world.specs.Valid.{Valid}
use Rattle.cell_world.specs.World.{World, place_in, put}
use Rattle.ant_turn.specs.FoodLaws.{killed_in, world_after_turn}
use Rattle.ant_turn.specs.Kills.{places_around}
use Rattle.ant_turn.specs.Minds.{Minds}
use Rattle.ant_turn.specs.Rounds.{Moment, after_turn, after_turns, after_rounds}
use Rattle.ant_turn.specs.Turn.{turn, with_ant}

-- what the turn of a dead or resting ant does
pub record IdleTurns : Type 0 where
  -- the turn of a dead ant changes nothing and uses no random number
  pub dead : (minds : Minds) (seed : ℕ) (m : Moment) (t : ℕ) → place_in m.world t ≡ None → after_turn minds seed m t ≡ m
  -- the turn of a resting ant only lowers its resting count by one, and uses no random number
  pub resting : (minds : Minds) (seed : ℕ) (m : Moment) (t : ℕ) (p : Pos) (ant : Ant) (left : ℕ)
      → place_in m.world t ≡ Some p
      → (m.world.cells p).ant ≡ Some ant → ant.resting ≡ left + 1 →
      after_turn minds seed m t
      ≡ record m { world = put m.world p (with_ant (m.world.cells p) (record ant { resting = left })) }

-- turns and rounds are taken one after another: some and then more are the same as all of them
pub record TurnsFollow : Type 0 where
  pub turns : (minds : Minds) (seed : ℕ) (m : Moment) (from n more : ℕ)
      → after_turns minds seed (after_turns minds seed m from n) (from + n) more
      ≡ after_turns minds seed m from (n + more)
  pub rounds : (minds : Minds) (seed : ℕ) (m : Moment) (r more : ℕ)
      → after_rounds minds seed (after_rounds minds seed m r) more ≡ after_rounds minds seed m (r + more)

-- how far the turn of an ant reaches
pub record TurnsAreNear : Type 0 where
  -- it changes no cell except its own, the one ahead, and the neighbours of that
  pub cells : (minds : Minds) (seed : ℕ) (w : World) (place t : ℕ) (p : Pos) (ant : Ant) (q : Pos)
      → place_in w t ≡ Some p
      → (w.cells p).ant ≡ Some ant → q ≢ p → (Contains (places_around (adjacent_pos p ant.facing)) q → ⊥) →
      (turn minds seed w place t).cells q ≡ w.cells q
  -- if no ant is killed, it changes only its own cell and the one ahead
  pub spared : (minds : Minds) (seed : ℕ) (w : World) (place t : ℕ) (p : Pos) (ant : Ant) (q : Pos)
      → place_in w t ≡ Some p →
      (w.cells p).ant ≡ Some ant → q ≢ p → q ≢ adjacent_pos p ant.facing →
      ((u : ℕ) → Contains (killed_in minds seed w place t) u → holds_id u (w.cells q) ≡ false)
      → (turn minds seed w place t).cells q ≡ w.cells q
  -- and if the ant is left on its own cell, it changes no other cell
  pub stayed : (minds : Minds) (seed : ℕ) (w : World) (place t : ℕ) (p : Pos) (ant left : Ant) (q : Pos)
      → place_in w t ≡ Some p → (w.cells p).ant ≡ Some ant → q ≢ p →
      ((turn minds seed w place t).cells p).ant ≡ Some left → (turn minds seed w place t).cells q ≡ w.cells q
  -- an ant that survives is where it was, or on the cell ahead
  pub own : (minds : Minds) (seed : ℕ) (w : World) (place t : ℕ) (p : Pos) (ant : Ant) (q : Pos) → Valid w
      → place_in w t ≡ Some p
      → (w.cells p).ant ≡ Some ant → place_in (world_after_turn minds seed w place t) t ≡ Some q →
      (q ≡ p) ⊎ (q ≡ adjacent_pos p ant.facing)
  -- it changes no marker except its own colour's on its own cell
  pub marks : (minds : Minds) (seed : ℕ) (w : World) (place t : ℕ) (p : Pos) (ant : Ant) (colour : Colour) (q : Pos)
      → place_in w t ≡ Some p
      → (w.cells p).ant ≡ Some ant → (colour ≡ ant.colour → q ≡ p → ⊥) →
      marks_of colour ((turn minds seed w place t).cells q) ≡ marks_of colour (w.cells q)
