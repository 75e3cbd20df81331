-- Turns and rounds, one after another (the task's kinetics).
use Rattle.std.specs.Prelude.{ℕ, zero, suc, ◌+◌}
use Rattle.cell_world.specs.Cell.{one_if}
use Rattle.cell_world.specs.World.{World}
use Rattle.ant_turn.specs.Minds.{Minds}
use Rattle.ant_turn.specs.Turn.{Outcome, turn}

-- a world, and how many random numbers were used so far in the game
pub record Moment : Type 0 where
  pub world : World
  pub place : ℕ

-- the moment after an outcome
abbrev pub moment_after : Moment → Outcome → Moment
moment_after m outcome = record {
  world = record m.world { cells = outcome.cells };
  place = m.place + one_if outcome.drew;
}

-- the moment after the turn of id t
unfoldable pub after_turn : Minds → ℕ → Moment → ℕ → Moment
after_turn minds seed m t = moment_after m (turn minds seed m.world m.place t)

-- the moment after the turns of n ids from `from` on, in rising order
abbrev pub after_turns : Minds → ℕ → Moment → ℕ → ℕ → Moment
after_turns minds seed m from zero = m
after_turns minds seed m from (suc n) = after_turn minds seed (after_turns minds seed m from n) (from + n)

-- the moment after one round: one turn of each id in rising order
unfoldable pub after_round : Minds → ℕ → Moment → Moment
after_round minds seed m = after_turns minds seed m 0 m.world.ids

-- the moment after r rounds
abbrev pub after_rounds : Minds → ℕ → Moment → ℕ → Moment
after_rounds minds seed m zero = m
after_rounds minds seed m (suc r) = after_round minds seed (after_rounds minds seed m r)

-- the moment at the start of a game
abbrev pub start_of : World → Moment
start_of w = record { world = w; place = 0 }
