-- The place in the stream after turns and rounds (the task's number generation and kinetics).
use Rattle.std.specs.Prelude.{◌≡◌, ℕ, zero, suc, ◌+◌}
use Rattle.cell_world.specs.Cell.{one_if}
use Rattle.ant_turn.specs.Minds.{Minds}
use Rattle.ant_turn.specs.Rounds.{Moment, after_rounds, after_turns}
use Rattle.spec_record.specs.Guess.{flips}

-- how many Flips are executed in the turns of n ids from `from` on
abbrev pub flips_in_turns : Minds → ℕ → Moment → ℕ → ℕ → ℕ
flips_in_turns minds seed m from zero = 0
flips_in_turns minds seed m from (suc n) =
    flips_in_turns minds seed m from n + one_if (flips minds (after_turns minds seed m from n).world (from + n))

-- how many are executed in r rounds
abbrev pub flips_in_rounds : Minds → ℕ → Moment → ℕ → ℕ
flips_in_rounds minds seed m zero = 0
flips_in_rounds minds seed m (suc r) =
    let now = after_rounds minds seed m r in
    flips_in_rounds minds seed m r + flips_in_turns minds seed now 0 now.world.ids

-- the place is the old one plus one for each Flip that is executed
pub record PlacesCountFlips : Type 0 where
  pub turns : (minds : Minds) (seed : ℕ) (m : Moment) (from n : ℕ)
      → (after_turns minds seed m from n).place ≡ m.place + flips_in_turns minds seed m from n
  pub rounds : (minds : Minds) (seed : ℕ) (m : Moment) (r : ℕ)
      → (after_rounds minds seed m r).place ≡ m.place + flips_in_rounds minds seed m r
