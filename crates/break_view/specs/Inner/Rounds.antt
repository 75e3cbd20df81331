-- The result of one round of a game that is watched.
use Rattle.std.specs.Prelude.{◌≡◌, ℕ, ◌+◌, ◌<◌, List, Option, Some, None}
use Rattle.ant_turn.specs.Minds.{Minds}
use Rattle.ant_turn.specs.Rounds.{Moment, after_round, after_turns}
use Rattle.break_view.specs.declared.breaks.Break.{Break}
use Rattle.break_view.specs.declared.stop.Stop.{Stop}
use Rattle.break_view.specs.Stops.{met_in_round}

-- no break holds after the turns of the ids below n of a round that begins at a moment
abbrev pub IsQuiet : Minds → ℕ → Moment → List Break → ℕ → ℕ → Type 0
IsQuiet minds seed m items r n = (t : ℕ) → t < n → met_in_round minds seed m items r t ≡ None

-- the round stops first after this turn, at this moment
pub record StopsIn (minds : Minds) (seed : ℕ) (m : Moment) (items : List Break) (r : ℕ) (stop : Stop)
    (end : Moment) : Type 0 where
  pub round : stop.round ≡ r
  pub made : stop.id < m.world.ids
  pub met : met_in_round minds seed m items r stop.id ≡ Some stop.which
  pub quiet : IsQuiet minds seed m items r stop.id
  pub moment : end ≡ after_turns minds seed m 0 (stop.id + 1)

-- the round is played to its end at this moment, without a stop
pub record Passes (minds : Minds) (seed : ℕ) (m : Moment) (items : List Break) (r : ℕ) (end : Moment) : Type 0 where
  pub quiet : IsQuiet minds seed m items r m.world.ids
  pub moment : end ≡ after_round minds seed m

-- how a round ends
abbrev pub RoundEnds : Minds → ℕ → Moment → List Break → ℕ → Option Stop → Moment → Type 0
RoundEnds minds seed m items r (Some stop) end = StopsIn minds seed m items r stop end
RoundEnds minds seed m items r None end = Passes minds seed m items r end
