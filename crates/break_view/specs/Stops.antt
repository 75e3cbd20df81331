-- The first stop of a game: what a caller of `find_stop` believes.
use Rattle.std.specs.Prelude.{◌≡◌, ◌⊎◌, ℕ, zero, suc, ◌+◌, ◌-◌, ◌<◌, ◌≤◌, nat_le, if◌then◌else◌, List, Option, Some, None, option_map}
use Rattle.std.specs.Option.{option_or}
use Rattle.cell_world.specs.World.{World}
use Rattle.ant_turn.specs.Minds.{Minds}
use Rattle.ant_turn.specs.Rounds.{Moment, after_turns, after_rounds, start_of}
use Rattle.match_run.specs.Run.{world_after}
use Rattle.break_view.specs.declared.breaks.Break.{Break}
use Rattle.break_view.specs.declared.stop.Stop.{Stop}
use Rattle.break_view.specs.Met.{first_met}

-- the world after the turn of id t in a round that begins at a moment: the ids from 0 to t had their turns
unfoldable pub world_in_round : Minds → ℕ → Moment → ℕ → World
world_in_round minds seed m t = (after_turns minds seed m 0 (t + 1)).world

-- the moment before round r, counted from 1, of a game that begins in w
abbrev pub before_round : Minds → ℕ → World → ℕ → Moment
before_round minds seed w r = after_rounds minds seed (start_of w) (r - 1)

-- the world after the turn of id t in round r of a game that begins in w
abbrev pub world_at : Minds → ℕ → World → ℕ → ℕ → World
world_at minds seed w r t = world_in_round minds seed (before_round minds seed w r) t

-- the number, counted from 1, of the first break of a list that holds after the turn of id t in round r, which begins
-- at a moment
abbrev pub met_in_round : Minds → ℕ → Moment → List Break → ℕ → ℕ → Option ℕ
met_in_round minds seed m items r t = first_met 1 items (world_in_round minds seed m t) r t

-- the number of the first break that holds after the turn of id t in round r of a game that begins in w
abbrev pub met_at : Minds → ℕ → World → List Break → ℕ → ℕ → Option ℕ
met_at minds seed w items r t = met_in_round minds seed (before_round minds seed w r) items r t

-- breaks are tested after the turn of id t in round r, counted from 1: the game has that turn, and the round isn't
-- before `from`; the turn of a dead id is a turn
pub record IsTurn (w : World) (rounds from r t : ℕ) : Type 0 where
  pub begun : 1 ≤ r
  pub reached : from ≤ r
  pub played : r ≤ rounds
  pub made : t < w.ids

-- one turn is before another: in an earlier round, or in the same round and of a lower id
abbrev pub IsEarlier : ℕ → ℕ → ℕ → ℕ → Type 0
IsEarlier r t round id = (r < round) ⊎ ((r ≡ round) × (t < id))

-- the stop is the first turn, in a round from `from` on, after which a break holds, and names the first break that
-- holds then
pub record IsFirstStop (minds : Minds) (seed rounds from : ℕ) (w : World) (items : List Break)
    (stop : Stop) : Type 0 where
  pub turn : IsTurn w rounds from stop.round stop.id
  pub met : met_at minds seed w items stop.round stop.id ≡ Some stop.which
  pub none_before : (r t : ℕ) → IsTurn w rounds from r t
      → IsEarlier r t stop.round stop.id → met_at minds seed w items r t ≡ None

-- no break holds after any turn of the game in a round from `from` on
abbrev pub HasNoStop : Minds → ℕ → ℕ → ℕ → World → List Break → Type 0
HasNoStop minds seed rounds from w items = (r t : ℕ) → IsTurn w rounds from r t → met_at minds seed w items r t ≡ None

-- how a game ends: at its first stop, in the world after that turn; or without a stop, in the world after all rounds
abbrev pub EndsAt : Minds → ℕ → ℕ → ℕ → World → List Break → Option Stop → World → Type 0
EndsAt minds seed rounds from w items (Some stop) end =
    IsFirstStop minds seed rounds from w items stop × (end ≡ world_at minds seed w stop.round stop.id)
EndsAt minds seed rounds from w items None end =
    HasNoStop minds seed rounds from w items × (end ≡ world_after minds seed w rounds)

-- the stop after the turn of id t in round r, if a break holds then
abbrev pub stop_at : Minds → ℕ → World → List Break → ℕ → ℕ → Option Stop
stop_at minds seed w items r t =
    option_map (λ which. record { round = r; id = t; which = which }) (met_at minds seed w items r t)

-- the first stop after the turns of the ids below a number in round r
abbrev pub first_in_round : Minds → ℕ → World → List Break → ℕ → ℕ → Option Stop
first_in_round minds seed w items r zero = None
first_in_round minds seed w items r (suc t) =
    option_or (first_in_round minds seed w items r t) (stop_at minds seed w items r t)

-- the first stop in the rounds from `from` on, among this many rounds of a game that begins in w, by search
abbrev pub first_stop : Minds → ℕ → World → List Break → ℕ → ℕ → Option Stop
first_stop minds seed w items from zero = None
first_stop minds seed w items from (suc r) =
    option_or (first_stop minds seed w items from r)
    (if nat_le from (suc r) then first_in_round minds seed w items (suc r) w.ids else None)

-- the world at a stop; without one, the world after all rounds
abbrev pub end_of : Minds → ℕ → ℕ → World → Option Stop → World
end_of minds seed rounds w (Some stop) = world_at minds seed w stop.round stop.id
end_of minds seed rounds w None = world_after minds seed w rounds
