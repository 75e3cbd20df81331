-- Laws of the counts of games (this project's own).
use Rattle.std.specs.Prelude.{◌≡◌, ℕ, ◌+◌, ◌*◌, ◌^◌, ◌<◌, ◌≤◌, Bool, true, false}
use Rattle.ant_base.specs.Layout.{◌+++◌}
use Rattle.ant_turn.specs.Minds.{AreSound, Fits, Minds}
use Rattle.ant_turn.specs.Rounds.{Moment, after_round, after_rounds, start_of}
use Rattle.cell_world.specs.Valid.{Valid}
use Rattle.cell_world.specs.World.{World}
use Rattle.dump_print.specs.Texts.{stats_text}
use Rattle.match_run.specs.Counts.{both, round_totals, totals_of, whole_text}
use Rattle.match_run.specs.Game.{GameValue, IsRoundPlayed, IsRoundRefused, now_of}
use Rattle.match_run.specs.Run.{run_text}

-- rounds have a turn for each id, and each turn is taken or redone
pub record TotalsAddUp : Type 0 where
  pub turns : (minds : Minds) (seed size : ℕ) (m : Moment) (r : ℕ) → 1 ≤ size
      → (totals_of minds seed size m r).turns ≡ m.world.ids * r
  pub each : (minds : Minds) (seed size : ℕ) (m : Moment) (r : ℕ)
      → (totals_of minds seed size m r).taken + (totals_of minds seed size m r).redone
      ≡ (totals_of minds seed size m r).turns

-- some rounds and those after them lead to the same moment as all, and have the turns of all
pub record RoundsGoOn : Type 0 where
  pub moment : (minds : Minds) (seed : ℕ) (m : Moment) (r q : ℕ)
      → after_rounds minds seed (after_rounds minds seed m r) q ≡ after_rounds minds seed m (r + q)
  pub totals : (minds : Minds) (seed size : ℕ) (m : Moment) (r q : ℕ) → both (totals_of minds seed size m r)
      (totals_of minds seed size (after_rounds minds seed m r) q) ≡ totals_of minds seed size m (r + q)

-- if a window has one turn, every turn is taken, from any moment that the brains fit and for whose rounds the stream is
-- long enough
abbrev pub SingleTurnWindowsAreTaken : Type 0
SingleTurnWindowsAreTaken =
    (minds : Minds) (seed : ℕ) (m : Moment) (r : ℕ) → AreSound minds → Valid m.world → Fits m.world minds
    → m.place + m.world.ids * r < 2 ^ 63 →
    totals_of minds seed 1 m r ≡ record { turns = m.world.ids * r; taken = m.world.ids * r; redone = 0 }

-- the counts come last: without their line the text is the same whatever the size of a window
pub record CountsComeLast : Type 0 where
  pub without : (minds : Minds) (seed rounds : ℕ) (chosen : ℕ → Bool) (size : ℕ) (w : World)
      → whole_text minds seed rounds chosen size false w ≡ run_text minds seed rounds chosen w
  pub with_them : (minds : Minds) (seed rounds : ℕ) (chosen : ℕ → Bool) (size : ℕ) (w : World) →
      whole_text minds seed rounds chosen size true w
      ≡ run_text minds seed rounds chosen w +++ stats_text (totals_of minds seed size (start_of w) rounds)

-- a round that begins with the turn of id 0 and is played to its end is a round
pub record WholeRounds : Type 0 where
  pub moment : (old new : GameValue) → old.next ≡ 0 → IsRoundPlayed old new
      → now_of new ≡ after_round old.field.minds old.field.seed (now_of old)
  pub totals : (old new : GameValue) → old.next ≡ 0 → IsRoundPlayed old new
      → new.totals ≡ both old.totals (round_totals old.field.minds old.field.seed old.window (now_of old))

-- a round that was interrupted and then played to its end is the same as one without an interruption
abbrev pub BrokenRoundsGoOn : Type 0
BrokenRoundsGoOn =
    (old mid new : GameValue) → 1 ≤ old.window → IsRoundRefused old mid → IsRoundPlayed mid new → IsRoundPlayed old new
