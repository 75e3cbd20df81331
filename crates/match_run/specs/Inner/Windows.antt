-- The windows of a round, played one after another (this project's own).
use Rattle.std.specs.Prelude.{◌≡◌, ℕ, ◌+◌, ◌-◌, ◌*◌, ◌<◌, true, min}
use Rattle.ant_turn.specs.Rounds.{after_turns}
use Rattle.dump_print.specs.declared.totals.Totals.{Totals}
use Rattle.round_book.specs.Book.{FieldValue, field_moment}
use Rattle.match_run.specs.Counts.{both, sum_windows}

-- some windows of this many turns were played, with the turns of a field's round from `from` on: the field after them,
-- the next turn, and the counts of all turns so far
pub record WindowsPlayed (old : FieldValue) (size from : ℕ) (totals : Totals) (new : FieldValue) (next : ℕ)
    (new_totals : Totals) : Type 0 where
  pub windows : ℕ
  pub next_is : next ≡ min (from + windows * size) old.world.ids
  pub had_turns : from + windows * size < old.world.ids + size
  pub now : field_moment new ≡ after_turns old.minds old.seed (field_moment old) from (next - from)
  pub totals_are : new_totals ≡ both totals (sum_windows old.minds old.seed size (field_moment old) from windows)
  pub minds : new.minds ≡ old.minds
  pub seed : new.seed ≡ old.seed
  pub ids : new.world.ids ≡ old.world.ids
  pub whole : new.whole ≡ true
