-- A saved game that is continued and saved again (this project's own).
use Rattle.std.specs.Prelude.{◌≡◌, ℕ, ◌-◌, ◌≤◌, Bool}
use Rattle.ant_base.specs.Layout.{◌+++◌}
use Rattle.ant_turn.specs.Minds.{Minds}
use Rattle.cell_world.specs.Grid.{Grid, world_of}
use Rattle.cell_world.specs.World.{World}
use Rattle.match_run.specs.Counts.{both, totals_of}
use Rattle.match_run.specs.Later.{later_dumps}
use Rattle.match_run.specs.Run.{most_rounds}
use Rattle.match_save.specs.Resumed.{IsOfGame, later_moment, later_world, moment_of, resumed_text}
use Rattle.match_save.specs.Saved.{IsSaved, SavedValue}
use Rattle.match_save.specs.Saves.{Starts, grid_at, saved_after}

-- a save after this many rounds of its game are done in total: its place and its world are those after the later
-- rounds, and their turns are added to the counts; its seed, its window and its brains are unchanged
unfoldable pub advanced : SavedValue → ℕ → SavedValue
advanced s rounds = record s {
  round = rounds;
  place = (later_moment s (rounds - s.round)).place;
  totals = both s.totals (totals_of s.minds s.seed s.window (moment_of s) (rounds - s.round));
  world = grid_at (later_world s (rounds - s.round));
}

-- advanced, the save of a game after m rounds is its save after n; and the same holds for each save of a game
pub record GamesAreAdvanced : Type 0 where
  pub game : (minds : Minds) (seed window m n : ℕ) (grid : Grid) → Starts minds seed window n grid → m ≤ n
      → advanced (saved_after minds seed window (world_of grid) m) n ≡ saved_after minds seed window (world_of grid) n
  pub of_game : (s : SavedValue) (w : World) (n : ℕ) → IsOfGame s w → s.round ≤ n
      → advanced s n ≡ saved_after s.minds s.seed s.window w n

-- advanced, a save is one, whether or not a game made it: at its own round it is unchanged, and in two steps it is the
-- same as in one
pub record SavesAreAdvanced : Type 0 where
  pub saved : (s : SavedValue) (n : ℕ) → IsSaved s → s.round ≤ n → n ≤ most_rounds → IsSaved (advanced s n)
  pub at_once : (s : SavedValue) → IsSaved s → advanced s s.round ≡ s
  pub by_steps : (s : SavedValue) (n m : ℕ) → IsSaved s → s.round ≤ n → n ≤ m → advanced (advanced s n) m ≡ advanced s m

-- the resumed text of a save is the chosen dumps up to a later round, and then the resumed text of the save advanced to
-- this round; and if the save is one of a game, so is the advanced one
pub record AdvancedSavesGoOn : Type 0 where
  pub text : (s : SavedValue) (n rounds : ℕ) (chosen : ℕ → Bool) (stats : Bool) → IsSaved s → s.round ≤ n → n ≤ rounds →
      resumed_text s rounds chosen stats
      ≡ later_dumps s.minds s.seed chosen (moment_of s) s.round (n - s.round)
      +++ resumed_text (advanced s n) rounds chosen stats
  pub game : (s : SavedValue) (w : World) (n : ℕ) → IsSaved s → IsOfGame s w → s.round ≤ n → IsOfGame (advanced s n) w
