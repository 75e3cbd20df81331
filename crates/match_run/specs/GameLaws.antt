-- Laws of games that are played round by round (the task's game play; refused rounds are this project's own).
use Rattle.std.specs.Prelude.{◌≡◌, ℕ, zero, suc, ◌≤◌, List}
use Rattle.ant_turn.specs.HillLaws.{hill_cells}
use Rattle.ant_turn.specs.Minds.{AreSound}
use Rattle.ant_turn.specs.Rounds.{after_rounds, start_of}
use Rattle.cell_world.specs.declared.kind.Kind.{Kind}
use Rattle.cell_world.specs.Grid.{IsWorld, world_of}
use Rattle.cell_world.specs.Opening.{IsPlan, opening}
use Rattle.round_book.specs.Book.{FieldValue}
use Rattle.match_run.specs.Counts.{totals_of}
use Rattle.match_run.specs.Game.{GameValue, GoesOnFor, IsRoundPlayed, IsRoundRefused, IsSameGame, beginning}
use Rattle.match_run.specs.Run.{world_after}

-- a round that was refused this many times, continued each time, and then played to its end
abbrev pub IsRoundAtLast : ℕ → GameValue → GameValue → Type 0
IsRoundAtLast zero old new = IsRoundPlayed old new
IsRoundAtLast (suc refusals) old new = (mid : GameValue) × IsRoundRefused old mid × IsRoundAtLast refusals mid new

-- this many rounds, one after another, each of which was played to its end, however often it was refused before
abbrev pub AreRounds : ℕ → GameValue → GameValue → Type 0
AreRounds zero old new = new ≡ old
AreRounds (suc r) old new = (mid : GameValue) × AreRounds r old mid × ((refusals : ℕ) × IsRoundAtLast refusals mid new)

-- a game at the end of a round, played for r such rounds, has been played for r rounds of the rules
abbrev pub GamesGoOnByRounds : Type 0
GamesGoOnByRounds =
    (old new : GameValue) (r : ℕ) → 1 ≤ old.window → old.next ≡ 0 → AreRounds r old new → GoesOnFor old new r

-- a game that began on a field is after r rounds at the moment of the game of the rules: its world, its place in the
-- stream, and its counts
pub record IsAtRound (field : FieldValue) (window r : ℕ) (game : GameValue) : Type 0 where
  pub world : world_of game.field.world ≡ world_after field.minds field.seed (world_of field.world) r
  pub place : game.field.place ≡ (after_rounds field.minds field.seed (start_of (world_of field.world)) r).place
  pub totals : game.totals ≡ totals_of field.minds field.seed window (start_of (world_of field.world)) r
  pub done : game.done ≡ r
  pub next : game.next ≡ 0
  pub same : IsSameGame (beginning field window) game

-- each game that begins at place 0 is
abbrev pub GamesFollowTheRules : Type 0
GamesFollowTheRules =
    (field : FieldValue) (window r : ℕ) (game : GameValue) → 1 ≤ window → field.place ≡ 0
    → AreRounds r (beginning field window) game → IsAtRound field window r game

-- a game that began at place 0 on the opening world of some kinds has in every round as many hill cells as ids
abbrev pub GamesKeepTheirHills : Type 0
GamesKeepTheirHills =
    (width height : ℕ) (kinds : List Kind) (field : FieldValue) (window r : ℕ) (game : GameValue)
    → IsPlan width height kinds → AreSound field.minds
    → field.world ≡ opening width height kinds → field.place ≡ 0 → GoesOnFor (beginning field window) game r
    → IsWorld game.field.world
    → hill_cells game.field.world.cells ≡ game.field.world.ids
