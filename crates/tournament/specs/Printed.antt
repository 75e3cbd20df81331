-- Cups whose games are printed, one line for each (this project's own).
use Rattle.std.specs.Prelude.{◌≡◌, ℕ, suc, ◌*◌, ◌≤◌, Bool, true, false, List, [], ◌∷◌, ◌++◌, codes, decimal, length, Result, Ok, Err}
use Rattle.ant_base.specs.Layout.{◌+++◌}
use Rattle.ant_base.specs.Sink.{SinkState, PushedAll, PushedFront}
use Rattle.cell_world.specs.declared.score.Score.{Score}
use Rattle.tournament.specs.declared.games.Played.{Played}
use Rattle.tournament.specs.declared.standing.Line.{Line}
use Rattle.tournament.specs.declared.format.Format.{Format}
use Rattle.tournament.specs.declared.format.Seeds.{Seeds}
use Rattle.ant_base.specs.declared.push_fault.PushFault.{PushFault}
use Rattle.ant_base.specs.declared.push_fault.PushFault.TheVariants.{WriteFault, OutOfMemory}
use Rattle.tournament.specs.Games.{all_played}
use Rattle.tournament.specs.Names.{name_of}
use Rattle.tournament.specs.Seeds.{seed_at, world_at}
use Rattle.tournament.specs.Standing.{IsStandingOf}
use Rattle.tournament.specs.Text.{standing_text}

-- the part of a game's line with its seed, if it is printed
abbrev pub seed_part : Bool → Seeds → ℕ → List ℕ
seed_part false seeds n = []
seed_part true seeds n = codes "seed " +++ decimal (seed_at seeds n) +++ codes ", "

-- the line of the game with this number: its score, its seed, and the names of its world, its red player and its black
-- player, such as `game 17: red 3 black 0, w, a, b` or `game 17: red 3 black 0, seed 5, w, a, b`
unfoldable pub game_line_text : Format → List (List ℕ) → List (List ℕ) → ℕ → Played → List ℕ
game_line_text format worlds players number it =
    codes "game " +++ decimal number +++ codes ": red " +++ decimal it.score.red +++ codes " black " +++ decimal it.score.black +++ codes ", "
    +++ seed_part format.shows_seeds format.seeds it.game.world +++ name_of worlds (world_at format.seeds it.game.world)
    +++ codes ", " +++ name_of players it.game.red +++ codes ", " +++ name_of players it.game.black +++ codes "\n"

-- the lines of games, one after another, numbered from this number on
abbrev pub games_text : Format → List (List ℕ) → List (List ℕ) → List Played → ℕ → List ℕ
games_text format worlds players [] number = []
games_text format worlds players (it ∷ games) number =
    game_line_text format worlds players number it ++ games_text format worlds players games (suc number)

-- the games with all seeds on the first worlds, with their scores
abbrev pub first_played : Format → List (List ℕ) → ℕ → (ℕ → ℕ → ℕ → Score) → List Played
first_played format players worlds score =
    all_played format.gauntlet (length players) (worlds * format.seeds.count) score

-- the games of a cup with players and worlds of these names, with their scores
abbrev pub cup_played : Format → List (List ℕ) → List (List ℕ) → (ℕ → ℕ → ℕ → Score) → List Played
cup_played format worlds players score = first_played format players (length worlds) score

-- the text of a cup whose games are printed: the line of each game in the order in which they are played, numbered from
-- 1, and then the standing
pub record IsPrintedCupText (format : Format) (worlds players : List (List ℕ)) (score : ℕ → ℕ → ℕ → Score)
    (text : List ℕ) : Type 0 where
  pub lines : List Line
  pub standing : IsStandingOf format.gauntlet (length players) (length worlds * format.seeds.count) score lines
  pub is : text ≡ games_text format worlds players (cup_played format worlds players score) 1 ++ standing_text format.leads players lines

-- the whole text of such a cup was pushed
pub record PrintedAll (old new : SinkState) (format : Format) (worlds players : List (List ℕ))
    (score : ℕ → ℕ → ℕ → Score) : Type 0 where
  pub text : List ℕ
  pub is_text : IsPrintedCupText format worlds players score text
  pub pushed : PushedAll old new text

-- a prefix of it was pushed, and the sink failed
pub record PrintedFront (old new : SinkState) (format : Format) (worlds players : List (List ℕ))
    (score : ℕ → ℕ → ℕ → Score) : Type 0 where
  pub text : List ℕ
  pub is_text : IsPrintedCupText format worlds players score text
  pub pushed : PushedFront old new text

-- the lines of all games on the first worlds were pushed, and nothing else
abbrev pub HasPrinted : SinkState → SinkState → Format → List (List ℕ) → List (List ℕ) → (ℕ → ℕ → ℕ → Score) → ℕ
    → Type 0
HasPrinted old new format worlds players score printed =
    PushedAll old new (games_text format worlds players (first_played format players printed score) 1)

-- the lines of all games on some number of the first worlds were pushed, and nothing else
pub record PrintedWorlds (old new : SinkState) (format : Format) (worlds players : List (List ℕ))
    (score : ℕ → ℕ → ℕ → Score) : Type 0 where
  pub printed : ℕ
  pub some : printed ≤ length worlds
  pub pushed : HasPrinted old new format worlds players score printed

-- why the printing stopped: the sink failed, or memory ran out
abbrev pub PrintedBy : SinkState → SinkState → Format → List (List ℕ) → List (List ℕ) → (ℕ → ℕ → ℕ → Score) → PushFault
    → Type 0
PrintedBy old new format worlds players score WriteFault = PrintedFront old new format worlds players score
PrintedBy old new format worlds players score OutOfMemory = PrintedWorlds old new format worlds players score

-- what was printed of a cup; at Ok it is everything
abbrev pub Printed : SinkState → SinkState → Format → List (List ℕ) → List (List ℕ) → (ℕ → ℕ → ℕ → Score)
    → Result (Unit {0}) PushFault → Type 0
Printed old new format worlds players score (Ok _) = PrintedAll old new format worlds players score
Printed old new format worlds players score (Err fault) = PrintedBy old new format worlds players score fault
