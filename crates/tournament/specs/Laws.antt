-- Laws of cups.
use Rattle.std.specs.Prelude.{◌≡◌, ℕ, ◌+◌, ◌*◌, Bool, List, ◌++◌, length, sum_by}
use Rattle.std.specs.List.{flat_map}
use Rattle.cell_world.specs.declared.score.Score.{Score}
use Rattle.tournament.specs.declared.standing.Line.{Line}
use Rattle.tournament.specs.declared.games.Played.{Played}
use Rattle.tournament.specs.Games.{all_played, below, games_of, world_played}
use Rattle.tournament.specs.Standing.{IsStandingOf, line_of}

-- the points of all players together are twice the games
abbrev pub PointsAddUp : Type 0
PointsAddUp =
    (gauntlet : Bool) (players worlds : ℕ) (score : ℕ → ℕ → ℕ → Score) (lines : List Line)
    → IsStandingOf gauntlet players worlds score lines
    → sum_by (λ line. line.points) lines ≡ 2 * length (games_of gauntlet players worlds)

-- over all players there are as many wins as losses
abbrev pub WinsAreLosses : Type 0
WinsAreLosses =
    (gauntlet : Bool) (players worlds : ℕ) (score : ℕ → ℕ → ℕ → Score) (lines : List Line)
    → IsStandingOf gauntlet players worlds score lines
    → sum_by (λ line. line.won) lines ≡ sum_by (λ line. line.lost) lines

-- a cup has one standing
abbrev pub OneStanding : Type 0
OneStanding =
    (gauntlet : Bool) (players worlds : ℕ) (score : ℕ → ℕ → ℕ → Score) (lines others : List Line)
    → IsStandingOf gauntlet players worlds score lines
    → IsStandingOf gauntlet players worlds score others → lines ≡ others

-- the games of a cup are those on its worlds, one world after another
abbrev pub WorldsInOrder : Type 0
WorldsInOrder =
    (gauntlet : Bool) (players worlds : ℕ) (score : ℕ → ℕ → ℕ → Score) → all_played gauntlet players worlds score
    ≡ flat_map (λ world. world_played gauntlet players world score) (below worlds)

-- two lines of a player, added
abbrev pub added_up : Line → Line → Line
added_up x y = record {
  player = x.player;
  points = x.points + y.points;
  won = x.won + y.won;
  drawn = x.drawn + y.drawn;
  lost = x.lost + y.lost;
  food_for = x.food_for + y.food_for;
  food_against = x.food_against + y.food_against;
}

-- a player's line after some games and then more is the sum of the line after the first and the line after the rest
abbrev pub GamesAddUp : Type 0
GamesAddUp =
    (games more : List Played) (p : ℕ) → line_of (games ++ more) p ≡ added_up (line_of games p) (line_of more p)
