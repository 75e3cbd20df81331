-- The standing of a cup (the task's game play).
use Rattle.std.specs.Prelude.{◌≡◌, ℕ, ◌+◌, ◌*◌, ◌≤◌, Bool, ◌&&◌, ◌||◌, ◌==◌, nat_lt, List, map, length, count_by, sum_by, if◌then◌else◌, IsPermutation}
use Rattle.std.specs.List.{AllAdjacentBelow}
use Rattle.cell_world.specs.declared.score.Score.{Score}
use Rattle.tournament.specs.declared.games.Played.{Played}
use Rattle.tournament.specs.declared.standing.Line.{Line}
use Rattle.tournament.specs.Games.{below, all_played}

-- whether player p won the game: it played one side, and that side has the greater score
abbrev pub is_won : ℕ → Played → Bool
is_won p it = ((it.game.red == p) && nat_lt it.score.black it.score.red) || ((it.game.black == p) && nat_lt it.score.red it.score.black)

-- whether player p lost the game: it played one side, and that side has the smaller score
abbrev pub is_lost : ℕ → Played → Bool
is_lost p it = ((it.game.red == p) && nat_lt it.score.red it.score.black) || ((it.game.black == p) && nat_lt it.score.black it.score.red)

-- whether player p drew the game: it played one side, and the scores are equal
abbrev pub is_drawn : ℕ → Played → Bool
is_drawn p it = ((it.game.red == p) || (it.game.black == p)) && (it.score.red == it.score.black)

-- the food of player p in the game; 0 if it didn't play
abbrev pub food_for : ℕ → Played → ℕ
food_for p it = if it.game.red == p then it.score.red else if it.game.black == p then it.score.black else 0

-- the food of player p's opponent in the game; 0 if p didn't play
abbrev pub food_against : ℕ → Played → ℕ
food_against p it = if it.game.red == p then it.score.black else if it.game.black == p then it.score.red else 0

-- the line of player p: how many of these games it won, drew and lost, 2 points for a win and 1 for a draw, its own
-- food and its opponents'
unfoldable pub line_of : List Played → ℕ → Line
line_of games p = record {
  player = p;
  points = 2 * count_by (is_won p) games + count_by (is_drawn p) games;
  won = count_by (is_won p) games;
  drawn = count_by (is_drawn p) games;
  lost = count_by (is_lost p) games;
  food_for = sum_by (food_for p) games;
  food_against = sum_by (food_against p) games;
}

-- line x may be directly above line y: it has more points, or equally many and no higher player number
pub record StandsAbove (x y : Line) : Type 0 where
  pub points : y.points ≤ x.points
  pub ties : x.points ≡ y.points → x.player ≤ y.player

-- the lines are those of all players after these games, in order of falling points, and for equal points in order of
-- rising player numbers
pub record Ranks (players : ℕ) (games : List Played) (lines : List Line) : Type 0 where
  pub each : IsPermutation (map (line_of games) (below players)) lines
  pub order : AllAdjacentBelow StandsAbove lines (length lines)

-- the standing of a cup, or of a gauntlet, with this many players and worlds, if the scores are given by world, red
-- player and black player
abbrev pub IsStandingOf : Bool → ℕ → ℕ → (ℕ → ℕ → ℕ → Score) → List Line → Type 0
IsStandingOf gauntlet players worlds score lines = Ranks players (all_played gauntlet players worlds score) lines
