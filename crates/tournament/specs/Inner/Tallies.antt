-- The lines of all players while games are still being played.
use Rattle.std.specs.Prelude.{◌≡◌, ℕ, ◌*◌, ◌≤◌, ◌^◌, List, All, length, map}
use Rattle.tournament.specs.declared.games.Played.{Played}
use Rattle.tournament.specs.declared.standing.Line.{Line}
use Rattle.tournament.specs.declared.tally.Tally.{Tally}
use Rattle.tournament.specs.Games.{below}
use Rattle.tournament.specs.Laws.{added_up}
use Rattle.tournament.specs.Standing.{line_of}

-- bounds on a line's numbers after this many games
pub record IsSmall (games : ℕ) (line : Line) : Type 0 where
  pub points : line.points ≤ 3 * games
  pub won : line.won ≤ games
  pub drawn : line.drawn ≤ games
  pub lost : line.lost ≤ games
  pub food_for : line.food_for ≤ games * 2 ^ 32
  pub food_against : line.food_against ≤ games * 2 ^ 32

-- a player's line with some more games
abbrev pub with_games : List Played → Line → Line
with_games games line = added_up line (line_of games line.player)

-- the lines of all players after these games
pub record IsTally (players : ℕ) (games : List Played) (tally : Tally) : Type 0 where
  pub lines : tally.lines.items ≡ map (line_of games) (below players)
  pub count : tally.games ≡ length games
  pub small : All (IsSmall tally.games) tally.lines.items
