-- The games of a cup, in their order. Worlds and players are numbered from 0.
use Rattle.std.specs.Prelude.{◌≢◌, ◌<◌, ℕ, zero, suc, Bool, true, false, ◌||◌, ◌+◌, ◌==◌, List, [], ◌∷◌, ◌++◌, filter, map, nat_lt}
use Rattle.std.specs.List.{flat_map}
use Rattle.cell_world.specs.declared.score.Score.{Score}
use Rattle.tournament.specs.declared.games.Pairing.{Pairing}
use Rattle.tournament.specs.declared.games.Played.{Played}

-- the numbers from 0 that are below n, in rising order
abbrev pub below : ℕ → List ℕ
below zero = []
below (suc n) = below n ++ n ∷ []

-- the numbers above i that are below n
unfoldable pub above : ℕ → ℕ → List ℕ
above i n = filter (nat_lt i) (below n)

-- the two games of a pair on a world: i as red against j, and then j as red against i
abbrev pub both_ways : ℕ → ℕ → ℕ → List Pairing
both_ways world i j = (record { world = world; red = i; black = j }) ∷ (record { world = world; red = j; black = i }) ∷ []

-- the games on a world of player i against each player with a higher number
unfoldable pub games_with : ℕ → ℕ → ℕ → List Pairing
games_with players world i = flat_map (both_ways world i) (above i players)

-- the games on a world of each pair of players
unfoldable pub each_pair_on : ℕ → ℕ → List Pairing
each_pair_on players world = flat_map (games_with players world) (below players)

-- whether player 0 plays a game
abbrev pub has_first : Pairing → Bool
has_first game = (game.red == 0) || (game.black == 0)

-- the games on a world: those of each pair of players; in a gauntlet only those that player 0 plays
abbrev pub games_on : Bool → ℕ → ℕ → List Pairing
games_on false players world = each_pair_on players world
games_on true players world = filter has_first (each_pair_on players world)

-- the games of a cup: those on each world
unfoldable pub games_of : Bool → ℕ → ℕ → List Pairing
games_of gauntlet players worlds = flat_map (games_on gauntlet players) (below worlds)

-- the games on some consecutive worlds, given the first of them and their number
abbrev pub games_between : Bool → ℕ → ℕ → ℕ → List Pairing
games_between gauntlet players first zero = []
games_between gauntlet players first (suc count) =
    games_between gauntlet players first count ++ games_on gauntlet players (first + count)

-- a game with its score, if scores are given by world, red player and black player
abbrev pub played_by : (ℕ → ℕ → ℕ → Score) → Pairing → Played
played_by score game = record { game = game; score = score game.world game.red game.black }

-- the games of a cup with their scores
abbrev pub all_played : Bool → ℕ → ℕ → (ℕ → ℕ → ℕ → Score) → List Played
all_played gauntlet players worlds score = map (played_by score) (games_of gauntlet players worlds)

-- the games of a cup on one world with their scores
abbrev pub world_played : Bool → ℕ → ℕ → (ℕ → ℕ → ℕ → Score) → List Played
world_played gauntlet players world score = map (played_by score) (games_on gauntlet players world)

-- the games of a cup on some consecutive worlds, with their scores
abbrev pub worlds_played : Bool → ℕ → ℕ → ℕ → (ℕ → ℕ → ℕ → Score) → List Played
worlds_played gauntlet players first count score = map (played_by score) (games_between gauntlet players first count)

-- a game of a cup: its world and its two players exist, and the players are different
pub record IsGame (players worlds : ℕ) (game : Pairing) : Type 0 where
  pub world : game.world < worlds
  pub red : game.red < players
  pub black : game.black < players
  pub apart : game.red ≢ game.black
