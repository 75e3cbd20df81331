-- What the private functions that play a cup ensure.
use Rattle.std.specs.Prelude.{◌≡◌, ℕ, ◌<◌, ◌≤◌, List, Result, Vec, length, map, slice_index_or}
use Rattle.std.specs.Borrow.{Bor}
use Rattle.std.specs.Fn.{Shared}
use Rattle.std.specs.List.{AllByRecursion}
use Rattle.ant_base.specs.declared.memory.OutOfMemory.{OutOfMemory}
use Rattle.ant_turn.specs.Minds.{Fits}
use Rattle.brain_read.specs.declared.instr.Instr.{Instr}
use Rattle.cell_world.specs.Grid.{Grid, world_of}
use Rattle.cell_world.specs.Opening.{opening}
use Rattle.cell_world.specs.declared.kind.Kind.{Kind}
use Rattle.command_words.specs.Table.{fewest_names, most_names}
use Rattle.command_words.specs.declared.table.NameList.TheVariants.{Brains, Worlds}
use Rattle.match_run.specs.Run.{most_rounds}
use Rattle.tournament.specs.declared.games.Pairing.{Pairing}
use Rattle.tournament.specs.declared.games.Played.{Played}
use Rattle.tournament.specs.Seeds.{world_at}
use Rattle.tournament.specs.declared.format.Seeds.{Seeds}
use Rattle.tournament.specs.Plays.{ArePlayed, CanBePlayedBy, PlaysGames}
use Rattle.ant_commands.specs.declared.commands.cup.Games.{Games}
use Rattle.ant_commands.specs.Files.{File, FileKind}
use Rattle.ant_commands.specs.Outputs.{minds_between, nowhere, score_in_cup}

-- the files with these names, of one kind
abbrev pub files_named : FileKind → List (List ℕ) → List File
files_named kind names = map (λ (name : List ℕ). record { name = name; kind = kind }) names

-- a world at the start of a game
pub record Opens (world : Grid) : Type 0 where
  pub kinds : List Kind
  pub opened : world ≡ opening world.width world.height kinds

-- The worlds and the players of a cup. Their numbers are within a cup's limits. The worlds are opening worlds, and each
-- brain has at least one state.
pub record AreReady (worlds : List Grid) (players : List (List Instr)) : Type 0 where
  pub some_worlds : fewest_names Worlds ≤ length worlds
  pub few_worlds : length worlds ≤ most_names
  pub some_players : fewest_names Brains ≤ length players
  pub few_players : length players ≤ most_names
  pub opened : AllByRecursion Opens worlds
  pub sound : AllByRecursion (λ (player : List Instr). 1 ≤ length player) players

-- A game that can be played. `n` is the number of a pair of a world and a seed. The world and both players exist, and
-- they fit.
pub record CanBePlayed (worlds : List Grid) (players : List (List Instr)) (seeds : Seeds)
    (rounds n red black : ℕ) : Type 0 where
  pub some_seeds : 1 ≤ seeds.count
  pub world_there : world_at seeds n < length worlds
  pub red_there : red < length players
  pub black_there : black < length players
  pub fit : Fits (world_of (slice_index_or worlds (world_at seeds n) nowhere)) (minds_between players red black)
  pub few_rounds : rounds ≤ most_rounds

-- a cup's games that can be played by this many workers, and their results
abbrev pub CanPlay : ℕ → Games → List Pairing → Type 0
CanPlay workers games = CanBePlayedBy workers (CanBePlayed games.worlds.now games.players.now games.seeds games.rounds)

abbrev pub GivesScores : {A : Type 0} → Games → List Pairing → Result (Vec Played A) OutOfMemory → Type 0
GivesScores games = ArePlayed (score_in_cup games.worlds.now games.players.now games.seeds games.rounds)

module _ {P A : Type 0}
    (g : Shared P (Bor Games × (Bor (List Pairing) × (ℕ × Unit {0}))) (Result (Vec Played A) OutOfMemory)) where
  -- a function plays the games of cups that can be played, each with its score
  abbrev pub PlaysCup : P → Type 0
  PlaysCup play = PlaysGames g (λ games. CanBePlayed games.worlds.now games.players.now games.seeds games.rounds)
      (λ games. score_in_cup games.worlds.now games.players.now games.seeds games.rounds) play
