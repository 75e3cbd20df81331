-- What the promise implies if a command was broken off, and if a game was printed.
use Rattle.std.proofs.Common.{◌≡◌, ℕ, ◌≤◌, true, false, List, length}
use Rattle.ant_turn.specs.Rounds.{start_of}
use Rattle.cell_world.specs.Grid.{world_of}
use Rattle.command_words.specs.Command.{IsCommand, PlainAsked}
use Rattle.command_words.specs.declared.table.CommandKind.TheVariants.{Run}
use Rattle.match_run.specs.Counts.{counts_text, totals_of}
use Rattle.tournament.specs.Printed.{first_played, games_text}
use Rattle.tournament.specs.declared.format.Format.{Format}
use Rattle.ant_commands.specs.Files.{File, FileContent}
use Rattle.ant_commands.specs.Headline.{KeepsPromise, PrintsTheGame}
use Rattle.ant_commands.specs.Job.{WritesInPlay, plain_job}
use Rattle.ant_commands.specs.Jobs.{cup_job}
use Rattle.ant_commands.specs.Outputs.{ReadCup, Tells, TellsFirstWorlds, minds_named, roster_contents, score_in_cup}
use Rattle.ant_commands.specs.Outside.{Outside}
use Rattle.ant_commands.specs.Setups.{setup_of}

-- A command that has all its memory before it writes has written nothing in play. Neither has a cup that prints only
-- its standing.
plain_writes_none : (files : List File) (IsText : List FileContent → List ℕ → Type 0) (contents : List FileContent) (front : List ℕ) → WritesInPlay (plain_job files IsText) contents front → ⊥
plain_writes_none files IsText contents front is = is

untold_cup : (worlds brains : List (List ℕ)) (format : Format) (rounds workers : ℕ) (contents : List FileContent) (front : List ℕ) → WritesInPlay (cup_job worlds brains format rounds workers false) contents front → ⊥
untold_cup worlds brains format rounds workers contents front is = is

-- a cup that prints its games has written the lines of the games on its first worlds
cup_in_play : (worlds brains : List (List ℕ)) (format : Format) (rounds workers : ℕ) (contents : List FileContent) (front : List ℕ) → WritesInPlay (cup_job worlds brains format rounds workers true) contents front
    → Tells roster_contents (TellsFirstWorlds worlds brains format rounds) contents front
cup_in_play worlds brains format rounds workers contents front is = is

-- the first worlds are no more than the cup has
first_worlds_tell : (worlds names : List (List ℕ)) (format : Format) (rounds : ℕ) (cup : ReadCup) (text : List ℕ) → TellsFirstWorlds worlds names format rounds cup text
    → (told : ℕ) × (told ≤ length worlds) × (text ≡ games_text format worlds names (first_played format names told (score_in_cup cup.worlds cup.players format.seeds rounds)) 1)
first_worlds_tell worlds names format rounds cup text is = (is.told, is.some, is.is)

-- at status 0 a game was printed with its own counts
counts_printed : (words : List (List ℕ)) (before after : Outside) (number : ℕ) → KeepsPromise words before after number → number ≡ 0 → (asked : PlainAsked) → IsCommand words asked → asked.kind ≡ Run
    → (game : PrintsTheGame (asked.file 0) (asked.file 1) (asked.file 2) (setup_of asked) before after)
    × (game.counts ≡ counts_text (setup_of asked).stats (totals_of (minds_named (setup_of asked) game.red_brain game.black_brain) (setup_of asked).seed (setup_of asked).window (start_of (world_of game.start)) (setup_of asked).rounds))
counts_printed words before after number promise zero asked is run = let it = promise.game zero asked is run in (it.0, it.1.told)
