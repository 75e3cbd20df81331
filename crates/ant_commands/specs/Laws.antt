-- Laws of the texts of the commands.
use Rattle.std.specs.Prelude.{◌≡◌, ◌≢◌, ◌⊎◌, ℕ, ◌+◌, ◌≤◌, true, false, List, [], ◌∷◌, ◌++◌, Option, Some, slice_get, slice_index_or}
use Rattle.ant_asm.specs.Assembled.{IsAssembled}
use Rattle.ant_asm.specs.Match.{label_game, numbered_moment}
use Rattle.ant_asm.specs.Places.{Address}
use Rattle.ant_asm.specs.Program.{Items}
use Rattle.ant_base.specs.Fetched.{Fetched}
use Rattle.ant_base.specs.Layout.{◌+++◌}
use Rattle.ant_base.specs.Lines.{ends_in_lf}
use Rattle.ant_turn.specs.Minds.{AreSound, Minds}
use Rattle.ant_turn.specs.Renumber.{renumbered_moment, with_mind}
use Rattle.ant_turn.specs.Sheet.{contest}
use Rattle.brain_minimise.specs.Match.{game}
use Rattle.brain_minimise.specs.Minimised.{IsMinimised, new_number}
use Rattle.brain_read.specs.declared.instr.Instr.{Instr}
use Rattle.cell_world.specs.Grid.{Grid, world_of}
use Rattle.cell_world.specs.Opening.{opening}
use Rattle.cell_world.specs.Score.{score_of}
use Rattle.cell_world.specs.Valid.{Valid}
use Rattle.cell_world.specs.declared.ant.Colour.{Colour}
use Rattle.cell_world.specs.declared.kind.Kind.{Kind}
use Rattle.command_words.specs.Command.{AskedWithin, PlainAsked}
use Rattle.command_words.specs.Table.{number_place, places_of}
use Rattle.command_words.specs.declared.limits.NumberKind.TheVariants.{WorkerCount}
use Rattle.command_words.specs.declared.table.Choice.{Choice}
use Rattle.command_words.specs.declared.table.NameList.{NameList}
use Rattle.command_words.specs.declared.table.CommandKind.TheVariants.{Asm}
use Rattle.command_words.specs.declared.table.Choice.TheVariants.{Far, Labels, Lines, Workers}
use Rattle.ant_commands.specs.Setups.{ResumeSetup, RunSetup, SetupWithin}
use Rattle.ant_commands.specs.Jobs.{advance_job, job_of, resume_job, run_job, save_job}
use Rattle.command_words.specs.Slots.DumpChoice.{NoDump}
use Rattle.dump_print.specs.Texts.{score_text, seed_text}
use Rattle.match_run.specs.Run.{dumps_text}
use Rattle.match_save.specs.Saved.{SavedValue}
use Rattle.ant_commands.specs.Files.{AreAccepted, FileContent, Reads}
use Rattle.ant_commands.specs.Files.FileContent.{SaveContent}
use Rattle.ant_commands.specs.Files.FileKind.{SaveFile}
use Rattle.ant_commands.specs.Job.{HasRoom, IsJobText, files_of}
use Rattle.ant_commands.specs.Outputs.{ReadGame, chosen_rounds, game_contents, game_files, match_output, minds_named, nowhere, save_contents, score_in_cup, sheet_named}
use Rattle.tournament.specs.Seeds.{seed_at, world_at}
use Rattle.tournament.specs.declared.format.Seeds.{Seeds}
use Rattle.ant_commands.specs.Verdict.{IsJudged}
use Rattle.ant_commands.specs.Verdict.FilesVerdict.{AllAccepted}

-- a text without bytes, written by `asm` with `--labels` and without `--lines` for a program without labels
pub record TellsNoLabel (command : PlainAsked) (text : List ℕ) : Type 0 where
  pub is : command.kind ≡ Asm
  pub labels : command.has Labels ≡ true
  pub no_lines : command.has Lines ≡ false
  pub empty : text ≡ []

-- Suppose that a command's numbers and names are within the limits, and that its files were accepted. Then each of its
-- outputs ends in LF, or is a text without bytes because a program has no labels.
abbrev pub TextsEndInLf : Type 0
TextsEndInLf =
    (command : PlainAsked) (fetches : List Fetched) (contents : List FileContent) (text : List ℕ) → AskedWithin command
    → AreAccepted (files_of (job_of command)) fetches contents → IsJobText (job_of command) contents text
    → (ends_in_lf text ≡ true) ⊎ TellsNoLabel command text

-- a command has at most one output for the same contents of its files
abbrev pub OneText : Type 0
OneText =
    (command : PlainAsked) (contents : List FileContent) (text other : List ℕ)
    → IsJobText (job_of command) contents text → IsJobText (job_of command) contents other → text ≡ other

-- two command lines request the same, except for how many workers play and whether they stay ready
pub record AreAlikeButForWorkers (a b : PlainAsked) : Type 0 where
  pub kind : a.kind ≡ b.kind
  pub file : (place : ℕ) → a.file place ≡ b.file place
  pub number : (place : ℕ) → slice_get (places_of a.kind) place ≢ Some (number_place WorkerCount)
      → a.number place ≡ b.number place
  pub names : (list : NameList) → a.names list ≡ b.names list
  pub option : (choice : Choice) → choice ≢ Workers → a.option choice ≡ b.option choice
  pub dumps : a.dumps ≡ b.dumps
  pub has : (choice : Choice) → choice ≢ Workers → choice ≢ Far → a.has choice ≡ b.has choice

-- two such command lines read the same files and have the same outputs
pub record WorkersChangeNothing : Type 0 where
  pub files : (a b : PlainAsked) → AreAlikeButForWorkers a b → files_of (job_of a) ≡ files_of (job_of b)
  pub text : (a b : PlainAsked) → AreAlikeButForWorkers a b → (contents : List FileContent) (text : List ℕ)
      → IsJobText (job_of a) contents text → IsJobText (job_of b) contents text

-- without its counts the output of `run` is the same for every number of turns in a window
abbrev pub WindowsChangeCountsAlone : Type 0
WindowsChangeCountsAlone =
    (world red black : List ℕ) (setup : RunSetup) (window : ℕ) (contents : List FileContent) (text : List ℕ)
    → setup.stats ≡ false
    → IsJobText (run_job world red black setup) contents text
    → IsJobText (run_job world red black (record setup { window = window })) contents text

-- The score of a game of a cup is the one that `run` prints for the same world, brains, seed and rounds by the
-- contest's rules. The game is between two players of a list, on a world of a list, with one of the cup's seeds.
abbrev pub CupGamesAreRuns : Type 0
CupGamesAreRuns =
    (worlds : List Grid) (players : List (List Instr)) (seeds : Seeds) (setup : RunSetup) (n red black : ℕ)
    → setup.seed ≡ seed_at seeds n → sheet_named setup ≡ contest → setup.dumps ≡ NoDump → setup.stats ≡ false
    → match_output setup (record {
      world = slice_index_or worlds (world_at seeds n) nowhere;
      red = slice_index_or players red [];
      black = slice_index_or players black [];
    })
    ≡ seed_text setup.seed +++ score_text (score_in_cup worlds players seeds setup.rounds n red black)

-- a command has an output, if it is within the limits, its files were accepted, and its elements have room
abbrev pub HasOutput : Type 0
HasOutput =
    (command : PlainAsked) (fetches : List Fetched) (contents : List FileContent) → AskedWithin command
    → AreAccepted (files_of (job_of command)) fetches contents → HasRoom (job_of command)
    → (text : List ℕ) × IsJobText (job_of command) contents text

-- The minimised brain of a labelled program plays the labelled game. This holds for any opening world, other brain,
-- numbers of the rules, seed, side and number of rounds.
pub record MinimisedPlaysLabelled (main : Items) (brain new : List Instr) (list : List Address)
    (numbers : List (Option ℕ)) : Type 0 where
  -- It is the labelled game at the same place of the stream, with each address replaced by the number of its place, and
  -- that number by the minimised brain's state.
  pub plays : (side : Colour) (minds : Minds) (seed width height : ℕ) (kinds : List Kind) (r : ℕ)
      → AreSound (with_mind minds side brain) → Valid (world_of (opening width height kinds)) →
      game (with_mind minds side new) seed width height kinds r
      ≡ renumbered_moment (new_number numbers) side
      (numbered_moment list side (label_game main side minds seed width height kinds r))
  -- with the same score
  pub scores : (side : Colour) (minds : Minds) (seed width height : ℕ) (kinds : List Kind) (r : ℕ)
      → AreSound (with_mind minds side brain) → Valid (world_of (opening width height kinds)) →
      score_of (game (with_mind minds side new) seed width height kinds r).world
      ≡ score_of (label_game main side minds seed width height kinds r).world

abbrev pub AssembledAndMinimised : Type 0
AssembledAndMinimised =
    (main : Items) (brain new : List Instr) (list : List Address) (numbers : List (Option ℕ))
    → IsAssembled main brain list → IsMinimised brain new numbers
    → MinimisedPlaysLabelled main brain new list numbers

-- the settings of `save` for a game of `run`: the same, but with this round as the last, this many workers, and no
-- dumps and counts
abbrev pub saved_setup : RunSetup → ℕ → ℕ → RunSetup
saved_setup setup round workers = record setup { rounds = round; dumps = NoDump; workers = workers; stats = false }

-- the settings of `resume` for that game: its rounds, its dumps and its counts, but this many workers
abbrev pub resumed_setup : RunSetup → ℕ → ResumeSetup
resumed_setup setup workers = record {
  rounds = setup.rounds;
  dumps = setup.dumps;
  workers = workers;
  stats = setup.stats;
}

-- what `run` prints up to a round: the line of the seed, and the chosen dumps up to that round
unfoldable pub front_output : RunSetup → ℕ → ReadGame → List ℕ
front_output setup round game =
    seed_text setup.seed +++ dumps_text (minds_named setup game.red game.black) setup.seed (chosen_rounds setup.dumps)
    (world_of game.world) (round + 1)

-- a game of `run`, within the limits, whose files were accepted
pub record IsGameOf (world red black : List ℕ) (setup : RunSetup) (game : ReadGame) : Type 0 where
  pub within : SetupWithin setup
  pub fetches : List Fetched
  pub accepted : AreAccepted (game_files world red black) fetches (game_contents game)

-- Such a game was saved after this round, by some number of workers. What `save` printed is accepted as this save, if
-- it has at most as many rounds done as the game has in total.
pub record IsSavedAs (world red black : List ℕ) (setup : RunSetup) (game : ReadGame) (round : ℕ)
    (saved : SavedValue) : Type 0 where
  pub early : round ≤ setup.rounds
  pub workers : ℕ
  pub text : List ℕ
  pub is_text : IsJobText (save_job world red black (saved_setup setup round workers)) (game_contents game) text
  pub reads : Reads (SaveFile setup.rounds) text (SaveContent saved)

-- games are saved and continued, by any number of workers before the save and after it
pub record SavesAreResumed : Type 0 where
  -- if the round of the save is at most the last of the game, what `save` prints is accepted
  pub accepted : (world red black : List ℕ) (setup : RunSetup) (game : ReadGame) (round workers : ℕ) (text : List ℕ)
      → IsGameOf world red black setup game → round ≤ setup.rounds
      → IsJobText (save_job world red black (saved_setup setup round workers)) (game_contents game) text
      → (saved : SavedValue) × Reads (SaveFile setup.rounds) text (SaveContent saved)
  -- The save is no longer than a file may be. If it is the content of the file with the name of the save, `resume`
  -- accepts that file, with any number of workers.
  pub fetched : (world red black save : List ℕ) (setup : RunSetup) (game : ReadGame) (round workers others : ℕ)
      (text : List ℕ) (at : List ℕ → Option (List ℕ))
      → IsGameOf world red black setup game → round ≤ setup.rounds
      → IsJobText (save_job world red black (saved_setup setup round workers)) (game_contents game) text
      → at save ≡ Some text
      → (saved : SavedValue)
      × IsJudged at (files_of (resume_job save (resumed_setup setup others))) (AllAccepted (SaveContent saved ∷ []))
  -- what `run` prints has two parts: what it prints up to the saved round, and then what `resume` prints of the save
  pub goes_on : (world red black save : List ℕ) (setup : RunSetup) (game : ReadGame) (round workers : ℕ)
      (saved : SavedValue) (text rest : List ℕ)
      → IsGameOf world red black setup game → IsSavedAs world red black setup game round saved
      → IsJobText (run_job world red black setup) (game_contents game) text
      → IsJobText (resume_job save (resumed_setup setup workers)) (save_contents saved) rest
      → text ≡ front_output setup round game ++ rest
  -- What `advance` prints from the save, up to a later round, is what `save` prints of the game after that round. So
  -- all of this holds for it too.
  pub advanced : (world red black save : List ℕ) (setup : RunSetup) (game : ReadGame)
      (round later workers others : ℕ) (saved : SavedValue) (text : List ℕ)
      → IsGameOf world red black setup game → IsSavedAs world red black setup game round saved
      → round ≤ later → later ≤ setup.rounds
      → IsJobText (advance_job save later workers) (save_contents saved) text
      → IsJobText (save_job world red black (saved_setup setup later others)) (game_contents game) text
  -- so it doesn't matter after which round the game was saved
  pub any_round : (world red black save other : List ℕ) (setup : RunSetup) (game : ReadGame)
      (round later workers others : ℕ) (saved changed : SavedValue) (rest last : List ℕ)
      → IsGameOf world red black setup game
      → IsSavedAs world red black setup game round saved → IsSavedAs world red black setup game later changed
      → IsJobText (resume_job save (resumed_setup setup workers)) (save_contents saved) rest
      → IsJobText (resume_job other (resumed_setup setup others)) (save_contents changed) last
      → front_output setup round game ++ rest ≡ front_output setup later game ++ last
