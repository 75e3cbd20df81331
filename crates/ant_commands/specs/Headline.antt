-- The promise on one page, to be read from the top down. Each run of `run_to_exit` ends with one of six statuses, and
-- each status says what was fetched, accepted and written (this project's own). `IsRunTo` is what the call in `main`
-- ensures. The law `headline` says that everything below follows from it.
use Rattle.std.specs.Prelude.{◌≡◌, ◌≢◌, ◌⊎◌, ℕ, ◌+◌, false, List, [], ◌∷◌, Ok}
use Rattle.ant_base.specs.Fetched.{Fetched}
use Rattle.ant_base.specs.Layout.{◌+++◌}
use Rattle.ant_base.specs.Shelf.{FetchesEach}
use Rattle.ant_base.specs.Sink.{NothingWaits, PushedAll}
use Rattle.ant_turn.specs.Rounds.{start_of}
use Rattle.brain_read.specs.Grammar.{IsBrainText}
use Rattle.brain_read.specs.declared.instr.Instr.{Instr}
use Rattle.cell_world.specs.Grid.{Grid, world_of}
use Rattle.cell_world.specs.Score.{score_of}
use Rattle.command_words.specs.Command.{PlainAsked, IsCommand, IsRefusedAt}
use Rattle.command_words.specs.declared.table.CommandKind.TheVariants.{Run}
use Rattle.ant_commands.specs.Setups.{RunSetup, setup_of}
use Rattle.ant_commands.specs.Jobs.{job_of}
use Rattle.dump_print.specs.Texts.{score_text, seed_text}
use Rattle.match_run.specs.Counts.{counts_text, totals_of}
use Rattle.match_run.specs.Run.{dumps_text, world_after}
use Rattle.world_read.specs.Opened.{OpensAs}
use Rattle.ant_commands.specs.declared.stop.FileFault.{FileFault}
use Rattle.ant_commands.specs.Files.{AreAccepted, FileContent}
use Rattle.ant_commands.specs.Job.{IsJobText, files_of}
use Rattle.ant_commands.specs.Outputs.{chosen_rounds, minds_named}
use Rattle.ant_commands.specs.Outside.{Outside}
use Rattle.ant_commands.specs.Endings.{StopsFor}
use Rattle.ant_commands.specs.Run.{GotLine, IsNoCommand, IsRunTo}
use Rattle.ant_commands.specs.FaultLines.{Reason, fault_line, word_line}
use Rattle.ant_commands.specs.FaultLines.Reason.{AtFile, AtInput, AtMemory, AtOutput, AtRoom}

-- status 0, by any command
pub record PrintsItsOutput (words : List (List ℕ)) (before after : Outside) : Type 0 where
  -- the words are a command
  pub command : PlainAsked
  pub is_command : IsCommand words command
  -- these fetches were made, and no other
  pub fetches : List Fetched
  pub fetched : FetchesEach before.shelf after.shelf fetches
  -- they are of the command's files, each once and in order, and each was accepted by its grammar
  pub contents : List FileContent
  pub accepted : AreAccepted (files_of (job_of command)) fetches contents
  -- the output got the command's text, and nothing else
  pub text : List ℕ
  pub is_text : IsJobText (job_of command) contents text
  pub written : PushedAll before.out after.out text
  -- If the output reports what waits, nothing waits to be flushed after a text with bytes. After a text without bytes,
  -- nothing waits if nothing waited before.
  pub flushed : text ≢ [] → NothingWaits after.out.waiting
  pub kept : NothingWaits before.out.waiting → NothingWaits after.out.waiting
  -- the errors got nothing
  pub silent : after.err ≡ before.err

-- status 0, by `run WORLD RED BLACK` with these numbers
pub record PrintsTheGame (world red black : List ℕ) (setup : RunSetup) (before after : Outside) : Type 0 where
  -- three files were fetched, and no other
  pub world_bytes : List ℕ
  pub red_bytes : List ℕ
  pub black_bytes : List ℕ
  pub fetched : FetchesEach before.shelf after.shelf
      (record { name = world; answer = Ok world_bytes } ∷ record { name = red; answer = Ok red_bytes }
      ∷ record { name = black; answer = Ok black_bytes } ∷ [])
  -- they are a world and two brains
  pub start : Grid
  pub is_world : OpensAs world_bytes start
  pub red_brain : List Instr
  pub is_red : IsBrainText red_bytes red_brain
  pub black_brain : List Instr
  pub is_black : IsBrainText black_bytes black_brain
  -- The output got the line of the seed, the dump of the world after each chosen round from 0 to the last, and the
  -- score of the world after the last round. It got nothing else, except the counts if they are requested.
  pub counts : List ℕ
  pub uncounted : setup.stats ≡ false → counts ≡ []
  pub written : PushedAll before.out after.out (
      (seed_text setup.seed
      +++ dumps_text (minds_named setup red_brain black_brain) setup.seed (chosen_rounds setup.dumps) (world_of start)
      (setup.rounds + 1)
      +++ score_text
      (score_of (world_after (minds_named setup red_brain black_brain) setup.seed (world_of start) setup.rounds)))
      +++ counts)
  pub flushed : NothingWaits after.out.waiting
  pub silent : after.err ≡ before.err

-- the counts of a game that was printed are those of its turns, in windows of the size that the words name
pub record TellsItsCounts (world red black : List ℕ) (setup : RunSetup) (before after : Outside)
    (game : PrintsTheGame world red black setup before after) : Type 0 where
  pub told : game.counts ≡ counts_text setup.stats
      (totals_of (minds_named setup game.red_brain game.black_brain) setup.seed setup.window (start_of (world_of game.start)) setup.rounds)

-- Status 2: the words are not a command, and the errors got the line of the first word that is refused. Nothing was
-- fetched or written.
pub record NamesTheWord (words : List (List ℕ)) (before after : Outside) : Type 0 where
  pub none : IsNoCommand words
  pub word : ℕ
  pub refused : IsRefusedAt words word
  pub kept : after.shelf ≡ before.shelf
  pub unwritten : after.out ≡ before.out
  pub line : GotLine before.err after.err (word_line word)

-- each other status: the words are a command, the command stopped for this reason, and the errors got the reason's line
pub record NamesTheReason (words : List (List ℕ)) (before after : Outside) (reason : Reason) : Type 0 where
  pub command : PlainAsked
  pub is_command : IsCommand words command
  pub fetches : List Fetched
  pub fetched : FetchesEach before.shelf after.shelf fetches
  pub stopped : StopsFor (job_of command) before after fetches reason
  pub line : GotLine before.err after.err (fault_line reason)

-- what a status means, and that there is no other
pub record KeepsPromise (words : List (List ℕ)) (before after : Outside) (number : ℕ) : Type 0 where
  pub printed : number ≡ 0 → PrintsItsOutput words before after
  pub game : number ≡ 0 → (asked : PlainAsked) → IsCommand words asked → asked.kind ≡ Run
      → (printed_game : PrintsTheGame (asked.file 0) (asked.file 1) (asked.file 2) (setup_of asked) before after)
      × TellsItsCounts (asked.file 0) (asked.file 1) (asked.file 2) (setup_of asked) before after printed_game
  pub no_command : number ≡ 2 → NamesTheWord words before after
  pub not_read : number ≡ 3 → (name : List ℕ) × NamesTheReason words before after (AtFile name)
  pub output_failed : number ≡ 4 → NamesTheReason words before after AtOutput
  pub refused : number ≡ 5
      → ((name : List ℕ) × (fault : FileFault) × NamesTheReason words before after (AtInput name fault))
      ⊎ ((element : ℕ) × NamesTheReason words before after (AtRoom element))
  -- Nothing was written, or a proper prefix of the text. Only a `run`, a `resume` or a `cup` with `--games` writes such
  -- a prefix. For a cup it is the lines of the games on its first worlds.
  pub out_of_memory : number ≡ 6 → NamesTheReason words before after AtMemory
  pub no_other : (number ≡ 0) ⊎ (number ≡ 2) ⊎ (number ≡ 3) ⊎ (number ≡ 4) ⊎ (number ≡ 5) ⊎ (number ≡ 6)

-- each run of the program keeps `KeepsPromise`
abbrev pub Headline : Type 0
Headline =
    (words : List (List ℕ)) (before after : Outside) (number : ℕ) → IsRunTo words before after number
    → KeepsPromise words before after number
