-- How the whole program ends.
use Rattle.std.specs.Prelude.{◌≡◌, ◌≢◌, ◌↔◌, ℕ, List, [], ◌++◌, Option, Some, Result, ◌⊎◌}
use Rattle.ant_base.specs.Faults.{Rose}
use Rattle.ant_base.specs.Fetched.{Fetched}
use Rattle.ant_base.specs.Shelf.{AreSure, FetchesEach, ShelfState}
use Rattle.ant_base.specs.Sink.{NothingWaits, Pushed, SinkState}
use Rattle.ant_base.specs.declared.sink.Failed.{Failed}
use Rattle.command_words.specs.Command.{PlainAsked, IsCommand, IsRefusedAt}
use Rattle.ant_commands.specs.Jobs.{job_of}
use Rattle.ant_commands.specs.declared.status.Status.{Status}
use Rattle.ant_commands.specs.declared.status.Status.TheVariants as status
use Rattle.ant_commands.specs.declared.stop.FileFault.{FileFault}
use Rattle.ant_commands.specs.Files.{AreInOrder, FileContent}
use Rattle.ant_commands.specs.Job.{HasRoom, LacksRoom, files_of}
use Rattle.ant_commands.specs.Verdict.{IsJudged, FilesVerdict}
use Rattle.ant_commands.specs.Verdict.FilesVerdict.{AllAccepted, FirstRefused}
use Rattle.ant_commands.specs.Outside.{Outside}
use Rattle.ant_commands.specs.Endings.{IsDone, StopsFor}
use Rattle.ant_commands.specs.Status.{status_number}
use Rattle.ant_commands.specs.FaultLines.{Ending, Reason, ending_status, fault_line, word_line}
use Rattle.ant_commands.specs.FaultLines.Ending.{Done, RefusedWord, Stopped}

-- The words are a command, which is done. If the output reports what waits, nothing waits to be flushed after a text
-- with bytes. After a text without bytes, nothing waits if nothing waited before.
pub record IsFinished (words : List (List ℕ)) (before after : Outside) (fetches : List Fetched) : Type 0 where
  pub command : PlainAsked
  pub is_command : IsCommand words command
  pub done : IsDone (job_of command) before after fetches
  pub flushed : done.text ≢ [] → NothingWaits after.out.waiting
  pub kept : NothingWaits before.out.waiting → NothingWaits after.out.waiting

-- the words are a command, which stopped for this reason
pub record IsStopped (words : List (List ℕ)) (before after : Outside) (fetches : List Fetched)
    (reason : Reason) : Type 0 where
  pub command : PlainAsked
  pub is_command : IsCommand words command
  pub stopped : StopsFor (job_of command) before after fetches reason

-- The words are not a command, and this is the refused word. Nothing was fetched or written.
pub record IsRefusedByWords (words : List (List ℕ)) (before after : Outside) (fetches : List Fetched)
    (word : ℕ) : Type 0 where
  pub refused : IsRefusedAt words word
  pub unfetched : fetches ≡ []
  pub kept : after.shelf ≡ before.shelf
  pub unwritten : after.out ≡ before.out

-- how the program ended: with its whole text, at a word that is refused, or because its command stopped
abbrev pub Ends : List (List ℕ) → Outside → Outside → List Fetched → Ending → Type 0
Ends words before after fetches Done = IsFinished words before after fetches
Ends words before after fetches (RefusedWord word) = IsRefusedByWords words before after fetches word
Ends words before after fetches (Stopped reason) = IsStopped words before after fetches reason

-- the errors got this line, or a prefix of it if they failed
abbrev pub GotLine : SinkState → SinkState → List ℕ → Type 0
GotLine err new_err line = (result : Result (Unit {0}) Failed) × Pushed err new_err line result

-- the errors got the line of the ending, and nothing if the run is done
abbrev pub Reports : SinkState → SinkState → Ending → Type 0
Reports err new_err Done = new_err ≡ err
Reports err new_err (RefusedWord word) = GotLine err new_err (word_line word)
Reports err new_err (Stopped reason) = GotLine err new_err (fault_line reason)

-- a run of the program: what it fetched, how it ended, what it reported, and its status
pub record IsRun (words : List (List ℕ)) (before after : Outside) (status : Status) : Type 0 where
  pub fetches : List Fetched
  pub fetched : FetchesEach before.shelf after.shelf fetches
  pub ending : Ending
  pub ends : Ends words before after fetches ending
  pub reports : Reports before.err after.err ending
  pub is_status : status ≡ ending_status ending

-- a run of the program that ended with this number
pub record IsRunTo (words : List (List ℕ)) (before after : Outside) (number : ℕ) : Type 0 where
  pub status : Status
  pub run : IsRun words before after status
  pub is_number : number ≡ status_number status

-- if the words are a command, the fetches of a run are those of its first files, in order and each once
abbrev pub IsOrderly : List (List ℕ) → Outside → Outside → Type 0
IsOrderly words before after =
    (command : PlainAsked) → IsCommand words command → (fetches : List Fetched)
    → after.shelf.log ≡ before.shelf.log ++ fetches → AreInOrder (files_of (job_of command)) fetches

-- the words are a command, and its files have this verdict by the contents that the shelf reports
pub record IsJudgedCommand (words : List (List ℕ)) (shelf : ShelfState) (verdict : FilesVerdict) : Type 0 where
  pub command : PlainAsked
  pub is_command : IsCommand words command
  pub at : List ℕ → Option (List ℕ)
  pub told : shelf.files ≡ Some at
  pub judged : IsJudged at (files_of (job_of command)) verdict

-- A run is done, or memory ran out, if each file is accepted, each element of a world to be generated has room, and
-- neither the shelf nor the output failed.
abbrev pub IsComplete : List (List ℕ) → Outside → Outside → Status → Type 0
IsComplete words before after ended =
    (contents : List FileContent) (is : IsJudgedCommand words before.shelf (AllAccepted contents))
    → HasRoom (job_of is.command)
    → ¬ Rose before.shelf.faults after.shelf.faults → ¬ Rose before.out.faults after.out.faults
    → (ended ≡ status.Done) ⊎ (ended ≡ status.Memory)

-- a run ends as refused input, or memory ran out, if an element of a world to be generated has no room
abbrev pub IsCrowding : List (List ℕ) → Status → Type 0
IsCrowding words ended =
    (command : PlainAsked) (element : ℕ) → IsCommand words command → LacksRoom (job_of command) element
    → (ended ≡ status.Input) ⊎ (ended ≡ status.Memory)

-- a run ends as refused input, or memory ran out, if a file is refused and the shelf didn't fail
abbrev pub IsRefusing : List (List ℕ) → Outside → Outside → Status → Type 0
IsRefusing words before after ended =
    (name : List ℕ) (fault : FileFault) → IsJudgedCommand words before.shelf (FirstRefused name fault)
    → ¬ Rose before.shelf.faults after.shelf.faults → (ended ≡ status.Input) ⊎ (ended ≡ status.Memory)

-- No run ends at a file that was not read, if the shelf reports its contents and is sure of the files up to the first
-- that is refused. If none is refused, it must be sure of all.
abbrev pub NeverUnread : List (List ℕ) → Outside → Status → Type 0
NeverUnread words before ended =
    (verdict : FilesVerdict) (is : IsJudgedCommand words before.shelf verdict) → AreSure before.shelf is.judged.fetches
    → ended ≢ status.Read

-- the words are not a command
abbrev pub IsNoCommand : List (List ℕ) → Type 0
IsNoCommand words = (command : PlainAsked) → ¬ IsCommand words command

-- Everything that is promised of a call of the program with these words. The first field says all of it, and the others
-- follow from it.
pub record EndsAsPromised (given : List (List ℕ)) (before after : Outside) (ended : Status) : Type 0 where
  pub run : IsRun given before after ended
  pub words : (ended ≡ status.Words) ↔ IsNoCommand given
  pub orderly : IsOrderly given before after
  pub complete : IsComplete given before after ended
  pub crowding : IsCrowding given ended
  pub refusing : IsRefusing given before after ended
  pub read : NeverUnread given before ended

-- everything that is promised of a call of the program that returns how its run ended
pub record EndsSo (given : List (List ℕ)) (before after : Outside) (ending : Ending) : Type 0 where
  pub promised : EndsAsPromised given before after (ending_status ending)
  pub is_ending : promised.run.ending ≡ ending
