-- What the private functions that fetch, read and carry out ensure.
use Rattle.std.specs.Prelude.{◌≡◌, ℕ, List, [], ◌∷◌, Option, Some, None, Result, Ok, Err, Vec}
use Rattle.ant_base.specs.Faults.{Rose}
use Rattle.ant_base.specs.Fetched.{Fetched}
use Rattle.ant_base.specs.Shelf.{Fetches, FetchesEach, ShelfState}
use Rattle.ant_base.specs.Sink.{SinkState}
use Rattle.ant_base.specs.declared.shelf.FetchFault.{FetchFault}
use Rattle.ant_base.specs.declared.shelf.FetchFault.TheVariants as answer
use Rattle.ant_base.specs.declared.sink.Failed.{Failed}
use Rattle.break_view.specs.declared.fault.BreakFault.{BreakFault}
use Rattle.break_view.specs.declared.fault.BreakFault.TheVariants as breaks
use Rattle.ant_commands.specs.Job.{Job}
use Rattle.text_fault.specs.declared.fault.TextFault.TheVariants.{TooLong}
use Rattle.text_fault.specs.declared.stop.TextStop.{TextStop}
use Rattle.text_fault.specs.declared.stop.TextStop.TheVariants as text
use Rattle.ant_commands.specs.declared.stop.FileFault.TheVariants.{Breaks, Text}
use Rattle.ant_commands.specs.declared.stop.CommandStop.{CommandStop}
use Rattle.ant_commands.specs.Files.{File, FileKind, FileContent, AreAccepted, AreBegun, Reads, Refuses, StopsAt}
use Rattle.ant_commands.specs.Verdict.{IsRefusedAs}
use Rattle.ant_commands.specs.Outside.{Outside, outside_of}
use Rattle.ant_commands.specs.Endings.{IsDone, IsUnsure, StopsFor}
use Rattle.ant_commands.specs.Run.{Ends}
use Rattle.ant_commands.specs.FaultLines.{Ending, Reason, reason_of}
use Rattle.ant_commands.specs.FaultLines.Reason.{AtFile, AtOutput, AtInput, AtMemory}

-- the result of reading some files: their contents, or why the reading stopped
pub data ReadOutcome : Type 0 where
  Contents : List FileContent → ReadOutcome
  Stopped : Reason → ReadOutcome

-- the outcome of a call that returns a value read from some files
abbrev pub outcome_of : {A : Type 0} → (A → List FileContent) → Result A CommandStop → ReadOutcome
outcome_of contents_of (Ok value) = Contents (contents_of value)
outcome_of contents_of (Err stop) = Stopped (reason_of stop)

-- one of the files was not read, and the shelf's count of faults rose
pub record FailsAt (shelf new_shelf : ShelfState) (files : List File) (fetches : List Fetched)
    (name : List ℕ) : Type 0 where
  pub stopped : StopsAt (IsUnsure shelf name) files fetches
  pub rose : Rose shelf.faults new_shelf.faults

-- why the reading of files stopped
abbrev pub ReadingStops : ShelfState → ShelfState → List File → List Fetched → Reason → Type 0
ReadingStops shelf new_shelf files fetches (AtFile name) = FailsAt shelf new_shelf files fetches name
ReadingStops shelf new_shelf files fetches (AtInput name fault) = StopsAt (IsRefusedAs name fault) files fetches
ReadingStops shelf new_shelf files fetches AtMemory = AreBegun files fetches
-- never: files are read before a world is generated, and before anything is written
ReadingStops shelf new_shelf files fetches reason = ⊥

-- the reading of files had this outcome
abbrev pub ComesTo : ShelfState → ShelfState → List File → List Fetched → ReadOutcome → Type 0
ComesTo shelf new_shelf files fetches (Contents contents) = AreAccepted files fetches contents
ComesTo shelf new_shelf files fetches (Stopped reason) = ReadingStops shelf new_shelf files fetches reason

-- these files were fetched and read, with this outcome
pub record ReadsFiles (shelf new_shelf : ShelfState) (files : List File) (outcome : ReadOutcome) : Type 0 where
  pub fetches : List Fetched
  pub fetched : FetchesEach shelf new_shelf fetches
  pub comes : ComesTo shelf new_shelf files fetches outcome

-- a file was fetched, or its reading stopped there, whatever its kind
abbrev pub FetchesFile : {A : Type 0} → ShelfState → ShelfState → List ℕ → Result (Vec ℕ A) CommandStop → Type 0
FetchesFile {A} shelf new_shelf name (Ok bytes) = Fetches {A = A} shelf new_shelf name (Ok bytes)
FetchesFile shelf new_shelf name (Err stop) =
    (kind : FileKind) → ReadsFiles shelf new_shelf (record { name = name; kind = kind } ∷ []) (Stopped (reason_of stop))

-- why a command stops at a fetch
abbrev pub fetch_reason : List ℕ → FetchFault → Reason
fetch_reason name answer.Failed = AtFile name
fetch_reason name answer.TooLong = AtInput name (Text TooLong)
fetch_reason name answer.OutOfMemory = AtMemory

-- why a command stops at a text that isn't opened
abbrev pub text_reason : List ℕ → TextStop → Reason
text_reason name text.OutOfMemory = AtMemory
text_reason name (text.Refused fault) = AtInput name (Text fault)

-- the content of an opened text, or why a command stops at the file with this name
abbrev pub IsNamed : {V : Type 0} → List ℕ → Result V TextStop → Result V CommandStop → Type 0
IsNamed name (Ok value) (Ok named) = named ≡ value
IsNamed name (Err stop) (Err why) = reason_of why ≡ text_reason name stop
IsNamed name opened result = ⊥

-- why a command stops at the text of breaks
abbrev pub break_reason : List ℕ → BreakFault → Reason
break_reason name breaks.OutOfMemory = AtMemory
break_reason name fault = AtInput name (Breaks fault)

-- why reading the bytes of a file of this kind and name stopped
abbrev pub TextStops : FileKind → List ℕ → List ℕ → Reason → Type 0
TextStops kind bytes name (AtInput other fault) = (other ≡ name) × Refuses kind bytes fault
TextStops kind bytes name AtMemory = Unit {0}
-- never: the bytes have been fetched
TextStops kind bytes name reason = ⊥

-- the result of reading the bytes of a file: its content, or why it stopped
abbrev pub ReadsText : {A : Type 0} → (A → FileContent) → FileKind → List ℕ → List ℕ → Result A CommandStop → Type 0
ReadsText content_of kind bytes name (Ok value) = Reads kind bytes (content_of value)
ReadsText content_of kind bytes name (Err stop) = TextStops kind bytes name (reason_of stop)

-- why a command with this result stopped, if it stopped
abbrev pub ending_of : {U : Type 0} → Result U CommandStop → Option Reason
ending_of (Ok done) = None
ending_of (Err stop) = Some (reason_of stop)

-- why a command stopped, if it did; the last thing that it does is to push its text
abbrev pub push_ending : {U : Type 0} → Result U Failed → Option Reason
push_ending (Ok done) = None
push_ending (Err failed) = Some AtOutput

-- how a command ended: with its text, or for a reason
abbrev pub EndsBy : Job → Outside → Outside → List Fetched → Option Reason → Type 0
EndsBy command before after fetches None = IsDone command before after fetches
EndsBy command before after fetches (Some reason) = StopsFor command before after fetches reason

-- A command was carried out, with this ending. It uses only the shelf and the output, so the errors may hold anything.
pub record CarriesOut (command : Job) (shelf new_shelf : ShelfState) (out new_out : SinkState)
    (stop : Option Reason) : Type 0 where
  pub fetches : List Fetched
  pub fetched : FetchesEach shelf new_shelf fetches
  pub ends : (err new_err : SinkState)
      → EndsBy command (outside_of shelf out err) (outside_of new_shelf new_out new_err) fetches stop

-- words were carried out, with this ending, whatever the errors hold
pub record CarriesOutWords (words : List (List ℕ)) (shelf new_shelf : ShelfState) (out new_out : SinkState)
    (ending : Ending) : Type 0 where
  pub fetches : List Fetched
  pub fetched : FetchesEach shelf new_shelf fetches
  pub ends : (err new_err : SinkState)
      → Ends words (outside_of shelf out err) (outside_of new_shelf new_out new_err) fetches ending
