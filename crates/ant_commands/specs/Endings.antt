-- How a command ends, by the fetches that it made.
use Rattle.std.specs.Prelude.{◌≡◌, ◌⊎◌, ℕ, false, List, Err}
use Rattle.ant_base.specs.Faults.{Rose}
use Rattle.ant_base.specs.Fetched.{Fetched}
use Rattle.ant_base.specs.Shelf.{ShelfState}
use Rattle.ant_base.specs.Sink.{PushedAll, PushedFront}
use Rattle.ant_base.specs.declared.shelf.FetchFault.TheVariants as answer
use Rattle.ant_commands.specs.Job.{IsJobText, Job, LacksRoom, WritesInPlay, files_of}
use Rattle.match_run.specs.Play.{PushedProperPrefix}
use Rattle.ant_commands.specs.declared.stop.FileFault.{FileFault}
use Rattle.ant_commands.specs.Files.{File, FileContent, AreAccepted, AreBegun, StopsAt}
use Rattle.ant_commands.specs.Verdict.{IsRefusedAs}
use Rattle.ant_commands.specs.Outside.{Outside}
use Rattle.ant_commands.specs.FaultLines.{Reason}
use Rattle.ant_commands.specs.FaultLines.Reason.{AtFile, AtOutput, AtInput, AtRoom, AtMemory}

-- all files were accepted, and the whole text was written
pub record IsDone (command : Job) (before after : Outside) (fetches : List Fetched) : Type 0 where
  pub contents : List FileContent
  pub accepted : AreAccepted (files_of command) fetches contents
  pub text : List ℕ
  pub is_text : IsJobText command contents text
  pub written : PushedAll before.out after.out text

-- all files were accepted, and a prefix of the text was written before the output failed
pub record IsCut (command : Job) (before after : Outside) (fetches : List Fetched) : Type 0 where
  pub contents : List FileContent
  pub accepted : AreAccepted (files_of command) fetches contents
  pub text : List ℕ
  pub is_text : IsJobText command contents text
  pub cut : PushedFront before.out after.out text

-- the file has this name, its fetch failed, and the shelf wasn't sure of it
pub record IsUnsure (shelf : ShelfState) (name : List ℕ) (file : File) (fetch : Fetched) : Type 0 where
  pub named : file.name ≡ name
  pub failed : fetch ≡ record { name = file.name; answer = Err answer.Failed }
  pub unsure : shelf.sure name ≡ false

-- A file was not read: its fetch failed, and the shelf's count of faults rose. Each file before it was accepted.
-- Nothing was written.
pub record IsUnread (command : Job) (before after : Outside) (fetches : List Fetched) (name : List ℕ) : Type 0 where
  pub stopped : StopsAt (IsUnsure before.shelf name) (files_of command) fetches
  pub rose : Rose before.shelf.faults after.shelf.faults
  pub unwritten : after.out ≡ before.out

-- A file was refused. Each file before it was accepted. Nothing was written.
pub record IsBadInput (command : Job) (before after : Outside) (fetches : List Fetched) (name : List ℕ)
    (fault : FileFault) : Type 0 where
  pub stopped : StopsAt (IsRefusedAs name fault) (files_of command) fetches
  pub unwritten : after.out ≡ before.out

-- all files were accepted, an element of the world to be generated has no room, and nothing was written
pub record IsCrowded (command : Job) (before after : Outside) (fetches : List Fetched) (element : ℕ) : Type 0 where
  pub contents : List FileContent
  pub accepted : AreAccepted (files_of command) fetches contents
  pub lacks : LacksRoom command element
  pub unwritten : after.out ≡ before.out

-- Memory ran out before the text was begun. No fetch failed or was too long. Each fetched file, except perhaps the
-- last, was accepted. Nothing was written.
pub record IsUnbegun (command : Job) (before after : Outside) (fetches : List Fetched) : Type 0 where
  pub begun : AreBegun (files_of command) fetches
  pub unwritten : after.out ≡ before.out

-- All files were accepted, and a proper prefix of the text was written before memory ran out. Only a command that
-- writes while it plays can end in this way.
pub record IsBrokenOff (command : Job) (before after : Outside) (fetches : List Fetched) : Type 0 where
  pub contents : List FileContent
  pub accepted : AreAccepted (files_of command) fetches contents
  pub text : List ℕ
  pub is_text : IsJobText command contents text
  pub broken : PushedProperPrefix before.out after.out text
  pub in_play : WritesInPlay command contents broken.front

-- memory ran out
abbrev pub WantsMemory : Job → Outside → Outside → List Fetched → Type 0
WantsMemory command before after fetches =
    IsUnbegun command before after fetches ⊎ IsBrokenOff command before after fetches

-- how a command stopped
abbrev pub StopsFor : Job → Outside → Outside → List Fetched → Reason → Type 0
StopsFor command before after fetches (AtFile name) = IsUnread command before after fetches name
StopsFor command before after fetches AtOutput = IsCut command before after fetches
StopsFor command before after fetches (AtInput name fault) = IsBadInput command before after fetches name fault
StopsFor command before after fetches (AtRoom element) = IsCrowded command before after fetches element
StopsFor command before after fetches AtMemory = WantsMemory command before after fetches
