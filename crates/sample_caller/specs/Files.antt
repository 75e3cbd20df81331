-- The result for a file, which is fetched once: its bytes are those of a world or of a brain, or the file is refused
-- (this project's own).
use Rattle.std.specs.Prelude.{◌≡◌, ℕ, ◌≤◌, List, [], ◌∷◌, ◌++◌, length, Result, Ok, Err, Vec, codes}
use Rattle.ant_base.specs.Fetched.{Fetched}
use Rattle.ant_base.specs.FaultText.{fetch_fault_text}
use Rattle.ant_base.specs.Layout.{◌+++◌}
use Rattle.ant_base.specs.Shelf.{longest}
use Rattle.ant_base.specs.declared.shelf.FetchFault.{FetchFault}
use Rattle.brain_read.specs.Grammar.{IsBrainText}
use Rattle.brain_read.specs.declared.instr.Instr.{Instr}
use Rattle.cell_world.specs.Grid.{Grid}
use Rattle.text_fault.specs.declared.fault.TextFault.{TextFault}
use Rattle.text_fault.specs.declared.stop.TextStop.{TextStop}
use Rattle.text_fault.specs.FaultText.{text_stop_text}
use Rattle.text_fault.specs.Opens.{Opens}
use Rattle.text_fault.specs.Refusals.{IsNoBrain, IsNoWorld}
use Rattle.world_read.specs.Opened.{OpensAs}
use Rattle.sample_caller.specs.declared.refusal.FileFault.{FileFault}
use Rattle.sample_caller.specs.declared.refusal.FileFault.TheVariants.{Fetch, Text}
use Rattle.sample_caller.specs.declared.refusal.Refusal.{Refusal}

-- the text of a file's fault
abbrev pub file_fault_text : FileFault → List ℕ
file_fault_text (Fetch fault) = fetch_fault_text fault
file_fault_text (Text stop) = text_stop_text stop

-- the text for a refused file: its name, and the text of its fault
abbrev pub refusal_text : List ℕ → FileFault → List ℕ
refusal_text name fault = name +++ codes ": " +++ file_fault_text fault

-- one more fetch is in the log: it is of this name, with this answer
abbrev pub IsFetched : List Fetched → List Fetched → List ℕ → Result (List ℕ) FetchFault → Type 0
IsFetched log new_log name answer = new_log ≡ log ++ record { name = name; answer = answer } ∷ []

-- a file gave no bytes; the refusal has its name, and the reason
pub record IsUnfetched (log new_log : List Fetched) (name : List ℕ) (refusal : Refusal) : Type 0 where
  pub why : FetchFault
  pub fetched : IsFetched log new_log name (Err why)
  pub named : refusal.name.now ≡ name
  pub fault : refusal.fault ≡ Fetch why

-- a file was fetched: its bytes, or the refusal if there are none
abbrev pub FetchesFile : {A : Type 0} → List Fetched → List Fetched → List ℕ → Result (Vec ℕ A) Refusal → Type 0
FetchesFile log new_log name (Ok bytes) = IsFetched log new_log name (Ok bytes.items) × (length bytes.items ≤ longest)
FetchesFile log new_log name (Err refusal) = IsUnfetched log new_log name refusal

-- the value as which bytes were opened; or, if they weren't opened, the refusal of the file with this name
abbrev pub IsNamed : {V : Type 0} → List ℕ → Result V TextStop → Result V Refusal → Type 0
IsNamed name (Ok value) (Ok named) = named ≡ value
IsNamed name (Err stop) (Err refusal) = (refusal.name.now ≡ name) × (refusal.fault ≡ Text stop)
IsNamed name opened result = ⊥

-- the result for a file: it was not fetched, or its bytes were opened
pub data ReadsFile {V : Type 0} (Is : List ℕ → V → Type 0) (Wrong : List ℕ → TextFault → Type 0)
    (log new_log : List Fetched) (name : List ℕ) : Result V Refusal → Type 0 where
  Unfetched : (refusal : Refusal) → IsUnfetched log new_log name refusal
      → ReadsFile Is Wrong log new_log name (Err refusal)
  Opened : (bytes : List ℕ) (opened : Result V TextStop) (result : Result V Refusal)
      → IsFetched log new_log name (Ok bytes) → Opens Is Wrong bytes opened → IsNamed name opened result
      → ReadsFile Is Wrong log new_log name result

-- the result for the file of a world, and of a brain
abbrev pub ReadsWorld : List Fetched → List Fetched → List ℕ → Result Grid Refusal → Type 0
ReadsWorld = ReadsFile OpensAs IsNoWorld

abbrev pub ReadsBrain : List Fetched → List Fetched → List ℕ → Result (List Instr) Refusal → Type 0
ReadsBrain = ReadsFile IsBrainText IsNoBrain
