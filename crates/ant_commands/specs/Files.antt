-- The files of a command, and how they are accepted.
use Rattle.std.specs.Prelude.{◌≡◌, ℕ, Bool, true, false, List, [], ◌∷◌, ◌++◌, map, Ok, Err, ◌⊎◌}
use Rattle.ant_asm.specs.Answers.{IsAssembledText}
use Rattle.ant_asm.specs.Places.{Address}
use Rattle.ant_asm.specs.Source.{IsSourceOf, ReadSource}
use Rattle.ant_base.specs.Fetched.{Fetched}
use Rattle.ant_base.specs.declared.shelf.FetchFault.TheVariants as answer
use Rattle.brain_read.specs.declared.instr.Instr.{Instr}
use Rattle.brain_read.specs.Grammar.{IsBrainText}
use Rattle.break_view.specs.Grammar.{IsBreakText}
use Rattle.break_view.specs.Faulty.{IsBreakFault}
use Rattle.break_view.specs.declared.breaks.Break.{Break}
use Rattle.cell_world.specs.Grid.{Grid}
use Rattle.match_save.specs.Saved.{SavedValue}
use Rattle.text_fault.specs.Opens.{IsSaveWithin}
use Rattle.text_fault.specs.Refusals.{IsNoBrain, IsNoProgram, IsNoSave, IsNoWorld}
use Rattle.text_fault.specs.declared.fault.TextFault.TheVariants.{TooLong}
use Rattle.world_read.specs.Opened.{OpensAs}
use Rattle.ant_commands.specs.declared.stop.FileFault.{FileFault}
use Rattle.ant_commands.specs.declared.stop.FileFault.TheVariants.{Breaks, Text}

-- What a file is read as. A labelled program is read for its brain, or for its labels and states. A save must have at
-- most this many rounds done.
pub data FileKind : Type 0 where
  WorldFile : FileKind
  BrainFile : FileKind
  BreakFile : FileKind
  LabelledFile : (source : Bool) → FileKind
  SaveFile : (rounds : ℕ) → FileKind

-- a file that a command names
pub record File : Type 0 where
  pub name : List ℕ
  pub kind : FileKind

-- what was read from a file
pub data FileContent : Type 0 where
  WorldContent : Grid → FileContent
  BrainContent : List Instr → FileContent
  BreakContent : List Break → FileContent
  -- a labelled program: its brain, and the address of each of the brain's instructions
  LabelledContent : (brain : List Instr) → (places : List Address) → FileContent
  -- a labelled program: its labels, each with the state to which it leads, and the line of each state
  SourceContent : ReadSource → FileContent
  SaveContent : SavedValue → FileContent

-- bytes are read as this content in a file of this kind
abbrev pub Reads : FileKind → List ℕ → FileContent → Type 0
Reads WorldFile bytes (WorldContent grid) = OpensAs bytes grid
Reads BrainFile bytes (BrainContent list) = IsBrainText bytes list
Reads BreakFile bytes (BreakContent items) = IsBreakText bytes items
Reads (LabelledFile false) bytes (LabelledContent brain places) = IsAssembledText bytes brain places
Reads (LabelledFile true) bytes (SourceContent source) = IsSourceOf bytes source
Reads (SaveFile rounds) bytes (SaveContent saved) = IsSaveWithin rounds bytes saved
Reads kind bytes content = ⊥

-- bytes have this fault in a file of this kind
abbrev pub Refuses : FileKind → List ℕ → FileFault → Type 0
Refuses WorldFile bytes (Text fault) = IsNoWorld bytes fault
Refuses BrainFile bytes (Text fault) = IsNoBrain bytes fault
Refuses BreakFile bytes (Breaks fault) = IsBreakFault bytes fault
Refuses (LabelledFile source) bytes (Text fault) = IsNoProgram bytes fault
Refuses (SaveFile rounds) bytes (Text fault) = IsNoSave rounds bytes fault
Refuses kind bytes fault = ⊥

-- the file was fetched, and its bytes are read as this content
pub record IsAccepted (file : File) (fetch : Fetched) (content : FileContent) : Type 0 where
  pub bytes : List ℕ
  pub got : fetch ≡ record { name = file.name; answer = Ok bytes }
  pub reads : Reads file.kind bytes content

-- the file was fetched; its bytes are not in its grammar, and have this fault
pub record IsNoText (file : File) (fetch : Fetched) (fault : FileFault) : Type 0 where
  pub bytes : List ℕ
  pub got : fetch ≡ record { name = file.name; answer = Ok bytes }
  pub refuses : Refuses file.kind bytes fault

-- the file was fetched and is refused with this fault: it is too long, or its bytes are not in its grammar
abbrev pub IsRefused : File → Fetched → FileFault → Type 0
IsRefused file fetch fault =
    ((fault ≡ Text TooLong) × (fetch ≡ record { name = file.name; answer = Err answer.TooLong }))
    ⊎ IsNoText file fetch fault

-- the files were fetched, each once and in order, and accepted as these contents
abbrev pub AreAccepted : List File → List Fetched → List FileContent → Type 0
AreAccepted [] fetches contents = (fetches ≡ []) × (contents ≡ [])
AreAccepted (file ∷ files) [] contents = ⊥
AreAccepted (file ∷ files) (fetch ∷ fetches) [] = ⊥
AreAccepted (file ∷ files) (fetch ∷ fetches) (content ∷ contents) =
    IsAccepted file fetch content × AreAccepted files fetches contents

-- The files were fetched, each once and in order, up to one for which `IsSuch` holds. Each file before it was accepted.
-- No file after it was fetched.
abbrev pub StopsAt : (File → Fetched → Type 0) → List File → List Fetched → Type 0
StopsAt IsSuch [] fetches = ⊥
StopsAt IsSuch (file ∷ files) [] = ⊥
StopsAt IsSuch (file ∷ files) (fetch ∷ fetches) =
    (IsSuch file fetch × (fetches ≡ []))
    ⊎ ((content : FileContent) × IsAccepted file fetch content × StopsAt IsSuch files fetches)

-- the file was fetched: its bytes were returned, or memory ran out
abbrev pub IsFetched : File → Fetched → Type 0
IsFetched file fetch =
    ((bytes : List ℕ) × (fetch ≡ record { name = file.name; answer = Ok bytes }))
    ⊎ (fetch ≡ record { name = file.name; answer = Err answer.OutOfMemory })

-- The fetches are those of the first files of the list, each once and in order. Each fetched file, except perhaps the
-- last, was accepted. No fetch failed or was too long.
abbrev pub AreBegun : List File → List Fetched → Type 0
AreBegun [] fetches = fetches ≡ []
AreBegun (file ∷ files) [] = Unit {0}
AreBegun (file ∷ files) (fetch ∷ fetches) =
    (IsFetched file fetch × (fetches ≡ []))
    ⊎ ((content : FileContent) × IsAccepted file fetch content × AreBegun files fetches)

-- the fetched names are those of the first of these files, in order and each once
pub record AreInOrder (files : List File) (fetches : List Fetched) : Type 0 where
  pub left : List (List ℕ)
  pub in_order : map (λ (file : File). file.name) files ≡ map (λ (fetch : Fetched). fetch.name) fetches ++ left
