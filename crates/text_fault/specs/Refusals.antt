-- Why a text is refused (this project's own).
use Rattle.std.specs.Prelude.{◌≡◌, ℕ, ◌<◌, ◌≤◌, ◌⊎◌, List, length}
use Rattle.ant_asm.specs.Text.{IsAsmFault}
use Rattle.ant_base.specs.Shelf.{longest}
use Rattle.brain_read.specs.Faulty.{IsBrainFault}
use Rattle.match_save.specs.Faulty.{IsSaveFault}
use Rattle.match_save.specs.Saved.{IsSaveText, SavedValue}
use Rattle.world_read.specs.Faulty.{IsWorldFault}
use Rattle.text_fault.specs.declared.fault.TextFault.{TextFault}
use Rattle.text_fault.specs.declared.fault.TextFault.TheVariants.{TooLong, World, Brain, Labelled, Save, AlreadyAt}

-- the fault is one of the text's reader
pub record IsReadersFault {F : Type 0} (wrap : F → TextFault) (IsFault : List ℕ → F → Type 0) (text : List ℕ)
    (fault : TextFault) : Type 0 where
  pub why : F
  pub is : IsFault text why
  pub told : fault ≡ wrap why

-- a text is not a world, not a brain, not a labelled program
abbrev pub IsNoWorld : List ℕ → TextFault → Type 0
IsNoWorld = IsReadersFault World IsWorldFault

abbrev pub IsNoBrain : List ℕ → TextFault → Type 0
IsNoBrain = IsReadersFault Brain IsBrainFault

abbrev pub IsNoProgram : List ℕ → TextFault → Type 0
IsNoProgram = IsReadersFault Labelled IsAsmFault

-- a text is that of a save with more than this many rounds done; the fault says how many are done
pub record IsPast (rounds : ℕ) (text : List ℕ) (fault : TextFault) : Type 0 where
  pub saved : SavedValue
  pub is : IsSaveText text saved
  pub past : rounds < saved.round
  pub told : fault ≡ AlreadyAt saved.round

-- a text is not a save, or is a save with more than this many rounds done
abbrev pub IsNoSave : ℕ → List ℕ → TextFault → Type 0
IsNoSave rounds text fault = IsReadersFault Save IsSaveFault text fault ⊎ IsPast rounds text fault

-- A text is refused for this fault. Either the text is too long to be read, and that is the fault. Or it isn't too
-- long, and this is wrong with it.
pub data IsRefusal (Wrong : List ℕ → TextFault → Type 0) (text : List ℕ) (fault : TextFault) : Type 0 where
  Long : longest < length text → fault ≡ TooLong → IsRefusal Wrong text fault
  Bad : length text ≤ longest → Wrong text fault → IsRefusal Wrong text fault
