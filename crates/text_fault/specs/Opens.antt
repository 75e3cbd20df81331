-- The result of opening a text (this project's own).
use Rattle.std.specs.Prelude.{ℕ, ◌≤◌, List, length, Result, Ok, Err}
use Rattle.ant_asm.specs.Answers.{IsAssembledText}
use Rattle.ant_asm.specs.declared.assembly.Assembled.{Assembled}
use Rattle.ant_base.specs.Shelf.{longest}
use Rattle.brain_read.specs.Grammar.{IsBrainText}
use Rattle.brain_read.specs.declared.instr.Instr.{Instr}
use Rattle.cell_world.specs.Grid.{Grid}
use Rattle.match_save.specs.Saved.{IsSaveText, SavedValue}
use Rattle.world_read.specs.Opened.{OpensAs}
use Rattle.text_fault.specs.declared.fault.TextFault.{TextFault}
use Rattle.text_fault.specs.declared.stop.TextStop.{TextStop}
use Rattle.text_fault.specs.declared.stop.TextStop.TheVariants.{OutOfMemory, Refused}
use Rattle.text_fault.specs.Refusals.{IsRefusal}

-- the text isn't too long, and is a text of this value
pub record Gives {V : Type 0} (Is : List ℕ → V → Type 0) (text : List ℕ) (value : V) : Type 0 where
  pub short : length text ≤ longest
  pub is : Is text value

-- the text isn't too long, and is that of this opening world, or of this brain
abbrev pub GivesWorld : List ℕ → Grid → Type 0
GivesWorld = Gives OpensAs

abbrev pub GivesBrain : List ℕ → List Instr → Type 0
GivesBrain = Gives IsBrainText

-- a text is that of a labelled program with this brain and these places
abbrev pub IsProgramOf : List ℕ → Assembled → Type 0
IsProgramOf text made = IsAssembledText text made.brain made.places

-- a text is that of this save, which has at most this many rounds done
abbrev pub IsSaveWithin : ℕ → List ℕ → SavedValue → Type 0
IsSaveWithin rounds text saved = IsSaveText text saved × (saved.round ≤ rounds)

-- The result of opening a text: its value, or a fault for which it is refused. Out of memory says nothing about the
-- text.
abbrev pub Opens : {V : Type 0} → (List ℕ → V → Type 0) → (List ℕ → TextFault → Type 0) → List ℕ → Result V TextStop
    → Type 0
Opens Is Wrong text (Ok value) = Gives Is text value
Opens Is Wrong text (Err OutOfMemory) = Unit {0}
Opens Is Wrong text (Err (Refused fault)) = IsRefusal Wrong text fault
