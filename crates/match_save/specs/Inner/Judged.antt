-- The results of judging the lines of a save.
use Rattle.std.specs.Prelude.{◌≡◌, List, length, Result, Ok, Err, ℕ}
use Rattle.brain_read.specs.declared.instr.Instr.{Instr}
use Rattle.brain_read.specs.Grammar.{StatesBelow}
use Rattle.cell_world.specs.Grid.{Grid}
use Rattle.match_save.specs.declared.fault.SaveFault.{SaveFault}
use Rattle.match_save.specs.declared.fault.SaveFault.TheVariants.{BadLine, BadState, OutOfMemory}
use Rattle.ant_base.specs.Answers.{IsFaultOr}
use Rattle.match_save.specs.Faulty.{IsSaveFault}
use Rattle.match_save.specs.Draft.{Draft}
use Rattle.match_save.specs.Saved.{IsSaveText, SavedValue, saved_of}
use Rattle.match_save.specs.State.{IsState, grid_of_draft}
use Rattle.match_save.specs.Inner.State.{HasWorld}

-- what is refused is impossible; out of memory says nothing
abbrev pub Refutes : Type 0 → SaveFault → Type 0
Refutes P (BadLine line) = ⊥
Refutes P BadState = P → ⊥
Refutes P OutOfMemory = Unit {0}

-- the brain of instructions, whose states are below their number
abbrev pub SettlesAs : {V : Type 0} → (V → List Instr) → List Instr → Result V SaveFault → Type 0
SettlesAs view list (Ok settled) = (view settled ≡ list) × StatesBelow (length list) list
SettlesAs view list (Err fault) = Refutes (StatesBelow (length list) list) fault

-- the world of a state
abbrev pub JudgesWorld : Draft → Result Grid SaveFault → Type 0
JudgesWorld d (Ok world) = HasWorld d × (world ≡ grid_of_draft d)
JudgesWorld d (Err fault) = Refutes (IsState d) fault

-- the save of a state
abbrev pub Judges : Draft → Result SavedValue SaveFault → Type 0
Judges d (Ok saved) = IsState d × (saved ≡ saved_of d)
Judges d (Err fault) = Refutes (IsState d) fault

-- the save of a text, or the text's fault
abbrev pub ReadsSave : List ℕ → Result SavedValue SaveFault → Type 0
ReadsSave text (Ok saved) = IsSaveText text saved
ReadsSave text (Err fault) = IsFaultOr OutOfMemory (IsSaveFault text) fault
