-- What a caller gets for a refusal (this project's own).
use Rattle.std.specs.Prelude.{◌≡◌, ℕ, List, Result, Ok, Err}
use Rattle.text_fault.specs.declared.stop.TextStop.{TextStop}
use Rattle.text_fault.specs.declared.stop.TextStop.TheVariants as text
use Rattle.ants_c.specs.Numbers.{numbers_of}
use Rattle.ants_c.specs.Rooms.{counted, overlaid}
use Rattle.ants_c.specs.Words.{fault_words}
use Rattle.ants_c.specs.declared.fault.AntsFault.{AntsFault}
use Rattle.ant_commands.specs.declared.stop.FileFault.TheVariants.{Text}
use Rattle.ants_c.specs.declared.refusal.CallFault.TheVariants.{File}
use Rattle.ants_c.specs.declared.refusal.Refusal.{Refusal}
use Rattle.ants_c.specs.declared.refusal.Stop.{Stop}
use Rattle.ants_c.specs.declared.refusal.Stop.TheVariants.{OutOfMemory, Refused}

-- a refusal in numbers: which text, the numbers of its fault, and how many bytes its words have
abbrev pub told_fault : Refusal → AntsFault
told_fault refusal = record {
  text = refusal.text;
  kind = (numbers_of refusal.fault).kind;
  line = (numbers_of refusal.fault).line;
  column = (numbers_of refusal.fault).column;
  number = (numbers_of refusal.fault).number;
  words = counted (fault_words refusal.fault);
}

-- a refusal with this property was written: in numbers, and in words over the room for them
pub record IsTold (Why : Refusal → Type 0) (fault : AntsFault) (before after : List ℕ) : Type 0 where
  pub refusal : Refusal
  pub is : Why refusal
  pub numbers : fault ≡ told_fault refusal
  pub words : after ≡ overlaid before (fault_words refusal.fault)

-- Why texts were not read. A refusal has this property. Out of memory says nothing about a text.
abbrev pub StopsAt : (Refusal → Type 0) → Stop → Type 0
StopsAt Why OutOfMemory = Unit {0}
StopsAt Why (Refused refusal) = Why refusal

-- the content of the opened text with this number, or why a call stops at it
abbrev pub numbered : {V : Type 0} → ℕ → Result V TextStop → Result V Stop
numbered number (Ok value) = Ok value
numbered number (Err text.OutOfMemory) = Err OutOfMemory
numbered number (Err (text.Refused fault)) = Err (Refused (record { text = number; fault = File (Text fault) }))

-- the status of a stopped call, and what the call does to the caller's fault and room for words
abbrev pub IsStopped : Stop → ℕ → AntsFault → AntsFault → List ℕ → List ℕ → Type 0
IsStopped OutOfMemory status fault told before after = (status ≡ 6) × (told ≡ fault) × (after ≡ before)
IsStopped (Refused refusal) status fault told before after =
    (status ≡ 5) × (told ≡ told_fault refusal) × (after ≡ overlaid before (fault_words refusal.fault))
