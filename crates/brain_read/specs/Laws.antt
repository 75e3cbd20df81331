-- Laws of the texts of brains (this project's own).
use Rattle.std.specs.Prelude.{◌≡◌, ◌⊎◌, ℕ, List}
use Rattle.std.specs.List.{AllByRecursion}
use Rattle.brain_read.specs.declared.fault.BrainFault.{BrainFault}
use Rattle.brain_read.specs.declared.fault.BrainFault.TheVariants.{OutOfMemory}
use Rattle.brain_read.specs.declared.instr.Instr.{Instr}
use Rattle.brain_read.specs.Soundness.{IsBrain}
use Rattle.brain_read.specs.Forms.{HasBound}
use Rattle.brain_read.specs.Grammar.{IsBrainText}
use Rattle.brain_read.specs.Faulty.{IsBrainFault}
use Rattle.brain_read.specs.Canonical.{brain_text}

-- every text has one brain or one fault, and never both
pub record OneBrainOrOneFault : Type 0 where
  pub some : (text : List ℕ)
      → ((brain : List Instr) × IsBrainText text brain) ⊎ ((fault : BrainFault) × IsBrainFault text fault)
  pub one_brain : (text : List ℕ) (a b : List Instr) → IsBrainText text a → IsBrainText text b → a ≡ b
  pub one_fault : (text : List ℕ) (a b : BrainFault) → IsBrainFault text a → IsBrainFault text b → a ≡ b
  pub never_both : (text : List ℕ) (brain : List Instr) (fault : BrainFault) → IsBrainText text brain
      → IsBrainFault text fault → ⊥

-- the canonical text of a brain whose bounds are at most the largest is a text of that brain
abbrev pub CanonicalTextIsRead : Type 0
CanonicalTextIsRead =
    (brain : List Instr) → IsBrain brain → AllByRecursion HasBound brain → IsBrainText (brain_text brain) brain

-- whatever a text is a text of is a brain: 1 to 10,000 instructions, whose states are below their number, whose markers
-- are below 6 and whose bounds are at least 1
abbrev pub TextsMakeBrains : Type 0
TextsMakeBrains = (text : List ℕ) (brain : List Instr) → IsBrainText text brain → IsBrain brain

-- out of memory is never the fault of a text
abbrev pub NoTextWantsMemory : Type 0
NoTextWantsMemory = (text : List ℕ) → ¬ IsBrainFault text OutOfMemory
