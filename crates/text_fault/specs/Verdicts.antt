-- Each text is read in one way, or refused in one way (this project's own).
use Rattle.std.specs.Prelude.{◌≡◌, ◌⊎◌, ℕ, List}
use Rattle.ant_asm.specs.Source.{IsSourceOf}
use Rattle.brain_read.specs.Grammar.{IsBrainText}
use Rattle.world_read.specs.Opened.{OpensAs}
use Rattle.text_fault.specs.declared.fault.TextFault.{TextFault}
use Rattle.text_fault.specs.Opens.{IsProgramOf, IsSaveWithin}
use Rattle.text_fault.specs.Refusals.{IsNoBrain, IsNoProgram, IsNoSave, IsNoWorld}

-- a text has exactly one value, or exactly one fault, and never both
pub record HasOneVerdict {V : Type 0} (Is : List ℕ → V → Type 0) (Wrong : List ℕ → TextFault → Type 0)
    (text : List ℕ) : Type 0 where
  pub some : ((value : V) × Is text value) ⊎ ((fault : TextFault) × Wrong text fault)
  pub one_value : (a b : V) → Is text a → Is text b → a ≡ b
  pub one_fault : (a b : TextFault) → Wrong text a → Wrong text b → a ≡ b
  pub never_both : (value : V) (fault : TextFault) → Is text value → Wrong text fault → ⊥

-- this holds for worlds, for brains, for labelled programs with their brain or with their labels and states, and for
-- saves with at most this many rounds done
pub record EveryTextHasOneVerdict : Type 0 where
  pub of_world : (text : List ℕ) → HasOneVerdict OpensAs IsNoWorld text
  pub of_brain : (text : List ℕ) → HasOneVerdict IsBrainText IsNoBrain text
  pub of_program : (text : List ℕ) → HasOneVerdict IsProgramOf IsNoProgram text
  pub of_source : (text : List ℕ) → HasOneVerdict IsSourceOf IsNoProgram text
  pub of_save : (rounds : ℕ) (text : List ℕ) → HasOneVerdict (IsSaveWithin rounds) (IsNoSave rounds) text
