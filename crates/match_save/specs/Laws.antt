-- Laws of all texts (this project's own).
use Rattle.std.specs.Prelude.{◌≡◌, ◌⊎◌, ℕ, List}
use Rattle.match_save.specs.declared.fault.SaveFault.{SaveFault}
use Rattle.match_save.specs.Faulty.{IsSaveFault}
use Rattle.match_save.specs.Saved.{IsSaveText, SavedValue}

-- every text is that of exactly one save or has exactly one fault, and never both
pub record EveryTextHasOneVerdict : Type 0 where
  pub some : (text : List ℕ) → ((s : SavedValue) × IsSaveText text s) ⊎ ((fault : SaveFault) × IsSaveFault text fault)
  pub one_save : (text : List ℕ) (s other : SavedValue) → IsSaveText text s → IsSaveText text other → s ≡ other
  pub one_fault : (text : List ℕ) (fault other : SaveFault) → IsSaveFault text fault → IsSaveFault text other
      → fault ≡ other
  pub never_both : (text : List ℕ) (s : SavedValue) (fault : SaveFault) → IsSaveText text s → IsSaveFault text fault → ⊥
