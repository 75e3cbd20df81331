-- What is wrong with a text that is not a save (this project's own).
use Rattle.std.specs.Prelude.{ℕ, List}
use Rattle.match_save.specs.declared.fault.SaveFault.{SaveFault}
use Rattle.match_save.specs.declared.fault.SaveFault.TheVariants.{BadLine, BadState, OutOfMemory}
use Rattle.match_save.specs.Saved.{IsNoState}
use Rattle.match_save.specs.Verdict.{IsBadLine}

-- the fault of a text: its first bad line, or that no line is bad but they describe no state of a game. Out of memory
-- is not a fault of a text
abbrev pub IsSaveFault : List ℕ → SaveFault → Type 0
IsSaveFault text (BadLine line) = IsBadLine text line
IsSaveFault text BadState = IsNoState text
IsSaveFault text OutOfMemory = ⊥
