-- The texts of the faults of a save (this project's own).
use Rattle.std.specs.Prelude.{ℕ, List, codes, decimal}
use Rattle.ant_base.specs.FaultText.{line_says, memory_text}
use Rattle.ant_base.specs.Layout.{◌+++◌}
use Rattle.match_save.specs.declared.fault.SaveFault.{SaveFault}
use Rattle.match_save.specs.declared.fault.SaveFault.TheVariants.{BadLine, BadState, OutOfMemory}

-- the text of a save's fault
abbrev pub save_fault_text : SaveFault → List ℕ
save_fault_text (BadLine line) = line_says line (codes "not a save")
save_fault_text BadState = codes "no valid state"
save_fault_text OutOfMemory = memory_text

-- the text for a save of which this many rounds are done, more than are requested in total
abbrev pub already_at_text : ℕ → List ℕ
already_at_text round = codes "already at round " +++ decimal round
