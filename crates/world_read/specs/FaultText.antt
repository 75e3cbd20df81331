-- The texts of the faults of a world's text (this project's own).
use Rattle.std.specs.Prelude.{ℕ, List, codes, decimal}
use Rattle.ant_base.specs.Layout.{◌+++◌}
use Rattle.ant_base.specs.FaultText.{memory_text}
use Rattle.world_read.specs.declared.fault.WorldFault.{WorldFault}
use Rattle.world_read.specs.declared.fault.WorldFault.TheVariants.{BadWidth, BadHeight, MissingRow, BadCell, ShortRow, LongRow, ExtraRow, OpenRim, TooManyAnts, OutOfMemory}

-- the text about a row, which is counted from 0
abbrev pub row_says : ℕ → List ℕ → List ℕ
row_says row says = codes "row " +++ decimal row +++ codes ": " +++ says

-- the text of a world's fault
abbrev pub world_fault_text : WorldFault → List ℕ
world_fault_text BadWidth = codes "bad width"
world_fault_text BadHeight = codes "bad height"
world_fault_text (MissingRow row) = row_says row (codes "missing")
world_fault_text (BadCell row column) = row_says row (codes "bad cell at column " +++ decimal column)
world_fault_text (ShortRow row) = row_says row (codes "short")
world_fault_text (LongRow row) = row_says row (codes "long")
world_fault_text ExtraRow = codes "extra row"
world_fault_text (OpenRim x y) = codes "rim open at (" +++ decimal x +++ codes ", " +++ decimal y +++ codes ")"
world_fault_text (TooManyAnts count) = codes "too many ants, " +++ decimal count
world_fault_text OutOfMemory = memory_text
