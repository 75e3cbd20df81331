use Rattle.std.proofs.Common.{◌≡◌, ◌≤◌, drop}
use Rattle.world_read.specs.Bytes.{spelled}
use Rattle.world_read.specs.Inner.Reading.{onto_row, row_from}
use Rattle.world_read.proofs.row.read_row.Given as goal

abbrev pub invariant-loop-byte : goal.invariant-loop-byte
invariant-loop-byte l =
    (l.column ≤ l.width)
    × (onto_row l.initial.kinds.items (row_from l.width l.row 0 (spelled l.line)) ≡ onto_row l.kinds.items (row_from l.width l.row l.column (spelled (drop l.byte-index l.line))))
