use Rattle.std.proofs.Common.{◌≡◌, ◌-◌, Ok}
use Rattle.world_read.specs.Inner.Reading.{rows_from, with_row}
use Rattle.world_read.proofs.rows.read_rows.Given as goal

abbrev pub invariant-loop-row : goal.invariant-loop-row
invariant-loop-row l =
    with_row (Ok l.initial.kinds.items) (rows_from l.width 0 l.height l.initial.lines)
    ≡ with_row (Ok l.kinds.items) (rows_from l.width l.row (l.height - l.row) l.lines)
