use Rattle.std.proofs.Common.{◌≡◌, ◌-◌}
use Rattle.match_save.specs.Inner.Answered.{behind}
use Rattle.match_save.specs.Inner.Reading.{read_rows}
use Rattle.match_save.proofs.rows.fill_rows.Given as goal

-- the rows that are left, after those that were read, are all rows
abbrev pub invariant-loop-row : goal.invariant-loop-row
invariant-loop-row g l =
    behind l.fn.cells.items (read_rows g.T.RowCell.of_byte l.width l.height l.fn.lines) ≡ behind l.cells.items (read_rows g.T.RowCell.of_byte l.width (l.height - l._row) l.lines)
