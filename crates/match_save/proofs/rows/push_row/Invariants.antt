use Rattle.std.proofs.Common.{◌≡◌, drop}
use Rattle.match_save.specs.Inner.Answered.{row_behind}
use Rattle.match_save.specs.Inner.Reading.{all_of}
use Rattle.match_save.proofs.rows.push_row.Given as goal

-- what the bytes that are left say, after what those before them said, is what all say
abbrev pub invariant-loop-byte : goal.invariant-loop-byte
invariant-loop-byte g l = row_behind l.fn.cells.items (all_of g.T.RowCell.of_byte l.line) ≡ row_behind l.cells.items (all_of g.T.RowCell.of_byte (drop l.byte-index l.line))
