-- the columns so far
use Rattle.hex_geometry.proofs.balls.push_row.Given as goal
use Rattle.hex_geometry.specs.Inner.BallRows.{line}
use Rattle.std.proofs.Common.{◌≡◌, ◌++◌}

abbrev pub invariant-loop-column : goal.invariant-loop-column
invariant-loop-column l = l.found.items ≡ l.fn.found.items ++ line l.first l.y l.column
