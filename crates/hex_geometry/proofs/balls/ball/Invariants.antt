-- the rows so far
use Rattle.hex_geometry.proofs.balls.ball.Given as goal
use Rattle.hex_geometry.specs.Inner.BallRows.{rows}
use Rattle.std.proofs.Common.{◌≡◌}

abbrev pub invariant-loop-row : goal.invariant-loop-row
invariant-loop-row l = l.found.items ≡ rows l.centre l.radius l.row
