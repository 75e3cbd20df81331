use Rattle.std.proofs.Common.{◌+◌, ◌*◌}
use Rattle.world_read.specs.Inner.Scan.{IsClosedBefore}
use Rattle.world_read.proofs.limits.open_in_row.Given as goal

abbrev pub invariant-loop-x : goal.invariant-loop-x
invariant-loop-x l = IsClosedBefore l.width l.height l.kinds (l.y * l.width) → IsClosedBefore l.width l.height l.kinds (l.y * l.width + l.x)
