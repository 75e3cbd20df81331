use Rattle.std.proofs.Common.{◌*◌}
use Rattle.world_read.specs.Inner.Scan.{IsClosedBefore}
use Rattle.world_read.proofs.limits.open_rim.Given as goal

abbrev pub invariant-loop-y : goal.invariant-loop-y
invariant-loop-y l = IsClosedBefore l.width l.height l.kinds (l.y * l.width)
