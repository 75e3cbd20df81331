-- the greatest of three differences is the least walk
use Rattle.hex_geometry.proofs.Reaches.{distance_is}
use Rattle.hex_geometry.proofs.distances.distance.Goals as goal
use Rattle.std.proofs.Common.{arith}

pub returns-clause-distance : goal.returns-clause-distance
returns-clause-distance c = distance_is c.args.p c.args.q _ (omega arith) (omega arith) (cc)
