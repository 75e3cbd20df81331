-- what is farther than the radius isn't in the ball
use Rattle.hex_geometry.specs.Position.{point_of}
use Rattle.std.proofs.Common.{◌≤◌, arith}
use Rattle.std.proofs.lemmas.Bool.{leb-true}
use Rattle.world_gen.proofs.Balls.{ball_far}
use Rattle.world_gen.proofs.draft.Draft.is_shut.Goals as goal

pub returns-else-distance-radius : goal.returns-else-distance-radius
returns-else-distance-radius c = (
  λ near. let low : c.distance.result ≤ c.args.radius = leb-true c.distance.result c.args.radius near in absurd (omega arith),
  λ shut. let low = ball_far (point_of c.args.centre) (point_of c.args.p) c.args.radius c.distance.result shut.0 c.distance.ensures.distance in absurd (omega arith),
)
