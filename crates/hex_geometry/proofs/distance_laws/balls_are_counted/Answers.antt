-- the rows of a ball are one list of it, and all lists of it are as long
use Rattle.hex_geometry.proofs.BallSizes.{balls_counted}
use Rattle.hex_geometry.proofs.distance_laws.balls_are_counted.Goals as goal

pub returns : goal.returns
returns c = balls_counted
