-- by the three differences of two places
use Rattle.hex_geometry.proofs.Metric.{distance_back, distance_one, distance_over, distance_self, distance_some, distance_zero}
use Rattle.hex_geometry.proofs.distance_laws.distance_is_metric.Goals as goal

pub returns : goal.returns
returns c = record { some = distance_some; one = distance_one; zero_at_itself = distance_self; zero_alone = distance_zero; symmetric = distance_back; triangle = distance_over }
