-- a step is a way over a third place
use Rattle.hex_geometry.proofs.Metric.{adjacent_back, adjacent_distance, distance_adjacent, distance_step}
use Rattle.hex_geometry.proofs.distance_laws.steps_change_by_one.Goals as goal

pub returns : goal.returns
returns c = record { change = distance_step; neighbours = λ p q. (adjacent_distance p q, distance_adjacent p q); both_ways = adjacent_back }
