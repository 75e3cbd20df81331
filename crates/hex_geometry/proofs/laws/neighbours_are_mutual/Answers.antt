-- neighbours, one direction after another
use Rattle.hex_geometry.proofs.Beside.{adjacent_pos_back, adjacent_pos_inside, adjacent_pos_moves, neighbours_of_distinct, neighbours_of_mutual}
use Rattle.hex_geometry.proofs.laws.neighbours_are_mutual.Goals as goal

pub returns : goal.returns
returns c = record {
  back = adjacent_pos_back;
  both_ways = neighbours_of_mutual;
  distinct = neighbours_of_distinct;
  other = adjacent_pos_moves;
  inside = λ width height p d inner. adjacent_pos_inside d inner;
}
