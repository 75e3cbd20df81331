-- turns, one direction after another
use Rattle.hex_geometry.proofs.Beside.{neighbours_of_get}
use Rattle.hex_geometry.proofs.Turns.{dir_of_number_of, number_of_dir_of, left_then_right, right_then_left, six_left, six_right, three_turns}
use Rattle.hex_geometry.proofs.laws.turns_go_round.Goals as goal

pub returns : goal.returns
returns c = record {
  dir_of_number = dir_of_number_of;
  number_of_dir = number_of_dir_of;
  neighbour_at = neighbours_of_get;
  left_then_right = left_then_right;
  right_then_left = right_then_left;
  six_left = six_left;
  six_right = six_right;
  three = three_turns;
}
