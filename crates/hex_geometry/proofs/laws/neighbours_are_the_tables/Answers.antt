-- the neighbour of a position is that of its point
use Rattle.hex_geometry.proofs.Beside.{adjacent_pos_table}
use Rattle.hex_geometry.proofs.laws.neighbours_are_the_tables.Goals as goal

pub returns : goal.returns
returns c = adjacent_pos_table
