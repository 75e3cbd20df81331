use Rattle.hex_geometry.proofs.Beside.{adjacent_pos_table}
use Rattle.hex_geometry.proofs.neighbourhood.adjacent.Goals as goal
use Rattle.hex_geometry.specs.Neighbourhood.{adjacent_pos}
use Rattle.hex_geometry.specs.declared.direction.Dir.TheVariants.{East, SouthEast, SouthWest, West, NorthWest, NorthEast}

pub returns-in-East-clause-table : goal.returns-in-East-clause-table
unfolding adjacent_pos
returns-in-East-clause-table c = rw c.in-East.is (adjacent_pos_table c.args.p East c.requires.from_left c.requires.from_top)

pub returns-in-SouthEast-clause-table : goal.returns-in-SouthEast-clause-table
unfolding adjacent_pos
returns-in-SouthEast-clause-table c = rw c.in-SouthEast.is (adjacent_pos_table c.args.p SouthEast c.requires.from_left c.requires.from_top)

pub returns-in-SouthWest-clause-table : goal.returns-in-SouthWest-clause-table
unfolding adjacent_pos
returns-in-SouthWest-clause-table c = rw c.in-SouthWest.is (adjacent_pos_table c.args.p SouthWest c.requires.from_left c.requires.from_top)

pub returns-in-West-clause-table : goal.returns-in-West-clause-table
unfolding adjacent_pos
returns-in-West-clause-table c = rw c.in-West.is (adjacent_pos_table c.args.p West c.requires.from_left c.requires.from_top)

pub returns-in-NorthWest-clause-table : goal.returns-in-NorthWest-clause-table
unfolding adjacent_pos
returns-in-NorthWest-clause-table c = rw c.in-NorthWest.is (adjacent_pos_table c.args.p NorthWest c.requires.from_left c.requires.from_top)

pub returns-in-NorthEast-clause-table : goal.returns-in-NorthEast-clause-table
unfolding adjacent_pos
returns-in-NorthEast-clause-table c = rw c.in-NorthEast.is (adjacent_pos_table c.args.p NorthEast c.requires.from_left c.requires.from_top)
