-- the cell ahead is inside, and a Move that doesn't go changes the ant's state alone
use Rattle.hex_geometry.proofs.Beside.{adjacent_pos_inside}
use Rattle.ant_turn.proofs.turn.go.Goals as goal

pub cell_at-there-requires : goal.cell_at-there-requires
cell_at-there-requires g c = rw c.adjacent-ahead.ensures.neighbour (adjacent_pos_inside c.args.standing.ant.facing c.requires.stands.inner)
