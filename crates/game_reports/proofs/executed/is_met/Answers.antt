-- the cell that is sensed, or ahead, is inside
use Rattle.hex_geometry.proofs.Beside.{adjacent_pos_inside, sensed_pos_inside}
use Rattle.game_reports.proofs.executed.is_met.Goals as goal

pub matches-requires : goal.matches-requires
matches-requires c = rw c.sensed.ensures (sensed_pos_inside c.args.standing.ant.facing c.in-Sense.sight c.requires.stands.inner)

pub cell_at-requires-in-Move : goal.cell_at-requires-in-Move
cell_at-requires-in-Move c = rw c.adjacent.ensures.neighbour (adjacent_pos_inside c.args.standing.ant.facing c.requires.stands.inner)
