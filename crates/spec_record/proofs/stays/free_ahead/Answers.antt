-- the cell ahead of one that isn't on the rim is inside
use Rattle.hex_geometry.proofs.Beside.{adjacent_pos_inside}
use Rattle.spec_record.proofs.stays.free_ahead.Goals as goal

pub cell-cell-requires : goal.cell-cell-requires
cell-cell-requires c = rw c.adjacent-ahead.ensures.neighbour (adjacent_pos_inside c.args.facing c.requires.inner)
