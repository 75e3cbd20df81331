use Rattle.far_crew.proofs.CellLemmas.{difference_test}
use Rattle.far_crew.proofs.same_cells.is_same_cell.Goals as goal

pub returns : goal.returns
returns c = difference_test c.args.one.now c.args.other.now c.difference.result c.all_parts.result c.is_same_ground.result c.is_none.result c.all_parts.ensures c.if-not-is_same_ground.false c.is_same_ground.ensures c.difference.ensures c.is_none.ensures
