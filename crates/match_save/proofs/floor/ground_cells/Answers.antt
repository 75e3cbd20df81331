use Rattle.std.proofs.Common.{◌∙◌}
use Rattle.match_save.specs.State.{ground_cells}
use Rattle.match_save.proofs.FilledLists.{ground-more}
use Rattle.match_save.proofs.floor.ground_cells.Goals as goal

pub loop-i-preserved : goal.loop-i-preserved
loop-i-preserved c =
    ground-more c.args.soils.now c.args.reds.now c.args.blacks.now c.args.foods.now c.loop-i.i _ c.loop-i.cells.items c.push.new.self.items c.ground_cell.result c.requires.reds c.requires.blacks c.requires.foods
    c.loop-i-test.true c.ground_cell.ensures c.in_ok-push.ensures.items
    ∙ c.loop-i.invariant
