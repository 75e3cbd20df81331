-- one position after another
use Rattle.std.proofs.Common.{◌∙◌}
use Rattle.world_gen.proofs.Lines.{line_from_more, line_from_none, walked_more, walked_none}
use Rattle.world_gen.proofs.cells.push_line.Goals as goal

pub loop-beside-init : goal.loop-beside-init
loop-beside-init c = record { here = walked_none c.args.way c.args.start; items = line_from_none c.args.cells.now.items c.args.way c.args.start }

pub loop-beside-preserved : goal.loop-beside-preserved
loop-beside-preserved c = record {
  here = c.adjacent-p.ensures.neighbour ∙ walked_more c.loop-beside.beside c.args.way c.args.start c.loop-beside.p c.loop-beside.invariant.here;
  items = c.in_ok-push.ensures.items ∙ line_from_more c.loop-beside.cells.items c.args.cells.now.items c.loop-beside.beside c.args.way c.args.start c.loop-beside.p c.loop-beside.invariant.here c.loop-beside.invariant.items;
}
