-- one line after another
use Rattle.hex_geometry.specs.Position.{HasNeighbours}
use Rattle.hex_geometry.specs.Direction.{turned_by}
use Rattle.hex_geometry.specs.declared.direction.Side.TheVariants.{Right}
use Rattle.std.proofs.Common.{◌∙◌, sym, arith, subst}
use Rattle.world_gen.proofs.Lines.{lines_from_more, lines_from_none, walked_more, walked_none}
use Rattle.world_gen.proofs.cells.blob.Goals as goal
use Rattle.world_gen.specs.Inner.Open.{walked}

pub loop-along-init : goal.loop-along-init
loop-along-init c = record { here = walked_none c.args.first c.args.corner; items = c.in_ok-cells.ensures.items ∙ lines_from_none c.args.first c.args.corner }

pub adjacent-start-requires : goal.adjacent-start-requires
adjacent-start-requires c =
    let first : HasNeighbours (walked 0 (turned_by c.args.first Right) (walked c.loop-along.along c.args.first c.args.corner)) = c.requires c.loop-along.along (omega arith) 0 (omega arith) in
    subst HasNeighbours (sym (walked_none (turned_by c.args.first Right) _) ∙ sym c.loop-along.invariant.here) first

pub loop-along-preserved : goal.loop-along-preserved
loop-along-preserved c = record {
  here = c.adjacent-start.ensures.neighbour ∙ walked_more c.loop-along.along c.args.first c.args.corner c.loop-along.start c.loop-along.invariant.here;
  items = lines_from_more c.loop-along.cells.items c.push_line.new.cells.items c.loop-along.along c.args.first c.turned-second.result c.args.corner c.loop-along.start c.turned-second.ensures c.loop-along.invariant.here c.loop-along.invariant.items c.in_ok-push_line.ensures;
}
