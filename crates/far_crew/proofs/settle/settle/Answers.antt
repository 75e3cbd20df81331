use Rattle.std.proofs.Common.{◌∙◌}
use Rattle.far_crew.proofs.PickLemmas.{ArePicked-same}
use Rattle.far_crew.proofs.settle.settle.Goals as goal

pub settle_next-requires-clause-picked : goal.settle_next-requires-clause-picked
settle_next-requires-clause-picked c =
    ArePicked-same c.args.lines.now c.args.own.now c.args.picks.now c.args.field.now c.args.turns.now.from c.args.turns.now.to c.loop-id.book.from c.loop-id.book.to
    (c.loop-id.invariant.same.from ∙ c.requires.from) (c.loop-id.invariant.same.to ∙ c.requires.to) c.requires.picks.picked
