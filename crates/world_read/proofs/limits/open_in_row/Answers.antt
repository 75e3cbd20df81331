use Rattle.std.proofs.Common.{sym, ◌∙◌, arith}
use Rattle.world_read.proofs.ScanLemmas.{closed_more, found_here, is_open-read}
use Rattle.world_read.proofs.limits.open_in_row.Goals as goal

pub returns-then-is_open : goal.returns-then-is_open
returns-then-is_open c = λ closed.
    found_here c.args.width c.args.height c.args.kinds.now c.loop-x.x c.args.y (omega arith) (c.loop-x.invariant closed)
    (sym (is_open-read c.args.width c.args.height c.args.kinds.now c.loop-x.x c.args.y c.index_of.result _ c.index_of.ensures c.requires.full (omega arith) (omega arith)) ∙ sym c.is_open.ensures ∙ c.if-is_open.true)

pub loop-x-preserved : goal.loop-x-preserved
loop-x-preserved c = λ closed.
    closed_more c.args.width c.args.height c.args.kinds.now c.loop-x.x c.args.y (omega arith) (c.loop-x.invariant closed)
    (sym (is_open-read c.args.width c.args.height c.args.kinds.now c.loop-x.x c.args.y c.index_of.result _ c.index_of.ensures c.requires.full (omega arith) (omega arith)) ∙ sym c.is_open.ensures ∙ c.if-is_open.false)
