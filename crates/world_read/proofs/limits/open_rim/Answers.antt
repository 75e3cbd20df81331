use Rattle.std.proofs.Common.{◌≡◌, ◌*◌, sym, ◌∙◌, subst, arith}
use Rattle.world_read.specs.Inner.Reading.{open_rim}
use Rattle.world_read.specs.Inner.Scan.{IsClosedBefore}
use Rattle.world_read.proofs.ScanLemmas.{found_in_row}
use Rattle.world_read.proofs.limits.open_rim.Goals as goal

pub returns-then-is_some : goal.returns-then-is_some
unfolding open_rim
returns-then-is_some c =
    found_in_row c.args.width c.args.height c.args.kinds.now c.loop-y.y _ (omega arith)
    (c.open_in_row-found.ensures c.loop-y.invariant) (sym c.is_some.ensures ∙ c.if-is_some.true)

pub returns : goal.returns
unfolding open_rim
returns c =
    let all : c.loop-y.y * c.args.width ≡ c.args.width * c.args.height = grind arith in
    sym (subst (IsClosedBefore c.args.width c.args.height c.args.kinds.now) all c.loop-y.invariant)
