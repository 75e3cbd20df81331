use Rattle.std.proofs.Common.{length, sym, ◌∙◌, ap, subst}
use Rattle.cell_world.specs.Opening.{IsPlan}
use Rattle.world_read.specs.Inner.Reading.{limited, open_rim}
use Rattle.world_read.proofs.PlanReads.{IsPlan-read, length-rows_from}
use Rattle.world_read.proofs.RowReads.{rows_from-all}
use Rattle.world_read.proofs.read.open_world.Goals as goal

pub check_limits-requires-clause-full : goal.check_limits-requires-clause-full
check_limits-requires-clause-full c =
    ap length c.deref.ensures.value
    ∙ length-rows_from c.args.width c.args.height c.args.lines.now _ (rows_from-all _ c.args.kinds.now.items _ c.in_ok-read_rows.ensures c.requires.none)

pub build-requires : goal.build-requires
build-requires c =
    let w = c.args.width in
    let h = c.args.height in
    let kept = ap (λ kinds. limited w h kinds (open_rim w h kinds)) (sym c.deref.ensures.value) ∙ sym c.in_ok-check_limits.ensures in
    subst (IsPlan w h) (sym c.deref-2.ensures.value)
    (IsPlan-read w h c.args.lines.now _ _ c.requires.sizes (rows_from-all _ c.args.kinds.now.items _ c.in_ok-read_rows.ensures c.requires.none) kept)
