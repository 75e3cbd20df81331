use Rattle.std.proofs.Common.{◌+◌, sym, subst, arith}
use Rattle.cell_world.specs.declared.marks.Marks.{Marks}
use Rattle.match_save.proofs.MarkSets.{IsFilled, IsFilled-next}
use Rattle.match_save.proofs.floor.marks_of.Goals as goal

pub loop-i-preserved : goal.loop-i-preserved
loop-i-preserved c =
    subst (λ (m : Marks). IsFilled c.args.set (c.loop-i.i + 1) m.set) (sym c.with_marker-marks.ensures)
    (IsFilled-next c.args.set c.loop-i.i c.loop-i.marks (let t = c.loop-i-test.true in omega (arith, t)) c.loop-i.invariant)
