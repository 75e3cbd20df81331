use Rattle.std.proofs.Common.{◌+◌, ℕ, sym, subst, arith}
use Rattle.match_save.proofs.MarkSets.{IsFilled, IsFilled-power}
use Rattle.match_save.proofs.write.set_of.Goals as goal

pub loop-i-preserved : goal.loop-i-preserved
loop-i-preserved c =
    subst (λ (n : ℕ). IsFilled c.args.marks.set (c.loop-i.i + 1) n) (sym c.with_power-set.ensures)
    (IsFilled-power c.args.marks c.loop-i.i c.loop-i.set (let t = c.loop-i-test.true in omega (arith, t)) c.loop-i.invariant)
