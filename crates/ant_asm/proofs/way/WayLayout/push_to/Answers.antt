use Rattle.std.proofs.lemmas.Result.{err_from_is_err_and}
use Rattle.ant_asm.proofs.LabelTexts.{way_text-next}
use Rattle.ant_asm.proofs.LabelWalk.{to_front, to_more}
use Rattle.ant_asm.proofs.way.WayLayout.push_to.Goals as goal

pub loop-level-preserved : goal.loop-level-preserved
loop-level-preserved g c = to_more _ _ _ _ _ _ _ c.loop-level.invariant c.in_ok-push_to.ensures (way_text-next c.args.self.now.0.now c.loop-level.level-index _ c.loop-level-test.true)

pub returns-in_err-push_to : goal.returns-in_err-push_to
returns-in_err-push_to g c =
    let p = err_from_is_err_and c.from_residual.result c.from_residual.ensures.1 in
    rw p.1 (to_front _ _ _ _ _ _ _ c.loop-level.invariant c.in_err-push_to.ensures (way_text-next c.args.self.now.0.now c.loop-level.level-index _ c.loop-level-test.true))
