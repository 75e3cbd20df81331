use Rattle.std.proofs.Common.{rules}
use Rattle.std.proofs.lemmas.Result.{err_from_is_err_and}
use Rattle.ant_asm.proofs.LabelTexts.{uses_text-next}
use Rattle.ant_asm.proofs.LabelWalk.{to_front, to_more}
use Rattle.ant_asm.proofs.way.UsesLayout.push_to.Goals as goal

pub loop-level-preserved : goal.loop-level-preserved
loop-level-preserved g c = record {
  text = search rules;
  told = to_more _ _ _ _ _ _ _ c.loop-level.invariant.told c.in_ok-push_to.ensures (uses_text-next c.loop-level.before.now c.args.self.now.0.now c.loop-level.level-index _ c.loop-level-test.true);
}

pub returns-in_err-push_to : goal.returns-in_err-push_to
returns-in_err-push_to g c =
    let p = err_from_is_err_and c.from_residual.result c.from_residual.ensures.1 in
    rw p.1 (to_front _ _ _ _ _ _ _ c.loop-level.invariant.told c.in_err-push_to.ensures (uses_text-next c.loop-level.before.now c.args.self.now.0.now c.loop-level.level-index _ c.loop-level-test.true))
