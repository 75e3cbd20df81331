use Rattle.std.proofs.lemmas.Result.{err_from_is_err_and}
use Rattle.ant_base.proofs.Pushes.{front_more, pushed_then}
use Rattle.brain_read.specs.Canonical.{brain_text}
use Rattle.brain_minimise.proofs.Texts.{counts_text, minimised_text-parts}
use Rattle.brain_minimise.proofs.text.push_minimised.Goals as goal

pub returns-in_err-push_to : goal.returns-in_err-push_to
returns-in_err-push_to g c =
    let p = err_from_is_err_and c.from_residual.result c.from_residual.ensures.1 in
    rw (p.1, minimised_text-parts c.args.brain.now c.args.minimised.now.brain c.len-states.result c.len-kept.result c.len-states.ensures.length c.len-kept.ensures.length)
    (front_more _ _ (counts_text c.len-states.result c.len-kept.result) (brain_text c.args.minimised.now.brain) c.in_err-push_to.ensures)

pub returns : goal.returns
returns g c =
    rw (minimised_text-parts c.args.brain.now c.args.minimised.now.brain c.len-states.result c.len-kept.result c.len-states.ensures.length c.len-kept.ensures.length)
    (pushed_then _ _ _ (counts_text c.len-states.result c.len-kept.result) (brain_text c.args.minimised.now.brain) c.write_brain.result c.in_ok-push_to.ensures c.write_brain.ensures.pushed)
