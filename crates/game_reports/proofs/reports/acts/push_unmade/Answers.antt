use Rattle.std.proofs.lemmas.Result.{err_from_is_err_and}
use Rattle.ant_base.proofs.Pushes.{front_more, pushed_then}
use Rattle.game_reports.specs.Trace.{unmade_text}
use Rattle.game_reports.proofs.reports.acts.push_unmade.Goals as goal

pub returns-in_err-push_seed : goal.returns-in_err-push_seed
returns-in_err-push_seed g c =
    let p = err_from_is_err_and c.from_residual.result c.from_residual.ensures.1 in
    rw p.1 (front_more _ _ _ _ c.in_err-push_seed.ensures)

pub returns : goal.returns
unfolding unmade_text
returns g c = pushed_then _ _ _ _ _ c.push_to.result c.in_ok-push_seed.ensures c.push_to.ensures
