use Rattle.std.proofs.lemmas.Result.{err_from_is_err_and}
use Rattle.ant_base.proofs.Pushes.{front_more, pushed_then}
use Rattle.ant_base.proofs.layout.Tuple2Layout.push_to.Goals as goal

pub returns-in_err-push_to : goal.returns-in_err-push_to
returns-in_err-push_to g c =
    let p = err_from_is_err_and c.from_residual.result c.from_residual.ensures.1 in
    rw p.1 (front_more _ _ _ _ c.in_err-push_to.ensures)

pub returns : goal.returns
returns g c = pushed_then _ _ _ _ _ _ c.in_ok-push_to.ensures c.push_to-2.ensures
