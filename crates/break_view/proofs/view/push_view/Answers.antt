use Rattle.std.proofs.lemmas.Result.{err_from_is_err_and}
use Rattle.ant_base.proofs.Pushes.{front_more, pushed_then}
use Rattle.cell_world.specs.Grid.{world_of}
use Rattle.break_view.proofs.ViewText.{view_text-parts}
use Rattle.break_view.proofs.view.push_view.Goals as goal

pub returns-in_err-push_seed : goal.returns-in_err-push_seed
returns-in_err-push_seed g c =
    let p = err_from_is_err_and c.from_residual.result c.from_residual.ensures.1 in
    rw (p.1, view_text-parts (world_of c.args.world.now) c.args.seed c.args.rounds c.args.stop) (front_more _ _ _ _ c.in_err-push_seed.ensures)

pub returns : goal.returns
returns g c =
    rw (view_text-parts (world_of c.args.world.now) c.args.seed c.args.rounds c.args.stop)
    (pushed_then _ _ _ _ _ c.push_end.result c.in_ok-push_seed.ensures c.push_end.ensures)
