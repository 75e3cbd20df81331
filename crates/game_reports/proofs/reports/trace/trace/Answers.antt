use Rattle.std.proofs.lemmas.Result.{err_from_is_err_and}
use Rattle.ant_base.proofs.Pushes.{front_more, front_then, pushed_then}
use Rattle.ant_turn.specs.Minds.{minds_of}
use Rattle.cell_world.specs.Grid.{world_of}
use Rattle.game_reports.proofs.TraceText.{trace_text-parts}
use Rattle.game_reports.proofs.reports.trace.trace.Goals as goal

pub returns-in_err-push_to : goal.returns-in_err-push_to
returns-in_err-push_to g c =
    let plan = c.args.plan.now in
    let p = err_from_is_err_and c.from_residual.result c.from_residual.ensures.1 in
    rw (p.1, trace_text-parts (minds_of c.args.brains) plan.seed (world_of c.args.world) plan.rounds plan.id plan.from) (front_more _ _ _ _ c.in_err-push_to.ensures)

pub returns-in_err-push_end : goal.returns-in_err-push_end
returns-in_err-push_end g c =
    let plan = c.args.plan.now in
    let p = err_from_is_err_and c.from_residual-in_err-push_end.result c.from_residual-in_err-push_end.ensures.1 in
    rw (p.1, trace_text-parts (minds_of c.args.brains) plan.seed (world_of c.args.world) plan.rounds plan.id plan.from) (front_then _ _ _ _ _ c.in_ok-push_to.ensures (front_more _ _ _ _ c.in_err-push_end.ensures))

pub returns : goal.returns
returns g c =
    let plan = c.args.plan.now in
    rw (trace_text-parts (minds_of c.args.brains) plan.seed (world_of c.args.world) plan.rounds plan.id plan.from)
    (pushed_then _ _ _ _ _ c.push_to-2.result c.in_ok-push_to.ensures (pushed_then _ _ _ _ _ c.push_to-2.result c.in_ok-push_end.ensures c.push_to-2.ensures))
