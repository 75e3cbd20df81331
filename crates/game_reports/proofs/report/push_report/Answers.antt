use Rattle.std.proofs.lemmas.Result.{err_from_is_err_and}
use Rattle.ant_base.proofs.Pushes.{front_more, front_then, pushed_then}
use Rattle.ant_turn.specs.Minds.{minds_of}
use Rattle.game_reports.proofs.SeenFair.{report-parts}
use Rattle.game_reports.proofs.report.push_report.Goals as goal

pub returns-in_err-push_to : goal.returns-in_err-push_to
returns-in_err-push_to g c =
    let p = err_from_is_err_and c.from_residual.result c.from_residual.ensures.1 in
    rw (p.1, report-parts (g.R.Report.lines c.args.report.now) c.args.plan.from (minds_of c.args.brains) c.args.plan.seed (g.R.On.Ground.world c.args.board.now) c.args.plan.rounds) (front_more _ _ _ _ c.in_err-push_to.ensures)

pub returns-in_err-push_rounds : goal.returns-in_err-push_rounds
returns-in_err-push_rounds g c =
    let p = err_from_is_err_and c.from_residual-in_err-push_rounds.result c.from_residual-in_err-push_rounds.ensures.1 in
    rw (p.1, report-parts (g.R.Report.lines c.args.report.now) c.args.plan.from (minds_of c.args.brains) c.args.plan.seed (g.R.On.Ground.world c.args.board.now) c.args.plan.rounds) (front_then _ _ _ _ _ c.in_ok-push_to.ensures (front_more _ _ _ _ c.in_err-push_rounds.ensures))

pub returns : goal.returns
returns g c =
    rw (report-parts (g.R.Report.lines c.args.report.now) c.args.plan.from (minds_of c.args.brains) c.args.plan.seed (g.R.On.Ground.world c.args.board.now) c.args.plan.rounds)
    (pushed_then _ _ _ _ _ c.push_to-2.result c.in_ok-push_to.ensures (pushed_then _ _ _ _ _ c.push_to-2.result c.in_ok-push_rounds.ensures c.push_to-2.ensures))
