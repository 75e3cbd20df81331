use Rattle.std.proofs.Common.{ℕ, List, ap₂, subst}
use Rattle.ant_base.specs.Sink.{Pushed}
use Rattle.ant_turn.specs.Minds.{minds_of}
use Rattle.ant_turn.specs.Rounds.{Moment}
use Rattle.match_run.specs.Told.{from_round, told_in_rounds}
use Rattle.game_reports.specs.Inner.Broken.{broken}
use Rattle.game_reports.specs.Report.{report_lines, told_of}
use Rattle.game_reports.proofs.SeenFair.{lines-fair}
use Rattle.game_reports.proofs.report.push_rounds.Goals as goal

pub watch_rounds-requires-clause-fair : goal.watch_rounds-requires-clause-fair
watch_rounds-requires-clause-fair g c = lines-fair g.K.Sink.state (g.R.Report.lines c.args.report.now) c.args.plan.from (minds_of c.args.brains)

pub returns : goal.returns
unfolding report_lines
returns g c =
    let minds = minds_of c.args.brains in
    let lines = g.R.Report.lines c.args.report.now in
    subst (λ (told : List (List ℕ)). Pushed (g.K.Sink.state c.args.sink.now) (g.K.Sink.state c.watch_rounds.new.log) (broken told) c.watch_rounds.result)
    (ap₂ (λ (seed place : ℕ). let m : Moment = record { world = g.R.On.Ground.world c.args.board.now; place = place } in told_in_rounds (from_round c.args.plan.from (told_of lines minds seed)) minds seed m c.args.plan.rounds)
    c.from_seed-stream.ensures.seed c.from_seed-stream.ensures.place)
    c.watch_rounds.ensures.logged
