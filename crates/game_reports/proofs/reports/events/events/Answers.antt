use Rattle.std.proofs.Common.{ℕ, List, ap, subst}
use Rattle.ant_base.specs.Sink.{Pushed}
use Rattle.ant_turn.specs.Minds.{minds_of}
use Rattle.cell_world.specs.Grid.{Grid, world_of}
use Rattle.game_reports.specs.Events.{event_lines}
use Rattle.game_reports.specs.Report.{report_text}
use Rattle.game_reports.proofs.reports.events.events.Goals as goal

pub returns : goal.returns
returns g c =
    subst (λ (text : List ℕ). Pushed (g.K.Sink.state c.args.sink.now) (g.K.Sink.state c.push_report.new.sink) text c.push_report.result)
    (ap (λ (grid : Grid). report_text (event_lines c.args.food) c.args.plan.from (minds_of c.args.brains) c.args.plan.seed (world_of grid) c.args.plan.rounds) c.of-ground.ensures)
    c.push_report.ensures
