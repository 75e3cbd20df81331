use Rattle.std.proofs.Common.{ap, arith}
use Rattle.ant_base.proofs.Pushes.{all_of_nothing}
use Rattle.ant_turn.specs.Minds.{minds_of}
use Rattle.cell_world.specs.Grid.{world_of}
use Rattle.match_run.specs.Alone.{GameAloneValue, standing}
use Rattle.game_reports.proofs.TraceText.{broken_end-none, broken_end-told, broken_end-unmade}
use Rattle.game_reports.proofs.reports.trace.push_end.Goals as goal

pub returns-then-plan-ant_count : goal.returns-then-plan-ant_count
returns-then-plan-ant_count g c =
    let plan = c.args.plan.now in
    rw (broken_end-unmade (minds_of c.args.brains) plan.seed (world_of c.args.world) plan.rounds plan.id plan.from (omega (arith, c.if-plan-ant_count.true, c.ant_count.ensures.ids))) c.push_unmade.ensures

pub returns-then-plan : goal.returns-then-plan
returns-then-plan g c =
    let plan = c.args.plan.now in
    rw (broken_end-none (minds_of c.args.brains) plan.seed (world_of c.args.world) plan.rounds plan.id plan.from (omega (arith, c.if-plan-ant_count.false, c.ant_count.ensures.ids)) (omega (arith, c.if-plan.true)))
    (all_of_nothing (g.K.Sink.state c.args.sink.now))

pub returns : goal.returns
returns g c =
    let plan = c.args.plan.now in
    let begun = c.begin-game.ensures in
    rw
    (broken_end-told (minds_of c.args.brains) plan.seed (world_of c.args.world) c.begin-game.result c.play_on.new.self plan.rounds plan.id plan.from (omega (arith, c.if-plan-ant_count.false, c.ant_count.ensures.ids))
    (ap (λ (game : GameAloneValue). game.minds) begun) (ap (λ (game : GameAloneValue). game.seed) begun) (ap standing begun) (ap (λ (game : GameAloneValue). game.done) begun) c.play_on.ensures)
    c.push_lines.ensures
