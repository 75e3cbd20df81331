-- no ant ever had the id; or one had, or all are reported
use Rattle.std.proofs.Common.{◌≡◌, ◌∙◌, ℕ, List, Some, None, ap, subst, sym}
use Rattle.ant_base.specs.Sink.{Pushed}
use Rattle.ant_turn.specs.Minds.{minds_of}
use Rattle.cell_world.specs.Grid.{world_of}
use Rattle.game_reports.specs.Inner.ActWords.{unmade_of}
use Rattle.game_reports.proofs.ActText.{acts-made, acts-unmade}
use Rattle.game_reports.proofs.reports.acts.acts.Goals as goal

pub returns-in-Some : goal.returns-in-Some
returns-in-Some g c =
    let w = world_of c.args.world in
    let none : unmade_of c.args.one w.ids ≡ Some c.in-Some.id = sym (c.unmade.ensures ∙ ap (unmade_of c.args.one) c.ant_count.ensures.ids) ∙ c.in-Some.is in
    subst (λ (text : List ℕ). Pushed (g.K.Sink.state c.args.sink.now) (g.K.Sink.state c.push_unmade.new.sink) text c.push_unmade.result)
    (sym (acts-unmade (minds_of c.args.brains) c.args.plan.seed w c.args.plan.rounds c.args.plan.from c.args.one c.in-Some.id none))
    c.push_unmade.ensures

pub returns : goal.returns
returns g c =
    let w = world_of c.args.world in
    let made : unmade_of c.args.one w.ids ≡ None = sym (c.unmade.ensures ∙ ap (unmade_of c.args.one) c.ant_count.ensures.ids) ∙ c.in_default.is in
    subst (λ (text : List ℕ). Pushed (g.K.Sink.state c.args.sink.now) (g.K.Sink.state c.push_report.new.sink) text c.push_report.result)
    (sym (acts-made (minds_of c.args.brains) c.args.plan.seed w c.args.plan.rounds c.args.plan.from c.args.one made))
    c.push_report.ensures
