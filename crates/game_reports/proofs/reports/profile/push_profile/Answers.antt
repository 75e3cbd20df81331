use Rattle.std.proofs.Common.{◌∙◌, List, ap, length, subst}
use Rattle.std.proofs.lemmas.Result.{err_from_is_err_and}
use Rattle.cell_world.specs.declared.ant.Colour.TheVariants.{Red, Black}
use Rattle.ant_base.specs.Sink.{Pushed, PushedAll, PushedFront}
use Rattle.ant_base.proofs.Pushes.{front_more, front_then, pushed_then}
use Rattle.game_reports.specs.declared.tally.Tally.{Tally}
use Rattle.game_reports.specs.Inner.Tallies.{tally_lines}
use Rattle.game_reports.proofs.reports.profile.push_profile.Goals as goal

pub returns-in_err-push_seed : goal.returns-in_err-push_seed
returns-in_err-push_seed g c =
    let p = err_from_is_err_and c.from_residual.result c.from_residual.ensures.1 in
    rw p.1 (front_more _ _ _ _ c.in_err-push_seed.ensures)

pub push_brain-requires : goal.push_brain-requires
push_brain-requires g c = record { states = ap length c.of.ensures ∙ c.requires.states Red }

pub returns-in_err-push_brain : goal.returns-in_err-push_brain
returns-in_err-push_brain g c =
    let p = err_from_is_err_and c.from_residual-in_err-push_brain.result c.from_residual-in_err-push_brain.ensures.1 in
    rw p.1
    (front_then _ _ _ _ _ c.in_ok-push_seed.ensures
    (front_more _ _ _ _
    (subst (λ (tallies : List Tally). PushedFront (g.K.Sink.state c.push_seed.new.sink) (g.K.Sink.state c.push_brain.new.sink) (tally_lines Red c.args.brains.red.now tallies)) c.of.ensures c.in_err-push_brain.ensures)))

pub push_brain-requires-2 : goal.push_brain-requires-2
push_brain-requires-2 g c = record { states = ap length c.of-2.ensures ∙ c.requires.states Black }

pub returns : goal.returns
returns g c =
    pushed_then _ _ _ _ _ c.push_brain-2.result c.in_ok-push_seed.ensures
    (pushed_then _ _ _ _ _ c.push_brain-2.result
    (subst (λ (tallies : List Tally). PushedAll (g.K.Sink.state c.push_seed.new.sink) (g.K.Sink.state c.push_brain.new.sink) (tally_lines Red c.args.brains.red.now tallies)) c.of.ensures c.in_ok-push_brain.ensures)
    (subst (λ (tallies : List Tally). Pushed (g.K.Sink.state c.push_brain.new.sink) (g.K.Sink.state c.push_brain-2.new.sink) (tally_lines Black c.args.brains.black.now tallies) c.push_brain-2.result) c.of-2.ensures c.push_brain-2.ensures))
