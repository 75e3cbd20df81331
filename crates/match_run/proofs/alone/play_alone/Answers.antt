use Rattle.std.proofs.Common.{◌≡◌, ◌-◌, subst}
use Rattle.std.specs.Prelude.{IfOk}
use Rattle.std.proofs.lemmas.Result.{err_from_is_err_and}
use Rattle.ant_base.proofs.Pushes.{front_more, front_then, pushed_then}
use Rattle.ant_base.specs.Sink.{Pushed}
use Rattle.ant_turn.specs.Rounds.{after_rounds}
use Rattle.ant_turn.specs.Minds.{minds_of}
use Rattle.cell_world.specs.Grid.{world_of}
use Rattle.cell_world.specs.Score.{score_of}
use Rattle.match_run.specs.Dumps.{chooses}
use Rattle.match_run.specs.Later.{plain_later_text}
use Rattle.match_run.specs.Run.{ended}
use Rattle.match_run.specs.Alone.{GameAloneValue, standing}
use Rattle.cell_world.specs.declared.score.Score.{Score}
use Rattle.match_run.proofs.LaterLaws.{run_text-start, score-later}
use Rattle.match_run.proofs.alone.play_alone.Goals as goal

pub returns-in_err-push_seed-clause-text : goal.returns-in_err-push_seed-clause-text
returns-in_err-push_seed-clause-text g c =
    let plan = c.args.plan.now in
    let p = err_from_is_err_and c.from_residual.result c.from_residual.ensures.1 in
    rw (p.1, run_text-start (minds_of c.args.brains) plan.seed (world_of c.args.world) plan.rounds (chooses plan.dumps)) (front_more _ _ _ _ c.in_err-push_seed.ensures)

pub returns-in_err-push_chosen-clause-text : goal.returns-in_err-push_chosen-clause-text
returns-in_err-push_chosen-clause-text g c =
    let plan = c.args.plan.now in
    let p = err_from_is_err_and c.from_residual-in_err-push_chosen.result c.from_residual-in_err-push_chosen.ensures.1 in
    rw (p.1, run_text-start (minds_of c.args.brains) plan.seed (world_of c.args.world) plan.rounds (chooses plan.dumps))
    (front_then _ _ _ _ _ c.in_ok-push_seed.ensures (front_more _ _ _ _ c.in_err-push_chosen.ensures))

pub returns-clause-text : goal.returns-clause-text
returns-clause-text g c =
    let plan = c.args.plan.now in
    rw (run_text-start (minds_of c.args.brains) plan.seed (world_of c.args.world) plan.rounds (chooses plan.dumps))
    (pushed_then _ _ _ _ _ (ended c.play_on_alone.result) c.in_ok-push_seed.ensures
    (pushed_then _ _ _ _ _ (ended c.play_on_alone.result) c.in_ok-push_chosen.ensures
    (subst (λ (game : GameAloneValue). Pushed (g.K.Sink.state c.push_chosen.new.sink) (g.K.Sink.state c.play_on_alone.new.sink) (plain_later_text game.minds game.seed (standing game) game.done plan.rounds (chooses plan.dumps)) (ended c.play_on_alone.result))
    c.begin-game.ensures c.play_on_alone.ensures.text)))

pub returns-clause-score : goal.returns-clause-score
returns-clause-score g c =
    let plan = c.args.plan.now in
    subst (λ (score : Score). IfOk c.play_on_alone.result (λ s. s ≡ score)) (score-later (minds_of c.args.brains) plan.seed (world_of c.args.world) plan.rounds)
    (subst (λ (game : GameAloneValue). IfOk c.play_on_alone.result (λ s. s ≡ score_of (after_rounds game.minds game.seed (standing game) (plan.rounds - game.done)).world)) c.begin-game.ensures c.play_on_alone.ensures.score)
