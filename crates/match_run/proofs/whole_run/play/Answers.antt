use Rattle.std.proofs.Common.{◌≡◌, ◌-◌, List, ℕ, ap, ◌∙◌, subst}
use Rattle.std.proofs.lemmas.Result.{err_from_is_err_and}
use Rattle.std.specs.Prelude.{IfOk}
use Rattle.ant_base.specs.Sink.{PushedAll, PushedFront}
use Rattle.ant_base.proofs.Pushes.{front_more, front_then}
use Rattle.cell_world.specs.Score.{score_of}
use Rattle.cell_world.specs.declared.score.Score.{Score}
use Rattle.cell_world.specs.Grid.{world_of}
use Rattle.ant_turn.specs.Minds.{minds_of}
use Rattle.ant_turn.specs.Rounds.{after_rounds}
use Rattle.match_run.specs.Dumps.{chooses}
use Rattle.match_run.specs.Game.{GameValue, now_of}
use Rattle.match_run.specs.Play.{PushedBy}
use Rattle.match_run.specs.Later.{later_text}
use Rattle.match_run.specs.Run.{chosen_dump}
use Rattle.match_run.proofs.PlayLemmas.{by_then, prefix_of_nothing}
use Rattle.match_run.proofs.LaterLaws.{score-later, whole_text-later, whole_text-some}
use Rattle.match_run.proofs.whole_run.play.Goals as goal

pub returns-in_err-game-clause-text : goal.returns-in_err-game-clause-text
returns-in_err-game-clause-text g c =
    let plan = c.args.plan.now in
    let p = err_from_is_err_and c.from_residual.result c.from_residual.ensures.1 in
    rw (p.1, p.2) (prefix_of_nothing (g.K.Sink.state c.args.sink.now) _ (whole_text-some (minds_of c.args.brains) plan.seed plan.window (world_of c.args.world) plan.rounds (chooses plan.dumps) plan.stats))

pub returns-in_err-push_seed-clause-text : goal.returns-in_err-push_seed-clause-text
returns-in_err-push_seed-clause-text g c =
    let plan = c.args.plan.now in
    let p = err_from_is_err_and c.from_residual-in_err-push_seed.result c.from_residual-in_err-push_seed.ensures.1 in
    rw (p.1, p.2, whole_text-later (minds_of c.args.brains) plan.seed plan.window (world_of c.args.world) plan.rounds (chooses plan.dumps) plan.stats) (front_more _ _ _ _ c.in_err-push_seed.ensures)

pub returns-in_err-push_chosen-clause-text : goal.returns-in_err-push_chosen-clause-text
returns-in_err-push_chosen-clause-text g c =
    let plan = c.args.plan.now in
    let w = world_of c.args.world in
    let minds = minds_of c.args.brains in
    let p = err_from_is_err_and c.from_residual-in_err-push_chosen.result c.from_residual-in_err-push_chosen.ensures.1 in
    let world : world_of c.world.result.now ≡ w = ap world_of (c.world.ensures ∙ ap (λ (game : GameValue). game.field.world) c.in_ok-game.ensures) in
    let dump : chosen_dump (chooses plan.dumps) (world_of c.world.result.now) 0 ≡ chosen_dump (chooses plan.dumps) w 0 = ap (λ v. chosen_dump (chooses plan.dumps) v 0) world in
    rw (p.1, p.2, whole_text-later minds plan.seed plan.window w plan.rounds (chooses plan.dumps) plan.stats)
    (front_then _ _ _ _ _ c.in_ok-push_seed.ensures (front_more _ _ _ _ (subst (λ (text : List ℕ). PushedFront (g.K.Sink.state c.push_seed.new.sink) (g.K.Sink.state c.push_chosen.new.sink) text) dump c.in_err-push_chosen.ensures)))

pub returns-clause-text : goal.returns-clause-text
returns-clause-text g c =
    let plan = c.args.plan.now in
    let w = world_of c.args.world in
    let minds = minds_of c.args.brains in
    let world : world_of c.world.result.now ≡ w = ap world_of (c.world.ensures ∙ ap (λ (game : GameValue). game.field.world) c.in_ok-game.ensures) in
    let dump : chosen_dump (chooses plan.dumps) (world_of c.world.result.now) 0 ≡ chosen_dump (chooses plan.dumps) w 0 = ap (λ v. chosen_dump (chooses plan.dumps) v 0) world in
    rw (whole_text-later minds plan.seed plan.window w plan.rounds (chooses plan.dumps) plan.stats)
    (by_then _ _ _ _ _ c.play_on.result c.in_ok-push_seed.ensures
    (by_then _ _ _ _ _ c.play_on.result (subst (λ (text : List ℕ). PushedAll (g.K.Sink.state c.push_seed.new.sink) (g.K.Sink.state c.push_chosen.new.sink) text) dump c.in_ok-push_chosen.ensures)
    (subst (λ (game : GameValue). PushedBy (g.K.Sink.state c.push_chosen.new.sink) (g.K.Sink.state c.play_on.new.sink)
    (later_text game.field.minds game.field.seed game.window (now_of game) game.done game.totals plan.rounds (chooses plan.dumps) plan.stats) c.play_on.result) c.in_ok-game.ensures c.play_on.ensures.text)))

pub returns-clause-score : goal.returns-clause-score
returns-clause-score g c =
    let plan = c.args.plan.now in
    let w = world_of c.args.world in
    let minds = minds_of c.args.brains in
    subst (λ (s : Score). IfOk c.play_on.result (λ (x : Score). x ≡ s)) (score-later minds plan.seed w plan.rounds)
    (subst (λ (game : GameValue). IfOk c.play_on.result (λ (x : Score). x ≡ score_of (after_rounds game.field.minds game.field.seed (now_of game) (plan.rounds - game.done)).world)) c.in_ok-game.ensures c.play_on.ensures.score)
