use Rattle.std.proofs.Common.{◌≡◌, ◌∙◌, List, ap, inl, inr, subst, ℕ}
use Rattle.std.proofs.lemmas.Result.{err_from_is_err_and}
use Rattle.ant_base.specs.Sink.{PushedFront}
use Rattle.ant_base.proofs.Pushes.{all_then, front_more, front_then}
use Rattle.cell_world.specs.Grid.{world_of}
use Rattle.cell_world.specs.Score.{score_of}
use Rattle.dump_print.specs.Texts.{score_text}
use Rattle.match_run.specs.Dumps.{chooses}
use Rattle.match_run.specs.Alone.{standing}
use Rattle.match_run.proofs.LaterLaws.{plain_later_text-parts}
use Rattle.match_run.proofs.AloneLemmas.{IsPlayedOn-world}
use Rattle.match_run.proofs.alone.play_on_alone.Goals as goal

pub returns-in_err-play_rounds-clause-text : goal.returns-in_err-play_rounds-clause-text
returns-in_err-play_rounds-clause-text g c =
    let game = c.args.game.now in
    let p = err_from_is_err_and c.from_residual.result c.from_residual.ensures.1 in
    rw (p.1, plain_later_text-parts game.minds game.seed (standing game) game.done c.args.rounds (chooses c.args.dumps.now)) (front_more _ _ _ _ c.in_err-play_rounds.ensures.text)

pub returns-in_err-push_score-clause-text : goal.returns-in_err-push_score-clause-text
returns-in_err-push_score-clause-text g c =
    let game = c.args.game.now in
    let p = err_from_is_err_and c.from_residual-in_err-push_score.result c.from_residual-in_err-push_score.ensures.1 in
    let world = ap world_of c.world.ensures ∙ IsPlayedOn-world c.in_ok-play_rounds.ensures.played in
    rw (p.1, plain_later_text-parts game.minds game.seed (standing game) game.done c.args.rounds (chooses c.args.dumps.now), ← world, ← c.score-score.ensures.score)
    (front_then _ _ _ _ _ c.in_ok-play_rounds.ensures.text c.in_err-push_score.ensures)

pub returns-in_err-play_rounds-clause-stopped : goal.returns-in_err-play_rounds-clause-stopped
returns-in_err-play_rounds-clause-stopped g c =
    let p = err_from_is_err_and c.from_residual.result c.from_residual.ensures.1 in
    rw p.1 (inl c.in_err-play_rounds.ensures.stopped)

pub returns-in_err-push_score-clause-stopped : goal.returns-in_err-push_score-clause-stopped
returns-in_err-push_score-clause-stopped g c =
    let p = err_from_is_err_and c.from_residual-in_err-push_score.result c.from_residual-in_err-push_score.ensures.1 in
    let scores : c.score-score.result ≡ score_of (world_of c.play_rounds.new.game.world) = c.score-score.ensures.score ∙ ap (λ w. score_of (world_of w)) c.world.ensures in
    rw p.1 (inr (record {
      played = c.in_ok-play_rounds.ensures.played;
      mid = g.K.Sink.state c.play_rounds.new.sink;
      before = c.in_ok-play_rounds.ensures.text;
      failed = subst (λ (text : List ℕ). PushedFront (g.K.Sink.state c.play_rounds.new.sink) (g.K.Sink.state c.push_score.new.sink) text) (ap score_text scores) c.in_err-push_score.ensures;
    }))

pub returns-clause-text : goal.returns-clause-text
returns-clause-text g c =
    let game = c.args.game.now in
    let world = ap world_of c.world.ensures ∙ IsPlayedOn-world c.in_ok-play_rounds.ensures.played in
    rw (plain_later_text-parts game.minds game.seed (standing game) game.done c.args.rounds (chooses c.args.dumps.now), ← world, ← c.score-score.ensures.score)
    (all_then _ _ _ _ _ c.in_ok-play_rounds.ensures.text c.in_ok-push_score.ensures)
