use Rattle.std.proofs.Common.{◌≡◌, ◌-◌, ◌++◌, List, ℕ, ◌∙◌, ap, ap₂, subst}
use Rattle.std.proofs.lemmas.Result.{err_from_is_err_and}
use Rattle.ant_base.specs.Sink.{PushedAll, PushedFront}
use Rattle.ant_base.proofs.Pushes.{all_then, front_then}
use Rattle.ant_turn.specs.Rounds.{after_rounds}
use Rattle.cell_world.specs.Grid.{world_of}
use Rattle.cell_world.specs.Score.{score_of}
use Rattle.dump_print.specs.Texts.{score_text}
use Rattle.match_run.specs.Counts.{both, counts_text, totals_of}
use Rattle.match_run.specs.Dumps.{chooses}
use Rattle.match_run.specs.Game.{now_of}
use Rattle.match_run.proofs.PlayLemmas.{GoesOnFor-world, StopsBy-rounds}
use Rattle.match_run.proofs.LaterLaws.{end-some, later_text-parts}
use Rattle.match_run.proofs.whole_run.play_on.Goals as goal

pub returns-in_err-play_rounds-clause-text : goal.returns-in_err-play_rounds-clause-text
returns-in_err-play_rounds-clause-text g c =
    let game = c.args.game.now in
    let more : ℕ = c.args.rounds - game.done in
    let there = after_rounds game.field.minds game.field.seed (now_of game) more in
    let totals = both game.totals (totals_of game.field.minds game.field.seed game.window (now_of game) more) in
    let p = err_from_is_err_and c.from_residual.result c.from_residual.ensures.1 in
    rw (p.1, p.2, later_text-parts game.field.minds game.field.seed game.window (now_of game) game.done game.totals c.args.rounds (chooses c.args.dumps.now) c.args.stats)
    (c.in_err-play_rounds.ensures.text (score_text (score_of there.world) ++ counts_text c.args.stats totals) (end-some (score_of there.world) c.args.stats totals))

pub returns-in_err-push_end-clause-text : goal.returns-in_err-push_end-clause-text
returns-in_err-push_end-clause-text g c =
    let game = c.args.game.now in
    let more : ℕ = c.args.rounds - game.done in
    let there = after_rounds game.field.minds game.field.seed (now_of game) more in
    let world : world_of c.world.result.now ≡ there.world = ap world_of c.world.ensures ∙ GoesOnFor-world c.in_ok-play_rounds.ensures.played in
    let ends : score_text (score_of (world_of c.world.result.now)) ++ counts_text c.args.stats c.totals.result
    ≡ score_text (score_of there.world) ++ counts_text c.args.stats (both game.totals (totals_of game.field.minds game.field.seed game.window (now_of game) more)) =
    ap₂ (λ s t. score_text (score_of s) ++ counts_text c.args.stats t) world (c.totals.ensures.totals ∙ c.in_ok-play_rounds.ensures.played.totals) in
    let p = err_from_is_err_and c.from_residual-in_err-push_end.result c.from_residual-in_err-push_end.ensures.1 in
    rw (p.1, p.2, later_text-parts game.field.minds game.field.seed game.window (now_of game) game.done game.totals c.args.rounds (chooses c.args.dumps.now) c.args.stats)
    (front_then _ _ _ _ _ c.in_ok-play_rounds.ensures.text (subst (λ (text : List ℕ). PushedFront (g.K.Sink.state c.play_rounds.new.sink) (g.K.Sink.state c.push_end.new.sink) text) ends c.in_err-push_end.ensures.text))

pub returns-in_err-play_rounds-clause-stopped : goal.returns-in_err-play_rounds-clause-stopped
returns-in_err-play_rounds-clause-stopped g c =
    let p = err_from_is_err_and c.from_residual.result c.from_residual.ensures.1 in
    rw (p.1, p.2)
    (StopsBy-rounds c.args.game.now c.play_rounds.new.game (c.args.rounds - c.args.game.now.done) (chooses c.args.dumps.now) c.args.stats (g.K.Sink.state c.args.sink.now) (g.K.Sink.state c.play_rounds.new.sink) c.in_err-play_rounds.field-0.0
    c.in_err-play_rounds.ensures.stopped)

pub returns-clause-text : goal.returns-clause-text
returns-clause-text g c =
    let game = c.args.game.now in
    let more : ℕ = c.args.rounds - game.done in
    let there = after_rounds game.field.minds game.field.seed (now_of game) more in
    let world : world_of c.world.result.now ≡ there.world = ap world_of c.world.ensures ∙ GoesOnFor-world c.in_ok-play_rounds.ensures.played in
    let ends : score_text (score_of (world_of c.world.result.now)) ++ counts_text c.args.stats c.totals.result
    ≡ score_text (score_of there.world) ++ counts_text c.args.stats (both game.totals (totals_of game.field.minds game.field.seed game.window (now_of game) more)) =
    ap₂ (λ s t. score_text (score_of s) ++ counts_text c.args.stats t) world (c.totals.ensures.totals ∙ c.in_ok-play_rounds.ensures.played.totals) in
    rw (later_text-parts game.field.minds game.field.seed game.window (now_of game) game.done game.totals c.args.rounds (chooses c.args.dumps.now) c.args.stats)
    (all_then _ _ _ _ _ c.in_ok-play_rounds.ensures.text (subst (λ (text : List ℕ). PushedAll (g.K.Sink.state c.play_rounds.new.sink) (g.K.Sink.state c.push_end.new.sink) text) ends c.in_ok-push_end.ensures.text))

pub returns-clause-score : goal.returns-clause-score
returns-clause-score g c =
    c.in_ok-push_end.ensures.score ∙ ap (λ w. score_of w) (ap world_of c.world.ensures ∙ GoesOnFor-world c.in_ok-play_rounds.ensures.played)
