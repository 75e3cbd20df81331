use Rattle.std.proofs.Common.{List, ℕ, subst, false}
use Rattle.std.proofs.lemmas.Result.{err_from_is_err_and}
use Rattle.ant_base.specs.Sink.{PushedAll, PushedFront}
use Rattle.match_run.specs.Dumps.{chooses}
use Rattle.match_run.proofs.PlayLemmas.{prefix_of_nothing}
use Rattle.match_save.proofs.ResumedGames.{alone-is, resumed_text-some}
use Rattle.match_save.proofs.going_on.resume_alone.Goals as goal

pub returns-in_err-game-clause-text : goal.returns-in_err-game-clause-text
returns-in_err-game-clause-text g c =
    let p = err_from_is_err_and c.from_residual.result c.from_residual.ensures.1 in
    rw (p.1, p.2) (prefix_of_nothing (g.K.Sink.state c.args.sink.now) _ (resumed_text-some c.args.saved.now c.args.rounds (chooses c.args.dumps.now) false))

pub returns-in_err-play_on_alone-clause-text : goal.returns-in_err-play_on_alone-clause-text
returns-in_err-play_on_alone-clause-text g c =
    let p = err_from_is_err_and c.from_residual-in_err-play_on_alone.result c.from_residual-in_err-play_on_alone.ensures.1 in
    rw (p.1, p.2)
    (subst (λ (text : List ℕ). PushedFront (g.K.Sink.state c.args.sink.now) (g.K.Sink.state c.play_on_alone.new.sink) text)
    (alone-is c.args.saved.now c.in_ok-game.game c.args.rounds (chooses c.args.dumps.now) c.in_ok-game.ensures) c.in_err-play_on_alone.ensures.text)

pub returns-clause-text : goal.returns-clause-text
returns-clause-text g c =
    subst (λ (text : List ℕ). PushedAll (g.K.Sink.state c.args.sink.now) (g.K.Sink.state c.play_on_alone.new.sink) text)
    (alone-is c.args.saved.now c.in_ok-game.game c.args.rounds (chooses c.args.dumps.now) c.in_ok-game.ensures) c.in_ok-play_on_alone.ensures.text
