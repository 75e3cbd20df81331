use Rattle.std.proofs.Common.{List, ℕ, subst}
use Rattle.std.proofs.lemmas.Result.{err_from_is_err_and}
use Rattle.match_run.specs.Dumps.{chooses}
use Rattle.match_run.specs.Play.{PushedBy}
use Rattle.match_run.proofs.PlayLemmas.{prefix_of_nothing}
use Rattle.match_save.proofs.ResumedGames.{resumed-is, resumed_text-some}
use Rattle.match_save.proofs.going_on.resume.Goals as goal

pub returns-in_err-game-clause-text : goal.returns-in_err-game-clause-text
returns-in_err-game-clause-text g c =
    let p = err_from_is_err_and c.from_residual.result c.from_residual.ensures.1 in
    rw (p.1, p.2) (prefix_of_nothing (g.K.Sink.state c.args.sink.now) _ (resumed_text-some c.args.saved.now c.args.rounds (chooses c.args.dumps.now) c.args.stats))

pub returns-clause-text : goal.returns-clause-text
returns-clause-text g c =
    subst (λ (text : List ℕ). PushedBy (g.K.Sink.state c.args.sink.now) (g.K.Sink.state c.play_on.new.sink) text c.play_on.result)
    (resumed-is c.args.saved.now c.in_ok-game.game c.args.rounds (chooses c.args.dumps.now) c.args.stats c.in_ok-game.ensures) c.play_on.ensures.text
