use Rattle.std.proofs.lemmas.Result.{err_from_is_err_and}
use Rattle.ant_base.proofs.Pushes.{all_then, front_more, front_then}
use Rattle.match_run.proofs.whole_run.push_end.Goals as goal

pub returns-in_err-push_score-clause-text : goal.returns-in_err-push_score-clause-text
returns-in_err-push_score-clause-text g c =
    let p = err_from_is_err_and c.from_residual.result c.from_residual.ensures.1 in
    rw (p.1, ← c.score-score.ensures.score) (front_more _ _ _ _ c.in_err-push_score.ensures)

pub returns-in_err-push_counts-clause-text : goal.returns-in_err-push_counts-clause-text
returns-in_err-push_counts-clause-text g c =
    let p = err_from_is_err_and c.from_residual-in_err-push_counts.result c.from_residual-in_err-push_counts.ensures.1 in
    rw (p.1, ← c.score-score.ensures.score) (front_then _ _ _ _ _ c.in_ok-push_score.ensures c.in_err-push_counts.ensures)

pub returns-clause-text : goal.returns-clause-text
returns-clause-text g c = rw (← c.score-score.ensures.score) (all_then _ _ _ _ _ c.in_ok-push_score.ensures c.in_ok-push_counts.ensures)
