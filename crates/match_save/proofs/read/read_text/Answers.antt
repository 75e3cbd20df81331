use Rattle.std.proofs.lemmas.Result.{err_from_is_err_and}
use Rattle.match_save.specs.Inner.Said.{said}
use Rattle.match_save.proofs.SaveVerdicts.{fault-of, judged-is}
use Rattle.match_save.proofs.Verdicts.{read-known}
use Rattle.match_save.proofs.read.read_text.Goals as goal

pub returns-in_err-draft : goal.returns-in_err-draft
returns-in_err-draft c =
    let p = err_from_is_err_and c.from_residual.result c.from_residual.ensures.1 in
    rw (p.1, p.2) (fault-of c.args.text.now c.in_err-draft.field-0.0 c.in_err-draft.ensures)

pub judge-requires : goal.judge-requires
judge-requires c = (read-known c.args.text.now (said c.in_ok-draft.draft) c.in_ok-draft.ensures).in_form

pub returns : goal.returns
returns c = judged-is c.args.text.now (said c.in_ok-draft.draft) c.judge.result (read-known c.args.text.now (said c.in_ok-draft.draft) c.in_ok-draft.ensures) c.judge.ensures
