use Rattle.std.proofs.Common.{Bool, sym, ◌∙◌, ap}
use Rattle.std.proofs.lemmas.Result.{err_from_is_err_and}
use Rattle.match_save.specs.Inner.Reading.{line_end}
use Rattle.match_save.specs.Inner.Said.{said}
use Rattle.match_save.proofs.FilledLists.{fault-passed}
use Rattle.match_save.proofs.WholeTexts.{text-body, text-end, text-head, text-read}
use Rattle.match_save.proofs.draft.read_draft.Goals as goal

pub returns-in_err-head : goal.returns-in_err-head
returns-in_err-head c =
    let p = err_from_is_err_and c.from_residual.result c.from_residual.ensures.1 in
    rw (p.1, p.2) (text-head c.args.text.now c.new-lines.result c.new-lines.ensures c.in_err-head.field-0.0.0 c.in_err-head.ensures.head)

pub returns-in_err-draft : goal.returns-in_err-draft
returns-in_err-draft c =
    let p = err_from_is_err_and c.from_residual-in_err-draft.result c.from_residual-in_err-draft.ensures.1 in
    rw (p.1, p.2) (fault-passed _ _ c.in_err-draft.field-0.0
    (λ k e. text-body c.args.text.now c.new-lines.result c.new-lines.ensures c.in_ok-head.head c.read_head.new.lines k c.in_ok-head.ensures.head e)
    c.in_err-draft.ensures)

pub returns-in_err-check_end : goal.returns-in_err-check_end
returns-in_err-check_end c =
    let p = err_from_is_err_and c.from_residual-in_err-check_end.result c.from_residual-in_err-check_end.ensures.1 in
    rw (p.1, p.2) (text-end c.args.text.now c.new-lines.result c.new-lines.ensures c.in_ok-head.head c.read_head.new.lines c.read_body.new.lines (said c.in_ok-draft.draft) c.in_ok-head.ensures.head c.in_ok-draft.ensures
    c.in_err-check_end.field-0.0.0 (ap (λ (b : Bool). line_end b c.read_body.new.lines) (sym c.ends_in_lf.ensures) ∙ c.in_err-check_end.ensures))

pub returns : goal.returns
returns c = text-read c.args.text.now c.new-lines.result c.new-lines.ensures c.in_ok-head.head c.read_head.new.lines c.read_body.new.lines (said c.in_ok-draft.draft) c.in_ok-head.ensures.head c.in_ok-draft.ensures
    c.in_ok-check_end.field-0 (ap (λ (b : Bool). line_end b c.read_body.new.lines) (sym c.ends_in_lf.ensures) ∙ c.in_ok-check_end.ensures)
