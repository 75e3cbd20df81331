use Rattle.std.proofs.Common.{sym, ap, ◌∙◌, subst}
use Rattle.std.proofs.lemmas.Result.{err_from_is_err_and}
use Rattle.line_tokens.specs.Inner.LineByLine.{reading_from}
use Rattle.line_tokens.proofs.LineLemmas.{reading_from-end}
use Rattle.break_view.specs.Inner.Verdict.{break_reader}
use Rattle.break_view.specs.Inner.Answered.{FailsAs}
use Rattle.break_view.proofs.VerdictLemmas.{reading_from-start}
use Rattle.break_view.proofs.read.read_list.Goals as goal

pub returns-in_err-read_line-clause-fault : goal.returns-in_err-read_line-clause-fault
returns-in_err-read_line-clause-fault c =
    let p = err_from_is_err_and c.from_residual.result c.from_residual.ensures.1 in
    rw (p.1, p.2)
    (subst (FailsAs c.in_err-read_line.field-0.0)
    (ap (reading_from break_reader c.loop-line.list.items c.loop-line.number) (sym c.in-Some.ensures.steps) ∙ c.loop-line.invariant.on ∙ reading_from-start c.args.text.now)
    (c.in_err-read_line.ensures.fault c.next.new.self))

pub returns-clause-lines : goal.returns-clause-lines
returns-clause-lines c =
    sym (reading_from-start c.args.text.now)
    ∙ sym c.loop-line.invariant.on
    ∙ ap (reading_from break_reader c.loop-line.list.items c.loop-line.number) c.in-None.ensures.steps.0
    ∙ reading_from-end break_reader c.loop-line.list.items c.loop-line.number
