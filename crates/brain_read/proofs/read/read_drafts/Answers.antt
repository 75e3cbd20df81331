use Rattle.std.proofs.Common.{map, sym, ap, ◌∙◌, subst}
use Rattle.std.proofs.lemmas.Result.{err_from_is_err_and}
use Rattle.line_tokens.specs.Inner.LineByLine.{reading_from}
use Rattle.brain_read.specs.Inner.Verdict.{brain_reader}
use Rattle.brain_read.specs.Inner.Answered.{placed_of, FailsAs}
use Rattle.line_tokens.proofs.LineLemmas.{reading_from-start, reading_from-end}
use Rattle.brain_read.proofs.read.read_drafts.Goals as goal

pub returns-in_err-read_line-clause-lines : goal.returns-in_err-read_line-clause-lines
returns-in_err-read_line-clause-lines c =
    let p = err_from_is_err_and c.from_residual.result c.from_residual.ensures.1 in
    rw (p.1, p.2)
    (subst (FailsAs c.in_err-read_line.field-0.0)
    (ap (reading_from brain_reader (map placed_of c.loop-line.drafts.items) c.loop-line.number) (sym c.in-Some.ensures.steps) ∙ c.loop-line.invariant.on ∙ reading_from-start brain_reader c.args.text.now)
    (c.in_err-read_line.ensures.fault c.next.new.self))

pub returns-clause-lines : goal.returns-clause-lines
returns-clause-lines c =
    sym (reading_from-start brain_reader c.args.text.now)
    ∙ sym c.loop-line.invariant.on
    ∙ ap (reading_from brain_reader (map placed_of c.loop-line.drafts.items) c.loop-line.number) c.in-None.ensures.steps.0
    ∙ reading_from-end brain_reader (map placed_of c.loop-line.drafts.items) c.loop-line.number
