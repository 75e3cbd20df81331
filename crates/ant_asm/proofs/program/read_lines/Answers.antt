use Rattle.std.proofs.Common.{sym, ap, ◌∙◌, subst}
use Rattle.std.proofs.lemmas.Result.{err_from_is_err_and}
use Rattle.ant_asm.specs.Inner.ProgramView.{FailsAs, program_seen, reading_from}
use Rattle.ant_asm.proofs.ReadingLemmas.{reading_from-end, reading_from-start}
use Rattle.ant_asm.proofs.program.read_lines.Goals as goal

pub returns-in_err-read-clause-fault : goal.returns-in_err-read-clause-fault
returns-in_err-read-clause-fault c =
    let p = err_from_is_err_and c.from_residual.result c.from_residual.ensures.1 in
    rw (p.1, p.2)
    (subst (FailsAs c.in_err-read.field-0.0)
    (ap (reading_from (program_seen c.loop-line.program) c.loop-line.number) (sym c.in-Some.ensures.steps) ∙ c.loop-line.invariant.on ∙ reading_from-start c.args.text.now)
    (c.in_err-read.ensures.fault c.next.new.self))

pub returns-clause-read : goal.returns-clause-read
returns-clause-read c =
    sym (reading_from-start c.args.text.now)
    ∙ sym c.loop-line.invariant.on
    ∙ ap (reading_from (program_seen c.loop-line.program) c.loop-line.number) c.in-None.ensures.steps.0
    ∙ reading_from-end (program_seen c.loop-line.program) c.loop-line.number
