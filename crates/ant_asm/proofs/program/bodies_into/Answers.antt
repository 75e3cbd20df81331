use Rattle.std.proofs.lemmas.Result.{err_from_is_err_and}
use Rattle.ant_asm.proofs.ReadingLemmas.{fails-text}
use Rattle.ant_asm.proofs.program.bodies_into.Goals as goal

pub returns-in_err-read_lines-clause-fault : goal.returns-in_err-read_lines-clause-fault
returns-in_err-read_lines-clause-fault c =
    let p = err_from_is_err_and c.from_residual.result c.from_residual.ensures.1 in
    rw (p.1, p.2) (fails-text c.args.text.now c.in_err-read_lines.field-0.0 c.in_err-read_lines.ensures.fault)
