use Rattle.std.proofs.lemmas.Result.{err_from_is_err_and}
use Rattle.ant_asm.proofs.BlockLemmas.{text-bodies, text-fails}
use Rattle.ant_asm.proofs.program.take_bodies.Goals as goal

pub returns-in_err-main-clause-fault : goal.returns-in_err-main-clause-fault
returns-in_err-main-clause-fault c = λ text read.
    let p = err_from_is_err_and c.from_residual.result c.from_residual.ensures.1 in
    rw (p.1, p.2) (text-fails text c.args.program.now c.in_err-main.field-0.0 read c.in_err-main.ensures.fault)

pub returns-clause-bodies : goal.returns-clause-bodies
returns-clause-bodies c = λ text read.
    rw (c.replace.ensures.value, c.in_ok-push.ensures.items)
    (text-bodies text c.args.program.now c.in_ok-main.main c.requires.good read c.in_ok-main.ensures.free c.in_ok-main.ensures.main)
