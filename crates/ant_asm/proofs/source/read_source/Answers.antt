use Rattle.std.proofs.lemmas.Result.{err_from_is_err_and}
use Rattle.ant_asm.proofs.Expansion.{fault-only, want-only}
use Rattle.ant_asm.proofs.SourceRead.{are-listed, one-source, source-fault, source-read}
use Rattle.ant_asm.specs.Inner.Outlines.{source_seen}
use Rattle.ant_asm.proofs.source.read_source.Goals as goal

pub returns-in_err-_program-clause-fault : goal.returns-in_err-_program-clause-fault
returns-in_err-_program-clause-fault c =
    let p = err_from_is_err_and c.from_residual.result c.from_residual.ensures.1 in
    rw (p.1, p.2) c.in_err-_program.ensures.fault

pub returns-in_err-_program-clause-every_source : goal.returns-in_err-_program-clause-every_source
returns-in_err-_program-clause-every_source c = λ source is.
    let p = err_from_is_err_and c.from_residual.result c.from_residual.ensures.1 in
    rw (p.1, p.2) (want-only c.args.text.now c.in_err-_program.field-0.0 c.in_err-_program.ensures.fault is.0.main is.0.is)

pub returns-in_err-_program-clause-every_fault : goal.returns-in_err-_program-clause-every_fault
returns-in_err-_program-clause-every_fault c = λ fault wrong.
    let p = err_from_is_err_and c.from_residual.result c.from_residual.ensures.1 in
    rw (p.1, p.2) (fault-only c.args.text.now c.in_err-_program.field-0.0 c.in_err-_program.ensures.fault fault wrong)

pub invariant_of-result : goal.invariant_of-result
invariant_of-result c = are-listed c.args.text.now c.in_ok-_program._program.items c.in_ok-bodies.bodies.items c.in_ok-_program.ensures.bodies c.in_ok-bodies.ensures

pub returns-clause-source : goal.returns-clause-source
returns-clause-source c = source-read c.args.text.now c.in_ok-_program._program.items c.in_ok-bodies.bodies.items c.in_ok-_program.ensures.bodies c.in_ok-bodies.ensures

pub returns-clause-every_source : goal.returns-clause-every_source
returns-clause-every_source c = λ source is.
    one-source c.args.text.now (source_seen c.in_ok-bodies.bodies.items) source
    (source-read c.args.text.now c.in_ok-_program._program.items c.in_ok-bodies.bodies.items c.in_ok-_program.ensures.bodies c.in_ok-bodies.ensures) is

pub returns-clause-every_fault : goal.returns-clause-every_fault
returns-clause-every_fault c = λ fault wrong.
    source-fault c.args.text.now (source_seen c.in_ok-bodies.bodies.items)
    (source-read c.args.text.now c.in_ok-_program._program.items c.in_ok-bodies.bodies.items c.in_ok-_program.ensures.bodies c.in_ok-bodies.ensures) fault wrong
