use Rattle.std.proofs.Common.{sym, subst, ◌∙◌}
use Rattle.std.proofs.lemmas.Result.{err_from_is_err_and}
use Rattle.brain_read.specs.Soundness.{IsBrain}
use Rattle.ant_asm.specs.Answers.{IsAssembledText}
use Rattle.ant_asm.specs.Inner.ProgramView.{AreBodiesOf}
use Rattle.ant_asm.proofs.Expansion.{fault-only, main-brain, no-fault, program-assembled, text-assembled, want-only}
use Rattle.ant_asm.proofs.LabelGames.{game_labelled}
use Rattle.ant_asm.proofs.assembly.assemble.Goals as goal
use Rattle.ant_asm.proofs.assembly.assemble.Goals.{After-with_brain}

pub returns-in_err-bodies-clause-fault : goal.returns-in_err-bodies-clause-fault
returns-in_err-bodies-clause-fault c =
    let p = err_from_is_err_and c.from_residual.result c.from_residual.ensures.1 in
    rw (p.1, p.2) c.in_err-bodies.ensures.fault

pub returns-in_err-bodies-clause-every_program : goal.returns-in_err-bodies-clause-every_program
returns-in_err-bodies-clause-every_program c = λ main program.
    let p = err_from_is_err_and c.from_residual.result c.from_residual.ensures.1 in
    rw (p.1, p.2) (want-only c.args.text.now c.in_err-bodies.field-0.0 c.in_err-bodies.ensures.fault main program)

pub returns-in_err-bodies-clause-every_fault : goal.returns-in_err-bodies-clause-every_fault
returns-in_err-bodies-clause-every_fault c = λ fault wrong.
    let p = err_from_is_err_and c.from_residual.result c.from_residual.ensures.1 in
    rw (p.1, p.2) (fault-only c.args.text.now c.in_err-bodies.field-0.0 c.in_err-bodies.ensures.fault fault wrong)

pub with_brain-requires : goal.with_brain-requires
with_brain-requires c =
    subst IsBrain (sym c.in_ok-made.ensures.list)
    (main-brain c.args.text.now c.deref.result.now (subst (AreBodiesOf c.args.text.now) (sym c.deref.ensures.value) c.in_ok-bodies.ensures.bodies))

-- what is returned
made : (c : After-with_brain) → IsAssembledText c.args.text.now c.with_brain.result.brain c.with_brain.result.places
made c =
    text-assembled c.args.text.now c.deref.result.now (subst (AreBodiesOf c.args.text.now) (sym c.deref.ensures.value) c.in_ok-bodies.ensures.bodies) c.with_brain.result.brain c.with_brain.result.places
    (c.with_brain.ensures.brain ∙ c.in_ok-made.ensures.list) (c.with_brain.ensures.places ∙ c.in_ok-made.ensures.places)

pub returns-clause-program : goal.returns-clause-program
returns-clause-program c = made (goal.at.returns-clause-program c).After-with_brain

pub returns-clause-every_program : goal.returns-clause-every_program
returns-clause-every_program c = λ main program.
    program-assembled c.args.text.now c.with_brain.result.brain c.with_brain.result.places (made (goal.at.returns-clause-every_program c).After-with_brain) main program

pub returns-clause-every_fault : goal.returns-clause-every_fault
returns-clause-every_fault c = λ fault wrong.
    no-fault c.args.text.now c.with_brain.result.brain c.with_brain.result.places (made (goal.at.returns-clause-every_fault c).After-with_brain) fault wrong

pub returns-clause-plays : goal.returns-clause-plays
returns-clause-plays c = λ main program side minds seed width height kinds r sound valid.
    game_labelled main c.with_brain.result.brain c.with_brain.result.places
    (program-assembled c.args.text.now c.with_brain.result.brain c.with_brain.result.places (made (goal.at.returns-clause-plays c).After-with_brain) main program)
    side minds seed width height kinds r sound valid
