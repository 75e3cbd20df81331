use Rattle.std.proofs.Common.{◌∙◌, sym, subst}
use Rattle.std.proofs.lemmas.Result.{err_from_is_err_and}
use Rattle.brain_read.specs.Grammar.{IsBrainText}
use Rattle.brain_read.proofs.FaultyLemmas.{brain_read_of, one_brain, never_both}
use Rattle.brain_read.proofs.SoundnessLemmas.{brain_of}
use Rattle.brain_read.proofs.VerdictLemmas.{faults, failed_brain, failed_fault}
use Rattle.brain_read.proofs.read.read_brain.Goals as goal
use Rattle.brain_read.proofs.read.read_brain.Goals.{In_ok-list}

-- the list that was read is the text's brain
read : (c : In_ok-list) → IsBrainText c.args.text.now c.in_ok-list.list.items
read c = brain_read_of c.args.text.now c.in_ok-list.list.items c.in_ok-list.ensures

pub returns-in_err-list-clause-fault : goal.returns-in_err-list-clause-fault
returns-in_err-list-clause-fault c =
    let p = err_from_is_err_and c.from_residual.result c.from_residual.ensures.1 in
    rw (p.1, p.2) (faults c.args.text.now c.in_err-list.field-0.0 c.in_err-list.ensures)

pub returns-in_err-list-clause-every_brain : goal.returns-in_err-list-clause-every_brain
returns-in_err-list-clause-every_brain c = λ brain text.
    let p = err_from_is_err_and c.from_residual.result c.from_residual.ensures.1 in
    rw (p.1, p.2) (failed_brain c.args.text.now brain text c.in_err-list.field-0.0 c.in_err-list.ensures)

pub returns-in_err-list-clause-every_fault : goal.returns-in_err-list-clause-every_fault
returns-in_err-list-clause-every_fault c = λ fault verdict.
    let p = err_from_is_err_and c.from_residual.result c.from_residual.ensures.1 in
    rw (p.1, p.2) (failed_fault c.args.text.now fault verdict c.in_err-list.field-0.0 c.in_err-list.ensures)

pub from_list-requires : goal.from_list-requires
from_list-requires c = brain_of c.args.text.now c.in_ok-list.list.items (read c)

pub returns-clause-brain : goal.returns-clause-brain
returns-clause-brain c = subst (IsBrainText c.args.text.now) (sym c.from_list.ensures) (read (goal.at.returns-clause-brain c).In_ok-list)

pub returns-clause-every_brain : goal.returns-clause-every_brain
returns-clause-every_brain c = λ brain text. c.from_list.ensures ∙ one_brain c.args.text.now c.in_ok-list.list.items brain (read (goal.at.returns-clause-every_brain c).In_ok-list) text

pub returns-clause-every_fault : goal.returns-clause-every_fault
returns-clause-every_fault c = λ fault verdict. never_both c.args.text.now c.in_ok-list.list.items fault (read (goal.at.returns-clause-every_fault c).In_ok-list) verdict
