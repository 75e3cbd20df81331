use Rattle.std.proofs.Common.{◌∙◌, sym, subst}
use Rattle.std.proofs.lemmas.Result.{err_from_is_err_and}
use Rattle.break_view.specs.Grammar.{IsBreakText}
use Rattle.break_view.proofs.FaultyLemmas.{list_read_of, one_list, never_both}
use Rattle.break_view.proofs.VerdictLemmas.{faults, failed_list, failed_fault}
use Rattle.break_view.proofs.read.read_breaks.Goals as goal
use Rattle.break_view.proofs.read.read_breaks.Goals.{In_ok-list}

-- the list that was read is the text's
read : (c : In_ok-list) → IsBreakText c.args.text.now c.in_ok-list.list.items
read c = list_read_of c.args.text.now c.in_ok-list.list.items c.in_ok-list.ensures.lines

pub returns-in_err-list-clause-fault : goal.returns-in_err-list-clause-fault
returns-in_err-list-clause-fault c =
    let p = err_from_is_err_and c.from_residual.result c.from_residual.ensures.1 in
    rw (p.1, p.2) (faults c.args.text.now c.in_err-list.field-0.0 c.in_err-list.ensures.fault)

pub returns-in_err-list-clause-every_list : goal.returns-in_err-list-clause-every_list
returns-in_err-list-clause-every_list c = λ list text.
    let p = err_from_is_err_and c.from_residual.result c.from_residual.ensures.1 in
    rw (p.1, p.2) (failed_list c.args.text.now list text c.in_err-list.field-0.0 c.in_err-list.ensures.fault)

pub returns-in_err-list-clause-every_fault : goal.returns-in_err-list-clause-every_fault
returns-in_err-list-clause-every_fault c = λ fault verdict.
    let p = err_from_is_err_and c.from_residual.result c.from_residual.ensures.1 in
    rw (p.1, p.2) (failed_fault c.args.text.now fault verdict c.in_err-list.field-0.0 c.in_err-list.ensures.fault)

pub returns-clause-breaks : goal.returns-clause-breaks
returns-clause-breaks c = subst (IsBreakText c.args.text.now) (sym c.from_list.ensures) (read (goal.at.returns-clause-breaks c).In_ok-list)

pub returns-clause-every_list : goal.returns-clause-every_list
returns-clause-every_list c = λ list text. c.from_list.ensures ∙ one_list c.args.text.now c.in_ok-list.list.items list (read (goal.at.returns-clause-every_list c).In_ok-list) text

pub returns-clause-every_fault : goal.returns-clause-every_fault
returns-clause-every_fault c = λ fault verdict. never_both c.args.text.now c.in_ok-list.list.items fault (read (goal.at.returns-clause-every_fault c).In_ok-list) verdict
