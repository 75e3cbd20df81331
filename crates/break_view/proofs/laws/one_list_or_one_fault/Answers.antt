use Rattle.break_view.proofs.FaultyLemmas.{some_answer, one_list, one_fault, never_both}
use Rattle.break_view.proofs.laws.one_list_or_one_fault.Goals as goal

pub returns : goal.returns
returns c = record { some = some_answer; one_list = one_list; one_fault = one_fault; never_both = never_both }
