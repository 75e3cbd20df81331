use Rattle.brain_read.proofs.FaultyLemmas.{some_answer, one_brain, one_fault, never_both}
use Rattle.brain_read.proofs.laws.one_brain_or_one_fault.Goals as goal

pub returns : goal.returns
returns c = record { some = some_answer; one_brain = one_brain; one_fault = one_fault; never_both = never_both }
