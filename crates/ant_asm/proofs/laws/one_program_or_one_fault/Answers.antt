use Rattle.ant_asm.proofs.LineLemmas.{lines_decide}
use Rattle.ant_asm.proofs.TextLemmas.{never_both, one_fault, one_program, some}
use Rattle.ant_asm.proofs.laws.one_program_or_one_fault.Goals as goal

pub returns : goal.returns
returns c = record { some = some lines_decide; one_program = one_program lines_decide; one_fault = one_fault lines_decide; never_both = never_both lines_decide }
