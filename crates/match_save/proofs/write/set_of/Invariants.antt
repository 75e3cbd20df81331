use Rattle.match_save.proofs.MarkSets.{IsFilled}
use Rattle.match_save.proofs.write.set_of.Given as goal

abbrev pub invariant-loop-i : goal.invariant-loop-i
invariant-loop-i l = IsFilled l.marks.set l.i l.set
