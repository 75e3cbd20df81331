use Rattle.match_save.proofs.MarkSets.{IsFilled}
use Rattle.match_save.proofs.floor.marks_of.Given as goal

abbrev pub invariant-loop-i : goal.invariant-loop-i
invariant-loop-i l = IsFilled l.set l.i l.marks.set
