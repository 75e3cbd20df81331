use Rattle.std.proofs.Common.{take}
use Rattle.std.specs.List.{AllByRecursion}
use Rattle.brain_read.specs.Forms.{HasBound}
use Rattle.match_save.proofs.saves.bounds_are_short.Given as goal

-- the bounds of the states so far are numbers of 32 bits
abbrev pub invariant-loop-state : goal.invariant-loop-state
invariant-loop-state l = AllByRecursion HasBound (take l.state l.brain)
