-- the picks so far name the looks at their turns
use Rattle.std.proofs.Common.{[]}
use Rattle.far_crew.specs.Inner.Picks.{ArePicksOf}
use Rattle.far_crew.proofs.pick.sift_answer.Given as goal

abbrev pub invariant-loop-at : goal.invariant-loop-at
invariant-loop-at l = ArePicksOf l.field l.turns l.lines [] l.picks
