-- the picks so far name the looks at their turns
use Rattle.std.proofs.Common.{[]}
use Rattle.far_crew.specs.Inner.Picks.{ArePicksOf}
use Rattle.far_crew.proofs.pick.sift.Given as goal

abbrev pub invariant-loop-line : goal.invariant-loop-line
invariant-loop-line l = ArePicksOf l.field l.turns l.lines [] l.picks
