-- if none are among the rest none are among all
use Rattle.std.proofs.Common.{drop}
use Rattle.spec_record.specs.Inner.Near.{AreNoneOf}
use Rattle.spec_record.proofs.moves.are_none_of.Given as goal

abbrev pub invariant-loop-cell : goal.invariant-loop-cell
invariant-loop-cell l = AreNoneOf l.colour (drop l.cell-index l.list) → AreNoneOf l.colour l.list
