-- none of the first positions holds the ant
use Rattle.std.proofs.Common.{◌≡◌, drop}
use Rattle.spec_record.specs.Inner.Laid.{first_held}
use Rattle.spec_record.proofs.trail.set_place.Given as goal

abbrev pub invariant-loop-p : goal.invariant-loop-p
invariant-loop-p l = first_held l.sets l.id (drop l.p-index l.sets) ≡ first_held l.sets l.id l.sets
