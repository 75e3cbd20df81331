-- what is found so far, and what the others change of it
use Rattle.std.proofs.Common.{◌≡◌, None, drop}
use Rattle.spec_record.specs.Inner.Laid.{newest}
use Rattle.spec_record.proofs.trail.newest.Given as goal

abbrev pub invariant-loop-q : goal.invariant-loop-q
invariant-loop-q l = newest l.found l.p (drop l.q-index l.sets) ≡ newest None l.p l.sets
