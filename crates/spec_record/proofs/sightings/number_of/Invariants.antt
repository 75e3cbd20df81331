-- it is none of those before
use Rattle.std.proofs.Common.{◌≡◌, ◌+◌, drop}
use Rattle.spec_record.specs.Inner.Sightings.{seen_number}
use Rattle.spec_record.proofs.sightings.number_of.Given as goal

abbrev pub invariant-loop-q : goal.invariant-loop-q
invariant-loop-q l = record { counted : l.number ≡ l.q-index; left : seen_number l.p (drop l.q-index l.list) + l.number ≡ seen_number l.p l.list }
