use Rattle.ant_base.proofs.Digits.{Read}
use Rattle.ant_base.proofs.number.read_number.Given as goal

abbrev pub invariant-loop-digit : goal.invariant-loop-digit
invariant-loop-digit l = Read l.text l.digit-index l.value
