use Rattle.std.proofs.Common.{sym, arith}
use Rattle.ant_base.proofs.Digits.{read_small, read_more, read_other, none_of_other}
use Rattle.ant_base.proofs.number.read_number.Goals as goal

pub returns-then-not-is_ascii_digit-clause-value : goal.returns-then-not-is_ascii_digit-clause-value
returns-then-not-is_ascii_digit-clause-value c = sym (none_of_other _ (read_other _ _ _ (omega arith) (sym c.if-not-is_ascii_digit.ensures.value) c.loop-digit.invariant))

pub overflow_mul-value : goal.overflow_mul-value
overflow_mul-value c = omega (arith, read_small c.args.text.now _ _ (omega arith) c.loop-digit.invariant)

pub overflow_add-value : goal.overflow_add-value
overflow_add-value c = omega (arith, read_small c.args.text.now _ _ (omega arith) c.loop-digit.invariant)

pub loop-digit-preserved : goal.loop-digit-preserved
loop-digit-preserved c = rw c.from.ensures (read_more _ _ _ (omega arith) (sym c.if-not-is_ascii_digit.ensures.value) c.if-not-is_ascii_digit.ensures.bound c.loop-digit.invariant)

pub returns-clause-small : goal.returns-clause-small
returns-clause-small c = read_small c.args.text.now _ _ (omega arith) c.loop-digit.invariant
