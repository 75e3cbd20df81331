-- it is the one here, or a later one
use Rattle.std.proofs.Common.{sym, ◌∙◌, arith}
use Rattle.std.proofs.lemmas.Bool.{cond-true, cond-false}
use Rattle.spec_record.proofs.Sighting.{seen_number-drop}
use Rattle.spec_record.proofs.sightings.number_of.Goals as goal

pub returns-then-is_same : goal.returns-then-is_same
returns-then-is_same c =
    let here = seen_number-drop c.args.p c.args.list.now c.loop-q.q-index _ c.loop-q-test.true ∙ cond-true _ _ _ (sym c.is_same.ensures ∙ c.if-is_same.true) in
    omega (arith, here, c.loop-q.invariant.left)

pub loop-q-preserved : goal.loop-q-preserved
loop-q-preserved c =
    let there = seen_number-drop c.args.p c.args.list.now c.loop-q.q-index _ c.loop-q-test.true ∙ cond-false _ _ _ (sym c.is_same.ensures ∙ c.if-is_same.false) in
    record {
      counted = omega (arith, c.loop-q.invariant.counted);
      left = omega (arith, there, c.loop-q.invariant.left);
    }
