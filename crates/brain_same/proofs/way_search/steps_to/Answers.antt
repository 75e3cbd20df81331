use Rattle.std.proofs.Common.{◌≡◌, ℕ, subst, ◌∙◌, arith}
use Rattle.brain_same.proofs.ReachedLemmas.{Walks, Walks-end, Walks-on, kept-earlier, kept-inside}
use Rattle.brain_same.proofs.way_search.steps_to.Goals as goal

pub reached_at-requires : goal.reached_at-requires
reached_at-requires c =
    let less = kept-earlier c.args.first.now c.args.second.now c.args.reached.now c.requires.kept c.loop-at.at c.reached_at-it.result c.reached_at-it.ensures c.loop-at-test.true in
    let inside = c.loop-at.invariant.inside in
    omega arith

pub step-requires : goal.step-requires
step-requires c = kept-inside c.args.first.now c.args.second.now c.args.reached.now c.requires.kept c.requires.first c.requires.second c.reached_at-it.result.from c.reached_at.result c.reached_at.ensures

pub loop-at-smaller : goal.loop-at-smaller
loop-at-smaller c = kept-earlier c.args.first.now c.args.second.now c.args.reached.now c.requires.kept c.loop-at.at c.reached_at-it.result c.reached_at-it.ensures c.loop-at-test.true

pub loop-at-preserved : goal.loop-at-preserved
loop-at-preserved c =
    rw (c.in_ok-push.ensures.items, c.step.ensures)
    (Walks-on c.args.first.now c.args.second.now c.args.reached.now c.args.place c.loop-at.at c.loop-at.steps.items c.reached_at-it.result c.reached_at.result c.requires.kept c.loop-at.invariant
    c.loop-at-test.true c.reached_at-it.ensures c.reached_at.ensures)

pub returns : goal.returns
returns c = λ ways way are led.
    let start : c.loop-at.at ≡ 0 = omega (arith, c.loop-at-test.false) in
    c.reverse.ensures.items
    ∙ Walks-end c.args.first.now c.args.second.now c.args.reached.now c.args.place c.loop-at.steps.items
    (subst (λ (at : ℕ). Walks c.args.first.now c.args.second.now c.args.reached.now c.args.place at c.loop-at.steps.items) start c.loop-at.invariant) ways way are led
