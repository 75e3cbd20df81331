use Rattle.std.proofs.Common.{◌≡◌, ◌+◌, ℕ, [], arith, subst, sym}
use Rattle.game_reports.specs.Inner.Tallies.{IsTallied}
use Rattle.game_reports.proofs.TallyLemmas.{none-more}
use Rattle.game_reports.proofs.tally.none_counted.Goals as goal

pub loop-preserved : goal.loop-preserved
loop-preserved c = λ colour. subst (IsTallied colour (c.loop.counter + 1) []) (sym c.in_ok-push.ensures.items) (none-more colour c.loop.counter c.loop.tallies.items (c.loop.invariant colour))

pub returns : goal.returns
returns c =
    let all : c.loop.counter ≡ c.args.states = omega (arith, c.loop-test.false, c.loop.auto.counter-end) in
    λ colour. subst (λ (n : ℕ). IsTallied colour n [] c.loop.tallies.items) all (c.loop.invariant colour)
