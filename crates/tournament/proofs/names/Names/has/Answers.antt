use Rattle.std.proofs.Common.{sym, ◌∙◌}
use Rattle.tournament.proofs.NamesLemmas.{looked_at, none_left}
use Rattle.tournament.proofs.names.Names.has.Goals as goal

pub returns-then-eq : goal.returns-then-eq
returns-then-eq c =
    looked_at c.deref-other-items.result.now c.loop-other.other-index c.args.name.now _ c.loop-other.invariant
    c.other-item.result c.as_str.result.now _ c.loop-other-test.true c.other-item.is c.as_str.ensures.value (sym c.eq.ensures ∙ c.if-eq.true)

pub loop-other-preserved : goal.loop-other-preserved
loop-other-preserved c =
    looked_at c.deref-other-items.result.now c.loop-other.other-index c.args.name.now _ c.loop-other.invariant
    c.other-item.result c.as_str.result.now _ c.loop-other-test.true c.other-item.is c.as_str.ensures.value (sym c.eq.ensures ∙ c.if-eq.false)

pub returns : goal.returns
returns c = none_left c.deref-other-items.result.now c.loop-other.other-index c.args.name.now _ c.loop-other.invariant c.loop-other-test.false
