-- one cell after another
use Rattle.std.proofs.Common.{◌∙◌, refl}
use Rattle.world_gen.proofs.Bares.{bare_blocked_more, bare_kinds_more, bare_blocked_none, bare_kinds_none}
use Rattle.world_gen.proofs.draft.Draft.bare.Goals as goal

pub loop-number-init : goal.loop-number-init
loop-number-init c = record {
  wide = refl;
  high = refl;
  blocked = c.in_ok-with_capacity.ensures.items ∙ bare_blocked_none c.args.width c.args.height;
  kinds = c.in_ok-with_capacity-2.ensures.items ∙ bare_kinds_none c.args.width c.args.height;
}

pub loop-number-preserved : goal.loop-number-preserved
loop-number-preserved c = record {
  wide = c.add.ensures.width ∙ c.loop-number.invariant.wide;
  high = c.add.ensures.height ∙ c.loop-number.invariant.high;
  blocked = bare_blocked_more c.loop-number.draft.width c.loop-number.draft.height c.args.width c.args.height c.loop-number.number c.loop-number.draft.blocked.items c.add.new.self.blocked.items c.loop-number.invariant.wide c.loop-number.invariant.high c.loop-number.invariant.blocked c.in_ok-add.ensures.blocked;
  kinds = bare_kinds_more c.loop-number.draft.width c.loop-number.draft.height c.args.width c.args.height c.loop-number.number c.loop-number.draft.kinds.items c.add.new.self.kinds.items c.loop-number.invariant.wide c.loop-number.invariant.high c.loop-number.invariant.kinds c.in_ok-add.ensures.kinds;
}
