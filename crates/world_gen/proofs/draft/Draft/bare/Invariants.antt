-- the cells so far
use Rattle.std.proofs.Common.{◌≡◌}
use Rattle.world_gen.proofs.draft.Draft.bare.Given as goal
use Rattle.world_gen.specs.Inner.Drafts.{bare_blocked, bare_kinds}

abbrev pub invariant-loop-number : goal.invariant-loop-number
invariant-loop-number l = record {
  wide : l.draft.width ≡ l.width;
  high : l.draft.height ≡ l.height;
  blocked : l.draft.blocked.items ≡ bare_blocked l.width l.height l.number;
  kinds : l.draft.kinds.items ≡ bare_kinds l.width l.height l.number;
}
