-- the cells so far are stamped
use Rattle.std.proofs.Common.{◌≡◌, take}
use Rattle.world_gen.proofs.draft.Draft.stamp_all.Given as goal
use Rattle.world_gen.specs.Inner.Drafts.{IsStamped}

abbrev pub invariant-loop-cell : goal.invariant-loop-cell
invariant-loop-cell l = record {
  wide : l.self.width ≡ l.fn.self.width;
  high : l.self.height ≡ l.fn.self.height;
  stamped : IsStamped l.fn.self.width l.fn.self.height (take l.cell-index l.cells) l.kind l.fn.self.blocked.items l.self.blocked.items l.fn.self.kinds.items l.self.kinds.items;
}
