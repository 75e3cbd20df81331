-- the elements so far are placed
use Rattle.std.proofs.Common.{◌≡◌, ◌+◌, ◌*◌, ◌≤◌}
use Rattle.world_gen.proofs.draft.Draft.of_shape.Given as goal
use Rattle.world_gen.specs.Inner.Drafts.{IsBegun}

abbrev pub invariant-loop-number : goal.invariant-loop-number
invariant-loop-number l = record {
  begun : IsBegun l.seed l.shape l.number l.draft.blocked.items l.draft.kinds.items l.stream.place;
  wide : l.draft.width ≡ l.shape.width;
  high : l.draft.height ≡ l.shape.height;
  seed : l.stream.seed ≡ l.seed;
  early : l.stream.place ≤ 151 * l.number;
  total : l.number-end ≡ 2 + l.shape.rocks + l.shape.blobs;
}
