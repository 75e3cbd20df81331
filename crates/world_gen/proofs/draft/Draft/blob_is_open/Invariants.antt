-- the lines so far are open
use Rattle.hex_geometry.specs.Position.{point_of}
use Rattle.std.proofs.Common.{◌≡◌}
use Rattle.world_gen.proofs.draft.Draft.blob_is_open.Given as goal
use Rattle.world_gen.specs.Elements.{point_after}
use Rattle.world_gen.specs.Inner.Open.{LinesAreOpen}

abbrev pub invariant-loop-along : goal.invariant-loop-along
invariant-loop-along l = record {
  here : point_of l.start ≡ point_after l.along l.first (point_of l.fn.corner);
  free : LinesAreOpen l.self.width l.self.height l.self.blocked.items (point_of l.fn.corner) l.first l.along;
}
