-- the positions so far are open
use Rattle.hex_geometry.specs.Position.{point_of}
use Rattle.std.proofs.Common.{◌≡◌}
use Rattle.world_gen.proofs.draft.Draft.line_is_open.Given as goal
use Rattle.world_gen.specs.Elements.{point_after}
use Rattle.world_gen.specs.Inner.Open.{LineIsOpen}

abbrev pub invariant-loop-beside : goal.invariant-loop-beside
invariant-loop-beside l = record {
  here : point_of l.p ≡ point_after l.beside l.way (point_of l.fn.start);
  free : LineIsOpen l.self.width l.self.height l.self.blocked.items (point_of l.fn.start) l.way l.beside;
}
