-- it fits in no row so far
use Rattle.hex_geometry.specs.Position.{IsInside}
use Rattle.hex_geometry.specs.declared.position.Pos.{Pos}
use Rattle.std.proofs.Common.{◌<◌}
use Rattle.world_gen.proofs.draft.Draft.first_place.Given as goal
use Rattle.world_gen.specs.Inner.Open.{AllOpen}
use Rattle.world_gen.specs.Placing.{spot_at}

abbrev pub invariant-loop-y : goal.invariant-loop-y
invariant-loop-y l = (p : Pos) → IsInside l.self.width l.self.height p → p.y < l.y → AllOpen l.self.width l.self.height l.self.blocked.items (spot_at l.figure p) → ⊥
