-- it fits in no column so far
use Rattle.hex_geometry.specs.declared.position.Pos.{Pos}
use Rattle.std.proofs.Common.{◌≡◌, ◌<◌}
use Rattle.world_gen.proofs.draft.Draft.first_in_row.Given as goal
use Rattle.world_gen.specs.Inner.Open.{AllOpen}
use Rattle.world_gen.specs.Placing.{spot_at}

abbrev pub invariant-loop-x : goal.invariant-loop-x
invariant-loop-x l = (p : Pos) → p.y ≡ l.y → p.x < l.x → AllOpen l.self.width l.self.height l.self.blocked.items (spot_at l.figure p) → ⊥
