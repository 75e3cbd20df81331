-- the cells of a spot that fits are off the rim
use Rattle.hex_geometry.specs.Position.{IsInner}
use Rattle.std.proofs.Common.{subst}
use Rattle.std.specs.Prelude.{Contains}
use Rattle.world_gen.proofs.Follows.{goes_fits}
use Rattle.world_gen.proofs.Steps.{point_one}
use Rattle.world_gen.proofs.draft.Draft.put.Goals as goal
use Rattle.world_gen.specs.Inner.Open.{AllOpen}

pub stamp_all-requires-clause-inner : goal.stamp_all-requires-clause-inner
stamp_all-requires-clause-inner c p among =
    let all = goes_fits (AllOpen c.args.self.now.width c.args.self.now.height c.args.self.now.blocked.items) _ c.args.self.now.width c.args.self.now.height c.args.element _ c.in-Some.spot _ c.in-Some.ensures.chosen in
    let cell = c.in_ok-cells.ensures.cells.each p (subst (λ l. Contains l p) c.deref.ensures.value among) in
    let place = all _ cell in
    subst (IsInner c.args.self.now.width c.args.self.now.height) (point_one place.0 p place.1) (c.requires.fence.rim place.0 place.2)
