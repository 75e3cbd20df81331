-- the built world is the opening world, which is a world, and its bodies are where its ants are
use Rattle.std.proofs.Common.{sym, subst, ◌∙◌, ap}
use Rattle.cell_world.specs.Grid.{Grid, IsWorld}
use Rattle.cell_world.specs.Inner.Index.{IsIndex}
use Rattle.cell_world.specs.Inner.Stored.{stored_places}
use Rattle.cell_world.proofs.OpeningPlaces.{IsIndex-opening}
use Rattle.cell_world.proofs.OpeningStores.{stored_places-opening, same_opening}
use Rattle.cell_world.proofs.OpeningValid.{IsWorld-opening}
use Rattle.cell_world.proofs.world.World.build.Goals as goal

pub invariant_of-result : goal.invariant_of-result
invariant_of-result c =
    let w = c.args.width in
    let h = c.args.height in
    let kinds = c.args.kinds.now in
    let tiles = c.in_ok-parts.parts.tiles.items in
    let bodies = c.in_ok-parts.parts.bodies.items in
    let same = same_opening w h kinds tiles bodies c.requires.few c.in_ok-parts.ensures.tiles c.in_ok-parts.ensures.bodies in
    record {
      world = subst IsWorld (sym same) (IsWorld-opening w h kinds c.requires);
      index = subst (λ (g : Grid). IsIndex g (stored_places bodies)) (sym same) (subst (IsIndex _) (sym (ap stored_places c.in_ok-parts.ensures.bodies ∙ stored_places-opening w 0 kinds)) (IsIndex-opening w h kinds c.requires));
    }

pub returns : goal.returns
returns c = same_opening c.args.width c.args.height c.args.kinds.now c.in_ok-parts.parts.tiles.items c.in_ok-parts.parts.bodies.items c.requires.few c.in_ok-parts.ensures.tiles c.in_ok-parts.ensures.bodies
