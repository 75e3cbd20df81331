-- the ants alive are counted by their bodies
use Rattle.std.proofs.Common.{sym, ◌∙◌, ap, count_by}
use Rattle.cell_world.specs.Cell.{rock}
use Rattle.cell_world.specs.Grid.{Grid, world_of}
use Rattle.cell_world.specs.Score.{alive_of}
use Rattle.cell_world.specs.Inner.Stored.{is_living, tile_of}
use Rattle.cell_world.proofs.LiveBodies.{alive_of-bodies}
use Rattle.cell_world.proofs.world.World.alive.Goals as goal

pub returns-clause-alive : goal.returns-clause-alive
returns-clause-alive c =
    let fields = c.self.inside in
    c.living_in.ensures
    ∙ ap (count_by (is_living c.args.colour)) c.deref.ensures.value
    ∙ sym (alive_of-bodies fields.width fields.height fields.tiles.items fields.bodies.items (tile_of rock) c.args.colour c.self.invariant.world c.self.invariant.index)
    ∙ ap (λ (g : Grid). alive_of (world_of g) c.args.colour) c.self.view_is
