-- the food on a hill is summed over the tiles, and a world is light enough for it
use Rattle.std.proofs.Common.{sym, ◌∙◌, ◌≤◌, ap, sum_by, subst, arith}
use Rattle.cell_world.specs.Grid.{Grid, world_of}
use Rattle.cell_world.specs.Inner.Inside.{grid_of}
use Rattle.cell_world.specs.Limits.{most_weight}
use Rattle.cell_world.specs.Score.{hill_food_of}
use Rattle.cell_world.specs.Inner.Stored.{tile_food}
use Rattle.cell_world.proofs.GridSums.{hill_food_in-light, hill_food_of-list, tile_food-cells}
use Rattle.cell_world.proofs.world.World.hill_food.Goals as goal

pub food_in-requires : goal.food_in-requires
food_in-requires c =
    let fields = c.self.inside in
    let light : sum_by (tile_food c.args.colour) fields.tiles.items ≤ most_weight = subst (λ n. n ≤ most_weight) (sym (tile_food-cells c.args.colour fields.bodies.items fields.tiles.items)) (hill_food_in-light (grid_of fields) c.args.colour c.self.invariant.world) in
    let there : sum_by (tile_food c.args.colour) c.deref.result.now ≤ most_weight = subst (λ tiles. sum_by (tile_food c.args.colour) tiles ≤ most_weight) (sym c.deref.ensures.value) light in
    omega arith

pub returns-clause-food : goal.returns-clause-food
returns-clause-food c =
    let fields = c.self.inside in
    c.food_in.ensures
    ∙ ap (sum_by (tile_food c.args.colour)) c.deref.ensures.value
    ∙ tile_food-cells c.args.colour fields.bodies.items fields.tiles.items
    ∙ sym (hill_food_of-list (grid_of fields) c.args.colour c.self.invariant.world.full)
    ∙ ap (λ (g : Grid). hill_food_of (world_of g) c.args.colour) c.self.view_is
