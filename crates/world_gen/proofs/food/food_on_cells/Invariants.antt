-- the cells so far
use Rattle.cell_world.specs.Grid.{IsWorld, world_of}
use Rattle.cell_world.specs.World.{sum_over}
use Rattle.std.proofs.Common.{◌≡◌, ◌*◌}
use Rattle.world_gen.proofs.food.food_on_cells.Given as goal

abbrev pub invariant-loop-number : goal.invariant-loop-number
invariant-loop-number l = record {
  food : l.food ≡ sum_over l.world.width (λ p. ((world_of l.world).cells p).food) l.number;
  world : IsWorld l.world;
  width : l.width ≡ l.world.width;
  end : l.number-end ≡ l.world.width * l.world.height;
}
