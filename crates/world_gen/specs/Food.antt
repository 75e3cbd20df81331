-- The food on the cells of a world (the task's geography).
use Rattle.std.specs.Prelude.{ℕ}
use Rattle.cell_world.specs.World.{World, total}
use Rattle.cell_world.specs.declared.cell.Cell.{Cell}

-- the food on the cells of a world, on hills or off them; what ants carry isn't counted
unfoldable pub food_on : World → ℕ
food_on w = total (λ (cell : Cell). cell.food) w
