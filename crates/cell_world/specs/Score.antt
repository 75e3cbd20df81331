-- The score, the food and the ants of a world (the task's game play and biology).
use Rattle.std.specs.Prelude.{ℕ, ◌*◌, if◌then◌else◌}
use Rattle.cell_world.specs.declared.ant.Colour.{Colour}
use Rattle.cell_world.specs.declared.ant.Colour.TheVariants.{Red, Black}
use Rattle.cell_world.specs.declared.cell.Cell.{Cell}
use Rattle.cell_world.specs.declared.score.Score.{Score}
use Rattle.cell_world.specs.Cell.{food_in, is_hill_of, is_ant_of, one_if}
use Rattle.cell_world.specs.World.{World, sum_over, total}

-- the food on a cell, if it belongs to this colour's hill
abbrev pub hill_food_in : Colour → Cell → ℕ
hill_food_in colour cell = if is_hill_of colour cell.hill then cell.food else 0

-- the food on the cells of this colour's hill
unfoldable pub hill_food_of : World → Colour → ℕ
hill_food_of w colour =
    sum_over w.width (λ p. if is_hill_of colour (w.cells p).hill then (w.cells p).food else 0) (w.width * w.height)

-- all food of a world, on cells and carried
unfoldable pub food_of : World → ℕ
food_of w = total food_in w

-- 1 if the cell holds an ant of this colour, otherwise 0
abbrev pub alive_in : Colour → Cell → ℕ
alive_in colour cell = one_if (is_ant_of colour cell.ant)

-- how many ants of this colour are alive
unfoldable pub alive_of : World → Colour → ℕ
alive_of w colour = total (alive_in colour) w

-- the food on the red hill and on the black hill
unfoldable pub score_of : World → Score
score_of w = record { red = hill_food_of w Red; black = hill_food_of w Black }
