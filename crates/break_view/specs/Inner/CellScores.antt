-- What one cell adds to the score, and how the score changes with it.
use Rattle.std.specs.Prelude.{◌≡◌, ◌+◌, ◌<◌, ◌≤◌, ◌^◌, Option, Some, None}
use Rattle.hex_geometry.specs.declared.position.Pos.{Pos}
use Rattle.cell_world.specs.declared.ant.Colour.TheVariants.{Red, Black}
use Rattle.cell_world.specs.declared.cell.Cell.{Cell}
use Rattle.cell_world.specs.declared.score.Score.{Score}
use Rattle.cell_world.specs.Score.{hill_food_in}
use Rattle.cell_world.specs.World.{World}

-- the food that a cell adds to each hill
abbrev pub score_in : Cell → Score
score_in cell = record { red = hill_food_in Red cell; black = hill_food_in Black cell }

-- the same, and nothing if there is no cell
abbrev pub score_in_any : Option Cell → Score
score_in_any None = record { red = 0; black = 0 }
score_in_any (Some cell) = score_in cell

-- the cell at a position, if there is a position
abbrev pub cell_at : World → Option Pos → Option Cell
cell_at w None = None
cell_at w (Some p) = Some (w.cells p)

-- the score changed by one cell only, which added one part before and adds the other after
pub record IsCounted (old before new after : Score) : Type 0 where
  pub red : new.red + before.red ≡ old.red + after.red
  pub black : new.black + before.black ≡ old.black + after.black

-- the score can be updated by what a cell added before and adds now
pub record CanCount (score before after : Score) : Type 0 where
  pub red : before.red ≤ score.red + after.red
  pub black : before.black ≤ score.black + after.black
  pub few_red : score.red + after.red < 2 ^ 32
  pub few_black : score.black + after.black < 2 ^ 32
