-- Cells (the task's geography, chemistry and biology).
use Rattle.std.specs.Prelude.{ℕ, ◌+◌, Bool, true, false, nat_eq, Option, Some, None}
use Rattle.cell_world.specs.declared.ant.Ant.{Ant}
use Rattle.cell_world.specs.declared.ant.Colour.{Colour}
use Rattle.cell_world.specs.declared.ant.Colour.TheVariants.{Red, Black}
use Rattle.cell_world.specs.declared.cell.Cell.{Cell}
use Rattle.cell_world.specs.Colour.{same_colour}
use Rattle.cell_world.specs.declared.marks.Marks.{Marks}
use Rattle.cell_world.specs.Marks.{IsOfSix, no_marks}

-- a rocky cell has no food, marks, ant or hill
unfoldable pub rock : Cell
rock = record { rocky = true; hill = None; food = 0; red = no_marks; black = no_marks; ant = None }

-- whether the ant, if there is one, has this id
abbrev pub is_ant : ℕ → Option Ant → Bool
is_ant t None = false
is_ant t (Some ant) = nat_eq ant.id t

-- whether the cell holds the ant with this id
abbrev pub holds_id : ℕ → Cell → Bool
holds_id t cell = is_ant t cell.ant

-- whether it is this colour's hill
abbrev pub is_hill_of : Colour → Option Colour → Bool
is_hill_of colour None = false
is_hill_of colour (Some other) = same_colour colour other

-- whether the ant, if there is one, has this colour
abbrev pub is_ant_of : Colour → Option Ant → Bool
is_ant_of colour None = false
is_ant_of colour (Some ant) = same_colour colour ant.colour

-- a cell's markers of this colour
abbrev pub marks_of : Colour → Cell → Marks
marks_of Red cell = cell.red
marks_of Black cell = cell.black

-- the markers of each colour are from 0 to 5
pub record HasMarksOfSix (cell : Cell) : Type 0 where
  pub red : IsOfSix cell.red
  pub black : IsOfSix cell.black

-- 1 if true, and 0 if false
abbrev pub one_if : Bool → ℕ
one_if false = 0
one_if true = 1

-- the food that the ant, if there is one, carries
abbrev pub carried : Option Ant → ℕ
carried None = 0
carried (Some ant) = one_if ant.laden

-- all food of a cell: the food on it and what its ant carries
abbrev pub food_in : Cell → ℕ
food_in cell = cell.food + carried cell.ant

-- the weight of an ant: nine, and one more if it carries food
abbrev pub ant_weight : Option Ant → ℕ
ant_weight None = 0
ant_weight (Some ant) = 9 + one_if ant.laden

-- the weight of a cell: its food and its ant. Rock is bare and weighs nothing
unfoldable pub cell_weight : Cell → ℕ
cell_weight cell = cell.food + ant_weight cell.ant
