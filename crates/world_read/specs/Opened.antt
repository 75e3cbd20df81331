-- The kinds of an opening world, from its cells (the task's game play).
use Rattle.std.specs.Prelude.{◌≡◌, ℕ, List, map, Option, Some, None, ◌==◌, if◌then◌else◌}
use Rattle.cell_world.specs.declared.ant.Colour.{Colour}
use Rattle.cell_world.specs.declared.ant.Colour.TheVariants.{Red, Black}
use Rattle.cell_world.specs.declared.cell.Cell.{Cell}
use Rattle.cell_world.specs.declared.kind.Kind.{Kind}
use Rattle.cell_world.specs.declared.kind.Kind.TheVariants.{Rock, Clear, RedHill, BlackHill, Food}
use Rattle.cell_world.specs.Grid.{Grid}
use Rattle.cell_world.specs.Opening.{IsPlan, opening}
use Rattle.world_read.specs.Grammar.{IsWorldText}

-- the kind of a clear cell of this hill, if it belongs to one, with this much food
abbrev pub kind_of_clear : Option Colour → ℕ → Kind
kind_of_clear None food = if food == 0 then Clear else Food food
kind_of_clear (Some Red) food = RedHill
kind_of_clear (Some Black) food = BlackHill

-- the kind of a cell of an opening world
abbrev pub kind_of_cell : Cell → Kind
kind_of_cell cell = if cell.rocky then Rock else kind_of_clear cell.hill cell.food

-- the kinds of an opening world, in row order
abbrev pub kinds_of : Grid → List Kind
kinds_of g = map kind_of_cell g.cells

-- a text is that of a world that opens as this grid
pub record OpensAs (text : List ℕ) (world : Grid) : Type 0 where
  pub kinds : List Kind
  pub is : IsWorldText text world.width world.height kinds
  pub opened : world ≡ opening world.width world.height kinds

-- a world at the start of a game
pub record IsOpeningWorld (g : Grid) : Type 0 where
  pub kinds : List Kind
  pub plan : IsPlan g.width g.height kinds
  pub is : g ≡ opening g.width g.height kinds
