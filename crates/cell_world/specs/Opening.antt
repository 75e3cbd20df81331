-- The world at the start of a game (the task's geography and biology).
use Rattle.std.specs.Prelude.{◌≡◌, ℕ, ◌+◌, ◌*◌, ◌≤◌, ◌<◌, Bool, true, false, List, [], ◌∷◌, length, slice_index_or, take, Some, None}
use Rattle.std.specs.List.{All}
use Rattle.hex_geometry.specs.declared.position.Pos.{Pos}
use Rattle.hex_geometry.specs.Position.{is_on_rim}
use Rattle.hex_geometry.specs.declared.direction.Dir.TheVariants.{East}
use Rattle.cell_world.specs.declared.ant.Ant.{Ant}
use Rattle.cell_world.specs.declared.ant.Colour.{Colour}
use Rattle.cell_world.specs.declared.ant.Colour.TheVariants.{Red, Black}
use Rattle.cell_world.specs.declared.cell.Cell.{Cell}
use Rattle.cell_world.specs.declared.kind.Kind.{Kind}
use Rattle.cell_world.specs.declared.kind.Kind.TheVariants.{Rock, Clear, RedHill, BlackHill, Food}
use Rattle.cell_world.specs.Cell.{rock, one_if}
use Rattle.cell_world.specs.Grid.{Grid}
use Rattle.hex_geometry.specs.RowOrder.{index_of}
use Rattle.cell_world.specs.Marks.{no_marks}

-- a clear cell without food, marks, ant or hill
unfoldable pub floor : Cell
floor = record { rocky = false; hill = None; food = 0; red = no_marks; black = no_marks; ant = None }

-- an ant at the start: state 0, not resting, facing direction 0, without food
abbrev pub new_ant : Colour → ℕ → Ant
new_ant colour t = record { id = t; colour = colour; state = 0; resting = 0; facing = East; laden = false }

-- a hill cell with its ant
abbrev pub hill_cell : Colour → ℕ → Cell
hill_cell colour t = record floor { hill = Some colour; ant = Some (new_ant colour t) }

-- a cell of this kind; if an ant begins on it, it has this id
abbrev pub opening_cell : ℕ → Kind → Cell
opening_cell t Rock = rock
opening_cell t Clear = floor
opening_cell t RedHill = record floor { hill = Some Red; ant = Some (new_ant Red t) }
opening_cell t BlackHill = record floor { hill = Some Black; ant = Some (new_ant Black t) }
opening_cell t (Food n) = record floor { food = n }

-- whether a cell of this kind belongs to a hill
abbrev pub is_hill : Kind → Bool
is_hill RedHill = true
is_hill BlackHill = true
is_hill _ = false

-- how many hill cells there are
abbrev pub hill_count : List Kind → ℕ
hill_count [] = 0
hill_count (kind ∷ kinds) = one_if (is_hill kind) + hill_count kinds

-- the cells of these kinds, if the next ant's id is t
abbrev pub opening_cells : ℕ → List Kind → List Cell
opening_cells t [] = []
opening_cells t (kind ∷ kinds) = opening_cell t kind ∷ opening_cells (t + one_if (is_hill kind)) kinds

-- the world of these kinds at the start: each hill cell holds an ant of its colour, whose id is the number of hill
-- cells before it
unfoldable pub opening : ℕ → ℕ → List Kind → Grid
opening width height kinds = record {
  width = width;
  height = height;
  ids = hill_count kinds;
  cells = opening_cells 0 kinds;
}

-- whether the kind is rock
abbrev pub is_rock : Kind → Bool
is_rock Rock = true
is_rock _ = false

-- food is given from 1 to 9 particles
abbrev pub IsFed : Kind → Type 0
IsFed (Food n) = (1 ≤ n) × (n ≤ 9)
IsFed _ = Unit {0}

-- the kind at a position; after the last one it is rock
abbrev pub kind_at : ℕ → List Kind → Pos → Kind
kind_at width kinds p = slice_index_or kinds (index_of width p) Rock

-- how many hill cells there are before a position in row order
abbrev pub hills_before : ℕ → List Kind → Pos → ℕ
hills_before width kinds p = hill_count (take (index_of width p) kinds)

-- the kinds of a world, in row order: the sizes are in range, there is one kind for each cell, the rim is rock, food is
-- in range, and there are not too many hill cells
pub record IsPlan (width height : ℕ) (kinds : List Kind) : Type 0 where
  pub wide : 3 ≤ width
  pub narrow : width ≤ 512
  pub tall : 3 ≤ height
  pub low : height ≤ 512
  pub full : length kinds ≡ width * height
  pub rim : (p : Pos) → p.x < width → p.y < height → is_on_rim width height p ≡ true
      → slice_index_or kinds (p.y * width + p.x) Rock ≡ Rock
  pub fed : All IsFed kinds
  pub few : hill_count kinds ≤ 16384
