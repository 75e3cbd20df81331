-- The world as a function from positions to cells (the task's geography).
use Rattle.std.specs.Prelude.{ℕ, ◌+◌, ◌*◌, Bool, if◌then◌else◌, List, [], ◌∷◌, Option, Some, None, suc, zero}
use Rattle.std.specs.Option.{option_or}
use Rattle.hex_geometry.specs.declared.position.Pos.{Pos}
use Rattle.hex_geometry.specs.Position.{same_pos}
use Rattle.hex_geometry.specs.RowOrder.{pos_at}
use Rattle.cell_world.specs.declared.cell.Cell.{Cell}
use Rattle.cell_world.specs.Cell.{is_ant, cell_weight}

-- what is at each position
abbrev pub Cells : Type 0
Cells = Pos → Cell

-- a world: its sizes, the number of ids ever assigned, and the cell at each position, with rock outside
pub record World : Type 0 where
  pub width : ℕ
  pub height : ℕ
  pub ids : ℕ
  pub cells : Cells

-- the cell at q, if the cell at p is replaced by this one
unfoldable pub put_cell : Cells → Pos → Cell → Pos → Cell
put_cell cells p cell q = if same_pos p q then cell else cells q

-- the world with these cells
abbrev pub with_cells : World → Cells → World
with_cells w cells = record w { cells = cells }

-- the world with this cell at p
abbrev pub put : World → Pos → Cell → World
put w p cell = with_cells w (put_cell w.cells p cell)

-- the sum of f over the first n positions in row order
abbrev pub sum_over : ℕ → (Pos → ℕ) → ℕ → ℕ
sum_over width f zero = 0
sum_over width f (suc n) = sum_over width f n + f (pos_at width n)

-- the first of the first n positions, in row order, at which the test holds, if there is one: for n + 1 it is the one
-- among the first n if there is one, and otherwise the position with number n if the test holds there
abbrev pub first_of : ℕ → (Pos → Bool) → ℕ → Option Pos
first_of width test zero = None
first_of width test (suc n) =
    option_or (first_of width test n) (if test (pos_at width n) then Some (pos_at width n) else None)

-- how many positions there are
abbrev pub area : World → ℕ
area w = w.width * w.height

-- the sum of f over all cells of a world
abbrev pub total : (Cell → ℕ) → World → ℕ
total f w = sum_over w.width (λ p. f (w.cells p)) (area w)

-- the position of the cell that holds the ant with this id, if there is one (the task's biology)
unfoldable pub place_in : World → ℕ → Option Pos
place_in w t = first_of w.width (λ p. is_ant t (w.cells p).ant) (w.width * w.height)

-- the weight of a world: the sum of its cells' weights
unfoldable pub weight : World → ℕ
weight w = total cell_weight w

-- the given number of cells of a world in row order, each with its position, beginning with the cell with number n
abbrev pub cells_from : World → ℕ → ℕ → List (Pos × Cell)
cells_from w n zero = []
cells_from w n (suc left) = (pos_at w.width n, w.cells (pos_at w.width n)) ∷ cells_from w (suc n) left

-- all cells of a world in row order, each with its position (the task's geography)
unfoldable pub placed_cells : World → List (Pos × Cell)
placed_cells w = cells_from w 0 (area w)
