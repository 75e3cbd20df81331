-- Row order: the positions of a world row by row from the top, each row from left to right (the task's world files).
use Rattle.std.specs.Prelude.{◌≡◌, ◌↔◌, ℕ, ◌+◌, ◌*◌, ◌/◌, ◌%◌, ◌<◌, ◌≤◌}
use Rattle.hex_geometry.specs.declared.position.Pos.{Pos}
use Rattle.hex_geometry.specs.Position.{IsInside}

-- p is before q in row order: in a row above, or in the same row and to its left
pub record IsBefore (p q : Pos) : Type 0 where
  pub row : p.y ≤ q.y
  pub column : p.y ≡ q.y → p.x < q.x

-- the number of a position in row order, counted from 0: how many positions are in the rows above and to its left
abbrev pub index_of : ℕ → Pos → ℕ
index_of width p = p.y * width + p.x

-- the position with number i in row order
abbrev pub pos_at : ℕ → ℕ → Pos
pos_at width i = record { x = i % width; y = i / width }

-- positions and their numbers in row order determine each other
pub record RowsAreNumbered : Type 0 where
  -- the position of a position's number is that position
  pub position : (width : ℕ) (p : Pos) → p.x < width → pos_at width (index_of width p) ≡ p
  -- the number of a number's position is that number
  pub number : (width i : ℕ) → index_of width (pos_at width i) ≡ i
  -- a position inside has a number below the number of cells, and each such number is that of a position inside
  pub below : (width height : ℕ) (p : Pos) → IsInside width height p → index_of width p < width * height
  pub inside : (width height i : ℕ) → i < width * height → IsInside width height (pos_at width i)
  -- a position is before another exactly if its number is less
  pub in_order : (width : ℕ) (p q : Pos) → p.x < width → q.x < width
      → IsBefore p q ↔ (index_of width p < index_of width q)
