-- Positions, as pairs of whole numbers and in a world of a width and a height (the task's geometry).
use Rattle.std.specs.Prelude.{ℕ, ℤ, pos, Bool, ◌+◌, ◌<◌, ◌≤◌, ◌==◌, ◌&&◌, ◌||◌, ◌≡◌, ◌↔◌, false}
use Rattle.hex_geometry.specs.declared.position.Pos.{Pos}

-- a pair of whole numbers: the column, growing to the right, and the row, growing downwards
pub record Point : Type 0 where
  pub x : ℤ
  pub y : ℤ

-- a position as a pair of whole numbers
abbrev pub point_of : Pos → Point
point_of p = record { x = pos p.x; y = pos p.y }

-- whether two positions are equal, as a test that computes
unfoldable pub same_pos : Pos → Pos → Bool
same_pos p q = (p.x == q.x) && (p.y == q.y)

-- a position whose six neighbours are all positions: neither coordinate is 0 or the greatest
pub record HasNeighbours (p : Pos) : Type 0 where
  pub from_left : 1 ≤ p.x
  pub to_right : p.x ≤ 65534
  pub from_top : 1 ≤ p.y
  pub to_bottom : p.y ≤ 65534

-- a position of a world of these sizes
pub record IsInside (width height : ℕ) (p : Pos) : Type 0 where
  pub column : p.x < width
  pub row : p.y < height

-- a position of a world of these sizes that is not on its rim
pub record IsInner (width height : ℕ) (p : Pos) : Type 0 where
  pub from_left : 1 ≤ p.x
  pub to_right : p.x + 1 < width
  pub from_top : 1 ≤ p.y
  pub to_bottom : p.y + 1 < height

-- whether a position is in the first or last column or row of a world of these sizes
abbrev pub is_on_rim : ℕ → ℕ → Pos → Bool
is_on_rim width height p = (p.x == 0) || (p.y == 0) || (p.x + 1 == width) || (p.y + 1 == height)

-- the positions inside that aren't on the rim are the inner ones
abbrev pub RimIsOutermost : Type 0
RimIsOutermost =
    (width height : ℕ) (p : Pos) → IsInside width height p → (is_on_rim width height p ≡ false) ↔ IsInner width height p
