-- Open cells: those not on the rim, and not touched by an element so far.
use Rattle.std.specs.Prelude.{◌≡◌, ℕ, zero, suc, ◌+◌, ◌-◌, ◌*◌, ◌<◌, ◌≤◌, [], ◌∷◌, ◌++◌, Bool, true, false, not, ◌&&◌, nat_lt, List, length, slice_index_or, Contains}
use Rattle.hex_geometry.specs.RowOrder.{index_of}
use Rattle.cell_world.specs.Limits.{most_size}
use Rattle.hex_geometry.specs.Direction.{turned_by}
use Rattle.hex_geometry.specs.Distance.{IsInBall}
use Rattle.hex_geometry.specs.Neighbourhood.{adjacent_pos}
use Rattle.hex_geometry.specs.declared.direction.Dir.{Dir}
use Rattle.hex_geometry.specs.declared.direction.Side.TheVariants.{Right}
use Rattle.hex_geometry.specs.Position.{HasNeighbours, IsInner, Point, point_of}
use Rattle.hex_geometry.specs.declared.position.Pos.{Pos}
use Rattle.world_gen.specs.Elements.{IsCell, IsInBlob, point_after}
use Rattle.world_gen.specs.declared.spot.Spot.{Spot}

-- whether the cell at p is inside and not blocked
abbrev pub is_unblocked : ℕ → ℕ → List Bool → Pos → Bool
is_unblocked width height blocked p =
    nat_lt p.x width && (nat_lt p.y height && not (slice_index_or blocked (index_of width p) true))

-- there is one entry for each cell, and the rim is blocked
pub record IsFenced (width height : ℕ) (blocked : List Bool) : Type 0 where
  pub full : length blocked ≡ width * height
  pub narrow : width ≤ most_size
  pub low : height ≤ most_size
  pub rim : (p : Pos) → is_unblocked width height blocked p ≡ true → IsInner width height p

-- a place that is an open position
abbrev pub IsOpen : ℕ → ℕ → List Bool → Point → Type 0
IsOpen width height blocked q = (p : Pos) × (point_of p ≡ q) × (is_unblocked width height blocked p ≡ true)

-- each cell of a spot is open
abbrev pub AllOpen : ℕ → ℕ → List Bool → Spot → Type 0
AllOpen width height blocked spot = (q : Point) → IsCell spot q → IsOpen width height blocked q

-- each position of a ball is open
abbrev pub BallIsOpen : ℕ → ℕ → List Bool → Point → ℕ → Type 0
BallIsOpen width height blocked centre radius = (q : Point) → IsInBall centre radius q → IsOpen width height blocked q

-- the ball ends before the rim on all sides
pub record IsBallWithin (width height : ℕ) (centre : Pos) (radius : ℕ) : Type 0 where
  pub from_left : radius < centre.x
  pub from_top : radius < centre.y
  pub to_right : centre.x + radius + 1 < width
  pub to_bottom : centre.y + radius + 1 < height

-- p is in the ball and not open
abbrev pub IsShut : ℕ → ℕ → List Bool → Pos → ℕ → Pos → Type 0
IsShut width height blocked centre radius p =
    IsInBall (point_of centre) radius (point_of p) × (is_unblocked width height blocked p ≡ false)

-- position number j of a row, counted from the ball's first column
abbrev pub in_row : Pos → ℕ → ℕ → ℕ → Pos
in_row centre radius y j = record { x = centre.x - radius + j; y = y }

-- those of the first n positions of a row that are in the ball are open
abbrev pub RowIsOpen : ℕ → ℕ → List Bool → Pos → ℕ → ℕ → ℕ → Type 0
RowIsOpen width height blocked centre radius y n =
    (j : ℕ) → j < n → IsShut width height blocked centre radius (in_row centre radius y j) → ⊥

-- the first n positions in a direction, from a start on, are open
abbrev pub LineIsOpen : ℕ → ℕ → List Bool → Point → Dir → ℕ → Type 0
LineIsOpen width height blocked start way n = (j : ℕ) → j < n → IsOpen width height blocked (point_after j way start)

-- the first n lines of a blob are open
abbrev pub LinesAreOpen : ℕ → ℕ → List Bool → Point → Dir → ℕ → Type 0
LinesAreOpen width height blocked corner first n =
    (i : ℕ) → i < n → LineIsOpen width height blocked (point_after i first corner) (turned_by first Right) 5

-- each cell of a blob is open
abbrev pub BlobIsOpen : ℕ → ℕ → List Bool → Point → Dir → Type 0
BlobIsOpen width height blocked corner first = (q : Point) → IsInBlob corner first q → IsOpen width height blocked q

-- exactly the positions of a spot's cells
pub record ListsCells (spot : Spot) (cells : List Pos) : Type 0 where
  pub each : (p : Pos) → Contains cells p → IsCell spot (point_of p)
  pub every : (q : Point) → IsCell spot q → (p : Pos) × (point_of p ≡ q) × Contains cells p

-- each cell of a spot is a position whose neighbours are positions
abbrev pub AllHaveNeighbours : Spot → Type 0
AllHaveNeighbours spot = (q : Point) → IsCell spot q → (p : Pos) × (point_of p ≡ q) × HasNeighbours p

-- this many steps in one direction, over positions
unfoldable pub walked : ℕ → Dir → Pos → Pos
walked zero d p = p
walked (suc n) d p = adjacent_pos (walked n d p) d

-- the first n positions in a direction
unfoldable pub line_from : ℕ → Dir → Pos → List Pos
line_from zero d p = []
line_from (suc n) d p = line_from n d p ++ walked n d p ∷ []

-- the first n lines of a blob
unfoldable pub lines_from : ℕ → Dir → Pos → List Pos
lines_from zero first corner = []
lines_from (suc n) first corner =
    lines_from n first corner ++ line_from 5 (turned_by first Right) (walked n first corner)

-- the five positions of a line, and of each of a blob's five lines, have neighbours
abbrev pub LineHasNeighbours : Pos → Dir → Type 0
LineHasNeighbours start way = (j : ℕ) → j < 5 → HasNeighbours (walked j way start)

abbrev pub BlobHasNeighbours : Pos → Dir → Type 0
BlobHasNeighbours corner first = (i : ℕ) → i < 5 → LineHasNeighbours (walked i first corner) (turned_by first Right)
