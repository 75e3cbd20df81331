-- The elements of a generated world, and their cells.
use Rattle.std.specs.Prelude.{◌≡◌, ℕ, zero, suc, ◌+◌, ◌≤◌, if◌then◌else◌, nat_lt}
use Rattle.cell_world.specs.declared.ant.Colour.TheVariants.{Red, Black}
use Rattle.hex_geometry.specs.Direction.{turned_by}
use Rattle.hex_geometry.specs.Distance.{IsInBall}
use Rattle.hex_geometry.specs.Neighbourhood.{adjacent_point}
use Rattle.hex_geometry.specs.Position.{Point, point_of}
use Rattle.hex_geometry.specs.declared.direction.Dir.{Dir}
use Rattle.hex_geometry.specs.declared.direction.Side.TheVariants.{Right}
use Rattle.world_gen.specs.declared.element.Element.{Element}
use Rattle.world_gen.specs.declared.element.Element.TheVariants as element
use Rattle.world_gen.specs.declared.shape.Shape.{Shape}
use Rattle.world_gen.specs.declared.spot.Figure.{Figure}
use Rattle.world_gen.specs.declared.spot.Figure.TheVariants.{Hill, Rock, Blob}
use Rattle.world_gen.specs.declared.spot.Spot.{Spot}

-- how many elements there are: two hills, the rocks and the blobs
abbrev pub count_of : Shape → ℕ
count_of shape = 2 + shape.rocks + shape.blobs

-- the element with a number, counted from 0: the red hill, the black hill, then the rocks, then the blobs
abbrev pub element_of : Shape → ℕ → Element
element_of shape zero = element.Hill Red
element_of shape (suc zero) = element.Hill Black
element_of shape (suc (suc n)) = if nat_lt n shape.rocks then element.Rock else element.Blob

-- this many steps in one direction
unfoldable pub point_after : ℕ → Dir → Point → Point
point_after zero d p = p
point_after (suc n) d p = adjacent_point (point_after n d p) d

-- up to four steps from the corner in one direction, and then up to four in the next
pub record IsInBlob (corner : Point) (first : Dir) (q : Point) : Type 0 where
  pub along : ℕ
  pub beside : ℕ
  pub is_long : along ≤ 4
  pub is_wide : beside ≤ 4
  pub is : point_after beside (turned_by first Right) (point_after along first corner) ≡ q

-- a cell of an element of this figure at this place: a hill is a ball of radius 6
abbrev pub IsCellOf : Figure → Point → Point → Type 0
IsCellOf (Hill colour) place q = IsInBall place 6 q
IsCellOf (Rock radius) place q = IsInBall place radius q
IsCellOf (Blob first) place q = IsInBlob place first q

-- a cell of an element at its place
abbrev pub IsCell : Spot → Point → Type 0
IsCell spot q = IsCellOf spot.figure (point_of spot.place) q
