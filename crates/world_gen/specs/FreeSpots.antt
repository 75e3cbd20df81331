-- The places where an element may be put.
use Rattle.std.specs.Prelude.{◌≡◌, ℕ, List, Contains, ◌⊎◌}
use Rattle.hex_geometry.specs.Distance.{IsAdjacent}
use Rattle.hex_geometry.specs.Position.{IsInner, Point, point_of}
use Rattle.hex_geometry.specs.declared.position.Pos.{Pos}
use Rattle.world_gen.specs.Elements.{IsCell}
use Rattle.world_gen.specs.declared.spot.Spot.{Spot}

-- a place of a world of these sizes that is not on its rim
abbrev pub IsOffRim : ℕ → ℕ → Point → Type 0
IsOffRim width height q = (p : Pos) × (point_of p ≡ q) × IsInner width height p

-- equal or adjacent
abbrev pub IsTouching : Point → Point → Type 0
IsTouching p q = (p ≡ q) ⊎ IsAdjacent p q

-- each cell of the element is off the rim, and none touches a cell of an element that was placed before
pub record IsFreeSpot (width height : ℕ) (placed : List Spot) (spot : Spot) : Type 0 where
  pub off_rim : (q : Point) → IsCell spot q → IsOffRim width height q
  pub apart : (other : Spot) (q r : Point) → Contains placed other → IsCell spot q → IsCell other r → IsTouching r q → ⊥
