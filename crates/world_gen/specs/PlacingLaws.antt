-- Laws of placed elements.
use Rattle.std.specs.Prelude.{◌≡◌, ℕ, List, Contains, AllPairs}
use Rattle.cell_world.specs.Grid.{Grid}
use Rattle.hex_geometry.specs.Position.{Point}
use Rattle.world_gen.specs.Elements.{IsCell}
use Rattle.world_gen.specs.FreeSpots.{IsOffRim, IsTouching}
use Rattle.world_gen.specs.Generated.{IsGenerated}
use Rattle.world_gen.specs.Placing.{HasNoRoom, IsPlacing}
use Rattle.world_gen.specs.declared.shape.Shape.{Shape}
use Rattle.world_gen.specs.declared.spot.Spot.{Spot}

-- no cell of one element is equal or adjacent to one of the other
abbrev pub AreApart : Spot → Spot → Type 0
AreApart one other = (q r : Point) → IsCell one q → IsCell other r → IsTouching q r → ⊥

-- no cell of any element is on the rim, and no two elements have equal or adjacent cells
pub record IsSeparated (width height : ℕ) (placed : List Spot) : Type 0 where
  pub off_rim : (spot : Spot) (q : Point) → Contains placed spot → IsCell spot q → IsOffRim width height q
  pub apart : AllPairs AreApart placed

-- placed elements are separated
abbrev pub ElementsLieApart : Type 0
ElementsLieApart =
    (seed : ℕ) (shape : Shape) (placed : List Spot) → IsPlacing seed shape placed
    → IsSeparated shape.width shape.height placed

-- a seed and a shape have one outcome
pub record PlacingIsOne : Type 0 where
  -- there is at most one placing
  pub one : (seed : ℕ) (shape : Shape) (first second : List Spot) → IsPlacing seed shape first
      → IsPlacing seed shape second → first ≡ second
  -- there is none if an element has no room
  pub none : (seed : ℕ) (shape : Shape) (placed : List Spot) (number : ℕ) → IsPlacing seed shape placed
      → HasNoRoom seed shape number → ⊥
  -- at most one element has no room
  pub number : (seed : ℕ) (shape : Shape) (first second : ℕ) → HasNoRoom seed shape first → HasNoRoom seed shape second
      → first ≡ second
  -- a seed and a shape have one world
  pub world : (seed : ℕ) (shape : Shape) (first second : Grid) → IsGenerated seed shape first
      → IsGenerated seed shape second → first ≡ second
