-- The kinds of a generated world, and the world.
use Rattle.std.specs.Prelude.{◌≡◌, ℕ, ◌*◌, ◌≤◌, List, length, Contains, Result, Ok, Err}
use Rattle.cell_world.specs.Grid.{Grid}
use Rattle.cell_world.specs.Limits.{least_size, most_size}
use Rattle.cell_world.specs.Opening.{IsPlan, kind_at, opening}
use Rattle.cell_world.specs.declared.ant.Colour.{Colour}
use Rattle.cell_world.specs.declared.ant.Colour.TheVariants.{Red, Black}
use Rattle.cell_world.specs.declared.kind.Kind.{Kind}
use Rattle.cell_world.specs.declared.kind.Kind.TheVariants as kind
use Rattle.hex_geometry.specs.Position.{IsInner, IsInside, point_of}
use Rattle.hex_geometry.specs.declared.position.Pos.{Pos}
use Rattle.world_gen.specs.Elements.{IsCell}
use Rattle.world_gen.specs.Placing.{HasNoRoom, IsPlacing}
use Rattle.world_gen.specs.declared.generator.GenFault.{GenFault}
use Rattle.world_gen.specs.declared.generator.GenFault.TheVariants.{NoRoom, OutOfMemory}
use Rattle.world_gen.specs.declared.shape.Shape.{Shape}
use Rattle.world_gen.specs.declared.spot.Figure.{Figure}
use Rattle.world_gen.specs.declared.spot.Figure.TheVariants.{Hill, Rock, Blob}
use Rattle.world_gen.specs.declared.spot.Spot.{Spot}

-- the kind of a hill's cells
abbrev pub hill_kind : Colour → Kind
hill_kind Red = kind.RedHill
hill_kind Black = kind.BlackHill

-- the kind of an element's cells: a blob's have 5 food particles each
abbrev pub paint_of : Figure → Kind
paint_of (Hill colour) = hill_kind colour
paint_of (Rock radius) = kind.Rock
paint_of (Blob first) = kind.Food 5

-- the kinds in row order: rock on the rim, the elements' cells as they are painted, and everything else clear
pub record IsPainted (width height : ℕ) (placed : List Spot) (kinds : List Kind) : Type 0 where
  pub full : length kinds ≡ width * height
  pub rim : (p : Pos) → IsInside width height p → (IsInner width height p → ⊥) → kind_at width kinds p ≡ kind.Rock
  pub cell : (p : Pos) (spot : Spot) → Contains placed spot → IsCell spot (point_of p)
      → kind_at width kinds p ≡ paint_of spot.figure
  pub floor : (p : Pos) → IsInner width height p → ((spot : Spot) → Contains placed spot → IsCell spot (point_of p) → ⊥)
      → kind_at width kinds p ≡ kind.Clear

-- the sizes of a shape are those of a world
pub record IsShape (shape : Shape) : Type 0 where
  pub wide : least_size ≤ shape.width
  pub narrow : shape.width ≤ most_size
  pub tall : least_size ≤ shape.height
  pub low : shape.height ≤ most_size

-- the world of a seed and a shape: the opening world of its elements, placed and painted, which form a plan
pub record IsGenerated (seed : ℕ) (shape : Shape) (world : Grid) : Type 0 where
  pub placed : List Spot
  pub placing : IsPlacing seed shape placed
  pub kinds : List Kind
  pub painted : IsPainted shape.width shape.height placed kinds
  pub plan : IsPlan shape.width shape.height kinds
  pub is : world ≡ opening shape.width shape.height kinds

-- why there is no world: an element has no room, or memory ran out
abbrev pub IsRefusal : ℕ → Shape → GenFault → Type 0
IsRefusal seed shape (NoRoom number) = HasNoRoom seed shape number
IsRefusal seed shape OutOfMemory = Unit {0}

-- the result: the world of the seed and the shape, or why there is none
abbrev pub IsAnswer : ℕ → Shape → Result Grid GenFault → Type 0
IsAnswer seed shape (Ok world) = IsGenerated seed shape world
IsAnswer seed shape (Err fault) = IsRefusal seed shape fault
