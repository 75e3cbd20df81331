-- The results of the steps of placing an element.
use Rattle.std.specs.Prelude.{◌≡◌, ℕ, ◌+◌, ◌*◌, ◌<◌, ◌≤◌, Option, Some, None, Bool, List, length, Result, Ok, Err}
use Rattle.hex_geometry.specs.RowOrder.{IsBefore}
use Rattle.hex_geometry.specs.declared.position.Pos.{Pos}
use Rattle.world_gen.specs.Placing.{Goes, HasNone, IsPlacing, IsChosenSpot, NoTryFits, draws_of, spot_at}
use Rattle.cell_world.specs.Cell.{one_if}
use Rattle.cell_world.specs.Opening.{IsFed, hill_count, is_hill}
use Rattle.cell_world.specs.declared.kind.Kind.{Kind}
use Rattle.std.specs.List.{All}
use Rattle.world_gen.specs.Inner.Open.{AllOpen, ListsCells}
use Rattle.world_gen.specs.Inner.Drafts.{IsStamped}
use Rattle.world_gen.specs.Generated.{IsPainted, paint_of}
use Rattle.world_gen.specs.declared.generator.GenFault.{GenFault}
use Rattle.world_gen.specs.declared.generator.GenFault.TheVariants.{NoRoom, OutOfMemory}
use Rattle.world_gen.specs.declared.element.Element.{Element}
use Rattle.world_gen.specs.declared.shape.Shape.{Shape}
use Rattle.world_gen.specs.declared.spot.Figure.{Figure}
use Rattle.world_gen.specs.declared.spot.Spot.{Spot}

-- the first of 50 tries that fits, or none
abbrev pub IsTried : (Spot → Type 0) → ℕ → ℕ → ℕ → Figure → ℕ → Option Spot → ℕ → Type 0
IsTried fits seed width height figure g (Some spot) after = IsChosenSpot fits seed width height figure g spot after
IsTried fits seed width height figure g None after =
    NoTryFits fits seed width height figure g 50 × (after ≡ g + 50 * draws_of figure)

-- the first place at which it fits, among the given ones
pub record IsFirstSpot (fits : Spot → Type 0) (figure : Figure) (IsAmong : Pos → Type 0) (spot : Spot) : Type 0 where
  pub place : Pos
  pub among : IsAmong place
  pub is : spot ≡ spot_at figure place
  pub fitting : fits spot
  pub first : (p : Pos) → IsAmong p → IsBefore p place → fits (spot_at figure p) → ⊥

-- the first of some places in row order, or none
abbrev pub IsSearched : (Spot → Type 0) → Figure → (Pos → Type 0) → Option Spot → Type 0
IsSearched fits figure IsAmong (Some spot) = IsFirstSpot fits figure IsAmong spot
IsSearched fits figure IsAmong None = (p : Pos) → IsAmong p → fits (spot_at figure p) → ⊥

-- the positions of one row
pub record IsInRow (width y : ℕ) (p : Pos) : Type 0 where
  pub row : p.y ≡ y
  pub column : p.x < width

-- the place of an element, or that it has no room
abbrev pub IsChosen : (Spot → Type 0) → ℕ → ℕ → ℕ → Element → ℕ → Option Spot → ℕ → Type 0
IsChosen fits seed width height element g (Some spot) after = Goes fits seed width height element g spot after
IsChosen fits seed width height element g None after = HasNone fits seed width height element g

-- the new values of a spot's cells
pub record IsElementPut (spot : Spot) (width height : ℕ) (blocked blocked_now : List Bool)
    (kinds kinds_now : List Kind) : Type 0 where
  pub cells : List Pos
  pub lists : ListsCells spot cells
  pub stamped : IsStamped width height cells (paint_of spot.figure) blocked blocked_now kinds kinds_now
  pub few : one_if (is_hill (paint_of spot.figure)) * length cells ≤ 127

-- the result for an element: it is put at its spot, or has no room
abbrev pub IsStep : ℕ → ℕ → ℕ → Element → ℕ → ℕ → ℕ → List Bool → List Bool → List Kind → List Kind
    → Result Unit GenFault → Type 0
IsStep seed width height element number g after blocked blocked_now kinds kinds_now (Ok _) =
    (spot : Spot) × Goes (AllOpen width height blocked) seed width height element g spot after
    × IsElementPut spot width height blocked blocked_now kinds kinds_now
IsStep seed width height element number g after blocked blocked_now kinds kinds_now (Err (NoRoom n)) =
    (n ≡ number) × HasNone (AllOpen width height blocked) seed width height element g
IsStep seed width height element number g after blocked blocked_now kinds kinds_now (Err OutOfMemory) = Unit {0}

-- all elements are placed and painted, at most two of them hills
pub record IsGeneratedGrid (seed : ℕ) (shape : Shape) (width height : ℕ) (kinds : List Kind) : Type 0 where
  pub wide : width ≡ shape.width
  pub high : height ≡ shape.height
  pub placed : List Spot
  pub placing : IsPlacing seed shape placed
  pub painted : IsPainted shape.width shape.height placed kinds
  pub fed : All IsFed kinds
  pub few : hill_count kinds ≤ 254
