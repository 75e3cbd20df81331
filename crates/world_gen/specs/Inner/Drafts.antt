-- The kinds and the blocked cells of a world in the making.
use Rattle.std.specs.Prelude.{◌≡◌, ℕ, zero, suc, ◌+◌, ◌*◌, ◌≤◌, min, Bool, true, false, List, [], ◌∷◌, ◌++◌, length, Contains}
use Rattle.std.specs.List.{All}
use Rattle.cell_world.specs.Cell.{one_if}
use Rattle.cell_world.specs.Opening.{IsFed, hill_count, is_hill}
use Rattle.hex_geometry.specs.RowOrder.{pos_at}
use Rattle.cell_world.specs.declared.kind.Kind.{Kind}
use Rattle.cell_world.specs.declared.kind.Kind.TheVariants as kind
use Rattle.hex_geometry.specs.Position.{IsInner, IsInside, Point, is_on_rim, point_of}
use Rattle.hex_geometry.specs.declared.position.Pos.{Pos}
use Rattle.world_gen.specs.Elements.{IsCell}
use Rattle.world_gen.specs.FreeSpots.{IsOffRim, IsTouching}
use Rattle.world_gen.specs.Inner.Open.{IsFenced, is_unblocked}
use Rattle.world_gen.specs.Inner.Sets.{IsRoundAny, SetsWhere}
use Rattle.world_gen.specs.Generated.{IsPainted}
use Rattle.world_gen.specs.Placing.{Follow}
use Rattle.world_gen.specs.declared.shape.Shape.{Shape}
use Rattle.world_gen.specs.declared.spot.Spot.{Spot}

-- rock on the rim, and nothing inside
abbrev pub bare_kind : Bool → Kind
bare_kind true = kind.Rock
bare_kind false = kind.Clear

-- the first n cells in row order: whether each is on the rim
unfoldable pub bare_blocked : ℕ → ℕ → ℕ → List Bool
bare_blocked width height zero = []
bare_blocked width height (suc n) = bare_blocked width height n ++ is_on_rim width height (pos_at width n) ∷ []

-- the kind of each without elements
unfoldable pub bare_kinds : ℕ → ℕ → ℕ → List Kind
bare_kinds width height zero = []
bare_kinds width height (suc n) = bare_kinds width height n ++ bare_kind (is_on_rim width height (pos_at width n)) ∷ []

-- these cells are painted, and they and their neighbours are blocked
pub record IsStamped (width height : ℕ) (cells : List Pos) (kind : Kind) (blocked blocked_now : List Bool)
    (kinds kinds_now : List Kind) : Type 0 where
  pub blocks : SetsWhere width height true (IsRoundAny cells) blocked blocked_now
  pub paints : SetsWhere width height kind (Contains cells) kinds kinds_now
  pub hills : hill_count kinds_now ≤ hill_count kinds + one_if (is_hill kind) * length cells
  pub fed : IsFed kind → All IsFed kinds → All IsFed kinds_now

-- p is a cell of the element, or touches one
pub record IsTouched (spot : Spot) (p : Pos) : Type 0 where
  pub cell : Point
  pub of : IsCell spot cell
  pub touching : IsTouching cell (point_of p)

-- what holds of a world in the making: inside, exactly those cells are blocked that belong to an element or touch one;
-- each cell is painted
pub record IsDraft (width height : ℕ) (placed : List Spot) (blocked : List Bool) (kinds : List Kind) : Type 0 where
  pub fenced : IsFenced width height blocked
  pub shut : (p : Pos) (other : Spot) → IsInside width height p → Contains placed other → IsTouched other p
      → is_unblocked width height blocked p ≡ true → ⊥
  pub off_rim : (other : Spot) (q : Point) → Contains placed other → IsCell other q → IsOffRim width height q
  pub free : (p : Pos) → IsInner width height p → ((other : Spot) → Contains placed other → IsTouched other p → ⊥)
      → is_unblocked width height blocked p ≡ true
  pub painted : IsPainted width height placed kinds
  pub fed : All IsFed kinds

-- the first n elements are placed, and the next begins at place g of the stream
pub record IsBegun (seed : ℕ) (shape : Shape) (n : ℕ) (blocked : List Bool) (kinds : List Kind) (g : ℕ) : Type 0 where
  pub placed : List Spot
  pub follow : Follow seed shape [] 0 placed g
  pub count : length placed ≡ n
  pub draft : IsDraft shape.width shape.height placed blocked kinds
  pub few : hill_count kinds ≤ 127 * min n 2
