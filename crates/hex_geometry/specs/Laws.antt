-- Laws of neighbours and turns (the task's geometry).
use Rattle.std.specs.Prelude.{◌≡◌, ◌≢◌, ℕ, ◌<◌, ◌≤◌, AllPairs, Contains, slice_get, Some}
use Rattle.std.specs.Fn.{iterate}
use Rattle.hex_geometry.specs.Direction.{dir_of, number_of, opposite, turned_by}
use Rattle.hex_geometry.specs.Neighbourhood.{adjacent_point, adjacent_pos, neighbours_of}
use Rattle.hex_geometry.specs.Position.{IsInner, IsInside, point_of}
use Rattle.hex_geometry.specs.declared.direction.Dir.{Dir}
use Rattle.hex_geometry.specs.declared.direction.Side.{Side}
use Rattle.hex_geometry.specs.declared.direction.Side.TheVariants.{Left, Right}
use Rattle.hex_geometry.specs.declared.position.Pos.{Pos}

-- off the first row and column, the neighbour of a position is that of the table over whole numbers
abbrev pub NeighboursAreTheTables : Type 0
NeighboursAreTheTables =
    (p : Pos) (d : Dir) → 1 ≤ p.x → 1 ≤ p.y → point_of (adjacent_pos p d) ≡ adjacent_point (point_of p) d

-- off the first row and column
pub record NeighboursAreMutual : Type 0 where
  -- the neighbour in the opposite direction of a neighbour is the position itself
  pub back : (p : Pos) (d : Dir) → 1 ≤ p.x → 1 ≤ p.y → adjacent_pos (adjacent_pos p d) (opposite d) ≡ p
  -- a position is a neighbour of each of its neighbours
  pub both_ways : (p q : Pos) → 1 ≤ p.x → 1 ≤ p.y → Contains (neighbours_of p) q → Contains (neighbours_of q) p
  -- the six are pairwise different
  pub distinct : (p : Pos) → 1 ≤ p.x → 1 ≤ p.y → AllPairs ◌≢◌ (neighbours_of p)
  -- and none of them is the position itself
  pub other : (p : Pos) (d : Dir) → 1 ≤ p.x → 1 ≤ p.y → adjacent_pos p d ≢ p
  -- the neighbours of a position of a world that isn't on the rim are positions of that world
  pub inside : (width height : ℕ) (p : Pos) (d : Dir) → IsInner width height p
      → IsInside width height (adjacent_pos p d)

-- how directions are numbered, and what several turns do
pub record TurnsGoRound : Type 0 where
  -- each direction is the one of its number
  pub dir_of_number : (d : Dir) → dir_of (number_of d) ≡ d
  -- each number below six is that of its direction, so there are six directions
  pub number_of_dir : (k : ℕ) → k < 6 → number_of (dir_of k) ≡ k
  -- the list of the six neighbours has the one in direction k at place k
  pub neighbour_at : (p : Pos) (k : ℕ) → k < 6 → slice_get (neighbours_of p) k ≡ Some (adjacent_pos p (dir_of k))
  -- a turn to one side undoes a turn to the other
  pub left_then_right : (d : Dir) → turned_by (turned_by d Left) Right ≡ d
  pub right_then_left : (d : Dir) → turned_by (turned_by d Right) Left ≡ d
  -- six turns to the left change nothing, and neither do six to the right
  pub six_left : (d : Dir) → iterate (λ e. turned_by e Left) 6 d ≡ d
  pub six_right : (d : Dir) → iterate (λ e. turned_by e Right) 6 d ≡ d
  -- three turns to a side lead to the opposite direction
  pub three : (d : Dir) (side : Side) → iterate (λ e. turned_by e side) 3 d ≡ opposite d
