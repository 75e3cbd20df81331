-- Walks over all pairs of whole numbers, the distance between two of them, and balls (the task's geometry).
use Rattle.std.specs.Prelude.{◌≡◌, ℕ, ◌+◌, ◌≤◌, List, [], ◌∷◌, length, AllPairs, Contains}
use Rattle.hex_geometry.specs.Neighbourhood.{adjacent_point}
use Rattle.hex_geometry.specs.Position.{Point, point_of}
use Rattle.hex_geometry.specs.RowOrder.{IsBefore}
use Rattle.hex_geometry.specs.declared.direction.Dir.{Dir}
use Rattle.hex_geometry.specs.declared.position.Pos.{Pos}

-- one point is the neighbour of the other in some direction
abbrev pub IsAdjacent : Point → Point → Type 0
IsAdjacent p q = (d : Dir) × (adjacent_point p d ≡ q)

-- these positions lead from p to q, one after another, each adjacent to the one before
abbrev pub LeadsTo : Point → List Point → Point → Type 0
LeadsTo p [] q = p ≡ q
LeadsTo p (next ∷ rest) q = IsAdjacent p next × LeadsTo next rest q

-- a walk of k steps from p to q: the positions after p, the last of which is q
pub record Walk (k : ℕ) (p q : Point) : Type 0 where
  pub positions : List Point
  pub steps : length positions ≡ k
  pub leads : LeadsTo p positions q

-- k is the distance: the least number of steps of a walk from p to q
pub record IsDistance (p q : Point) (k : ℕ) : Type 0 where
  pub reached : Walk k p q
  pub least : (n : ℕ) → Walk n p q → k ≤ n

-- the distance of p from the centre is at most this radius
pub record IsInBall (centre : Point) (radius : ℕ) (p : Point) : Type 0 where
  pub far : ℕ
  pub distance : IsDistance centre p far
  pub near : far ≤ radius

-- a ball all of whose positions have coordinates from 0 to 65,535
pub record HasBall (centre : Pos) (radius : ℕ) : Type 0 where
  pub from_left : radius ≤ centre.x
  pub to_right : centre.x + radius ≤ 65535
  pub from_top : radius ≤ centre.y
  pub to_bottom : centre.y + radius ≤ 65535

-- the list of a ball: exactly its positions, each once, in row order
pub record ListsBall (centre : Pos) (radius : ℕ) (items : List Pos) : Type 0 where
  pub within : (p : Pos) → Contains items p → IsInBall (point_of centre) radius (point_of p)
  pub every : (q : Point) → IsInBall (point_of centre) radius q → (p : Pos) × (point_of p ≡ q) × Contains items p
  pub in_order : AllPairs IsBefore items
