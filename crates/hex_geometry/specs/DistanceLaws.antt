-- Laws of distances (the task's geometry).
use Rattle.std.specs.Prelude.{◌≡◌, ℕ, ◌+◌, ◌*◌, ◌≤◌, ◌↔◌, List, length}
use Rattle.hex_geometry.specs.Distance.{HasBall, IsAdjacent, IsDistance, ListsBall}
use Rattle.hex_geometry.specs.Position.{Point}
use Rattle.hex_geometry.specs.declared.position.Pos.{Pos}

-- over all pairs of whole numbers
pub record DistanceIsMetric : Type 0 where
  -- a walk leads from each place to each, so there is a distance, and only one
  pub some : (p q : Point) → (k : ℕ) × IsDistance p q k
  pub one : (p q : Point) (j k : ℕ) → IsDistance p q j → IsDistance p q k → j ≡ k
  -- it is zero from a place to itself, and only then
  pub zero_at_itself : (p : Point) → IsDistance p p 0
  pub zero_alone : (p q : Point) → IsDistance p q 0 → p ≡ q
  -- it is the same both ways
  pub symmetric : (p q : Point) (k : ℕ) → IsDistance p q k → IsDistance q p k
  -- a way over a third place is not shorter
  pub triangle : (p q r : Point) (j k n : ℕ) → IsDistance p q j → IsDistance q r k → IsDistance p r n → n ≤ j + k

-- over all pairs of whole numbers
pub record StepsChangeByOne : Type 0 where
  -- a step changes a distance by at most one
  pub change : (p next q : Point) (j k : ℕ) → IsAdjacent p next → IsDistance p q j → IsDistance next q k
      → (j ≤ k + 1) × (k ≤ j + 1)
  -- neighbours are the places at distance one, so neighbourhood is mutual
  pub neighbours : (p q : Point) → IsAdjacent p q ↔ IsDistance p q 1
  pub both_ways : (p q : Point) → IsAdjacent p q → IsAdjacent q p

-- the ball of radius r has 3 r (r + 1) + 1 positions
abbrev pub BallsAreCounted : Type 0
BallsAreCounted =
    (centre : Pos) (radius : ℕ) (items : List Pos) → HasBall centre radius → ListsBall centre radius items
    → length items ≡ 3 * radius * (radius + 1) + 1
