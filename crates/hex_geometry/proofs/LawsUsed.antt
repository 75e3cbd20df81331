-- Each law of the geometry, used at a few places: a weaker law would not do.
use Rattle.hex_geometry.proofs.Places.{at}
use Rattle.hex_geometry.proofs.Worked.{across_and_down, place, two_rows_down}
use Rattle.hex_geometry.specs.Direction.{dir_of, number_of, opposite, turned_by}
use Rattle.hex_geometry.specs.Distance.{IsAdjacent, IsDistance, ListsBall}
use Rattle.hex_geometry.specs.DistanceLaws.{BallsAreCounted, DistanceIsMetric, StepsChangeByOne}
use Rattle.hex_geometry.specs.Laws.{NeighboursAreMutual, NeighboursAreTheTables, TurnsGoRound}
use Rattle.hex_geometry.specs.Neighbourhood.{adjacent_point, adjacent_pos, neighbours_of}
use Rattle.hex_geometry.specs.Position.{Point, RimIsOutermost, is_on_rim, point_of}
use Rattle.hex_geometry.specs.RowOrder.{IsBefore, RowsAreNumbered, pos_at}
use Rattle.hex_geometry.specs.declared.direction.Dir.{Dir}
use Rattle.hex_geometry.specs.declared.direction.Dir.TheVariants.{East, SouthEast, SouthWest, West, NorthWest, NorthEast}
use Rattle.hex_geometry.specs.declared.direction.Side.TheVariants.{Left, Right}
use Rattle.hex_geometry.specs.declared.position.Pos.{Pos}
use Rattle.std.proofs.Common.{◌≡◌, ◌≢◌, ℕ, ◌+◌, ◌*◌, ◌/◌, ◌%◌, ◌<◌, ◌≤◌, List, length, Some, false, refl, sym, ap, ◌∙◌, arith}
use Rattle.std.specs.Prelude.{pos, negsuc, AllPairs, Contains, slice_get}

-- at the first row and column, which is odd, and in the even row below it
pub neighbours_are_the_tables_used : NeighboursAreTheTables →
    (point_of (adjacent_pos (at 1 1) NorthWest) ≡ place (pos 1) (pos 0)) × (point_of (adjacent_pos (at 1 2) SouthWest) ≡ place (pos 0) (pos 3))
unfolding adjacent_point
neighbours_are_the_tables_used law = (law (at 1 1) NorthWest (omega arith) (omega arith), law (at 1 2) SouthWest (omega arith) (omega arith))

-- at (1, 1), whose neighbours are these six
pub neighbours_are_mutual_used : NeighboursAreMutual →
    (adjacent_pos (adjacent_pos (at 1 1) NorthWest) SouthEast ≡ at 1 1)
    × ((q : Pos) → Contains (neighbours_of (at 1 1)) q → Contains (neighbours_of q) (at 1 1))
    × (AllPairs ◌≢◌ (neighbours_of (at 1 1)))
    × (adjacent_pos (at 1 1) West ≢ at 1 1)
    × ((adjacent_pos (at 1 1) SouthEast).x < 3)
    × ((adjacent_pos (at 1 1) SouthEast).y < 3)
unfolding opposite
neighbours_are_mutual_used law =
    let inner = law.inside 3 3 (at 1 1) SouthEast (record { from_left = omega arith; to_right = omega arith; from_top = omega arith; to_bottom = omega arith }) in (
      law.back (at 1 1) NorthWest (omega arith) (omega arith),
      (λ q. law.both_ways (at 1 1) q (omega arith) (omega arith)),
      law.distinct (at 1 1) (omega arith) (omega arith),
      law.other (at 1 1) West (omega arith) (omega arith),
      inner.column,
      inner.row,
    )

-- directions with one number are one, and so are numbers with one direction and directions with one turn; the last
-- neighbour of six
pub turns_go_round_used : TurnsGoRound →
    ((d e : Dir) → number_of d ≡ number_of e → d ≡ e)
    × ((j k : ℕ) → j < 6 → k < 6 → dir_of j ≡ dir_of k → j ≡ k)
    × ((p : Pos) → slice_get (neighbours_of p) 5 ≡ Some (adjacent_pos p NorthEast))
    × (turned_by (turned_by East Left) Right ≡ East)
    × (turned_by (turned_by NorthEast Right) Left ≡ NorthEast)
    × (turned_by (turned_by (turned_by (turned_by (turned_by (turned_by East Left) Left) Left) Left) Left) Left ≡ East)
    × (turned_by (turned_by (turned_by (turned_by (turned_by (turned_by East Right) Right) Right) Right) Right) Right ≡ East)
    × (turned_by (turned_by (turned_by SouthEast Left) Left) Left ≡ NorthWest)
unfolding opposite
turns_go_round_used law = (
  (λ d e same. sym (law.dir_of_number d) ∙ ap dir_of same ∙ law.dir_of_number e),
  (λ j k small below same. sym (law.number_of_dir j small) ∙ ap number_of same ∙ law.number_of_dir k below),
  (λ p. law.neighbour_at p 5 (omega arith)),
  law.left_then_right East,
  law.right_then_left NorthEast,
  law.six_left East,
  law.six_right East,
  law.three SouthEast Left,
)

-- two columns and a row on is three steps, and nothing else, both ways; over a third place it is no farther
pub distance_is_metric_used : DistanceIsMetric →
    ((k : ℕ) × IsDistance (place (negsuc 0) (pos 1)) (place (pos 0) (pos 0)) k)
    × ((k : ℕ) → IsDistance (point_of (at 3 3)) (point_of (at 1 5)) k → k ≡ 3)
    × (IsDistance (place (negsuc 0) (pos 1)) (place (negsuc 0) (pos 1)) 0)
    × ((q : Point) → IsDistance (place (negsuc 0) (pos 1)) q 0 → q ≡ place (negsuc 0) (pos 1))
    × (IsDistance (point_of (at 1 5)) (point_of (at 3 3)) 3)
    × ((r : Point) (n : ℕ) → IsDistance (point_of (at 0 2)) r 3 → IsDistance (point_of (at 0 0)) r n → n ≤ 5)
distance_is_metric_used law = (
  law.some (place (negsuc 0) (pos 1)) (place (pos 0) (pos 0)),
  (λ k far. law.one (point_of (at 3 3)) (point_of (at 1 5)) k 3 far across_and_down),
  law.zero_at_itself (place (negsuc 0) (pos 1)),
  (λ q none. sym (law.zero_alone (place (negsuc 0) (pos 1)) q none)),
  law.symmetric (point_of (at 3 3)) (point_of (at 1 5)) 3 across_and_down,
  (λ r n rest far. law.triangle (point_of (at 0 0)) (point_of (at 0 2)) r 2 3 n two_rows_down rest far),
)

-- a step from (0, 0) to (-1, 1), off the grid, on the way to (0, 2)
pub steps_change_by_one_used : StepsChangeByOne →
    ((k : ℕ) → IsDistance (place (negsuc 0) (pos 1)) (point_of (at 0 2)) k → (2 ≤ k + 1) × (k ≤ 3))
    × (IsDistance (place (pos 0) (pos 0)) (place (negsuc 0) (pos 1)) 1)
    × ((q : Point) → IsDistance (place (pos 0) (pos 0)) q 1 → (d : Dir) × (adjacent_point (place (pos 0) (pos 0)) d ≡ q))
    × ((d : Dir) × (adjacent_point (place (negsuc 0) (pos 1)) d ≡ place (pos 0) (pos 0)))
unfolding adjacent_point
steps_change_by_one_used law =
    let step : IsAdjacent (place (pos 0) (pos 0)) (place (negsuc 0) (pos 1)) = (SouthWest, refl) in (
      (λ k far. law.change (place (pos 0) (pos 0)) (place (negsuc 0) (pos 1)) (point_of (at 0 2)) 2 k step two_rows_down far),
      (law.neighbours (place (pos 0) (pos 0)) (place (negsuc 0) (pos 1))).0 step,
      (λ q near. (law.neighbours (place (pos 0) (pos 0)) q).1 near),
      law.both_ways (place (pos 0) (pos 0)) (place (negsuc 0) (pos 1)) step,
    )

-- a ball of radius 6 that touches the first row and column
pub balls_are_counted_used : BallsAreCounted → (items : List Pos) → ListsBall (at 6 6) 6 items → length items ≡ 127
balls_are_counted_used law items =
    law (at 6 6) 6 items (record { from_left = omega arith; to_right = omega arith; from_top = omega arith; to_bottom = omega arith })

-- a world five wide and three high
pub rows_are_numbered_used : RowsAreNumbered →
    ((y : ℕ) → pos_at 5 (y * 5 + 4) ≡ at 4 y)
    × ((i : ℕ) → i / 5 * 5 + i % 5 ≡ i)
    × ((x y : ℕ) → x < 5 → y < 3 → y * 5 + x < 15)
    × ((i : ℕ) → i < 15 → (i % 5 < 5) × (i / 5 < 3))
    × ((p q : Pos) → p.x < 5 → q.x < 5 → IsBefore p q → p.y * 5 + p.x < q.y * 5 + q.x)
    × ((p q : Pos) → p.x < 5 → q.x < 5 → p.y * 5 + p.x < q.y * 5 + q.x → IsBefore p q)
rows_are_numbered_used law = (
  (λ y. law.position 5 (at 4 y) (omega arith)),
  law.number 5,
  (λ x y left above. law.below 5 3 (at x y) (record { column = left; row = above })),
  (λ i small. let it = law.inside 5 3 i small in (it.column, it.row)),
  (λ p q left right. (law.in_order 5 p q left right).0),
  (λ p q left right. (law.in_order 5 p q left right).1),
)

-- the middle row of a world three high: its last cell that isn't on the rim, and what isn't on the rim ends before the
-- last column
pub rim_is_outermost_used : RimIsOutermost →
    ((width : ℕ) → 3 < width → is_on_rim width 3 (at 2 1) ≡ false)
    × ((p : Pos) → p.x < 4 → p.y < 3 → is_on_rim 4 3 p ≡ false → (1 ≤ p.x) × (p.x + 1 < 4) × (1 ≤ p.y) × (p.y + 1 < 3))
rim_is_outermost_used law = (
  (λ width wide. (law width 3 (at 2 1) (record { column = omega (arith, wide); row = omega arith })).1
      (record { from_left = omega arith; to_right = wide; from_top = omega arith; to_bottom = omega arith })),
  (λ p left above clear.
      let inner = (law 4 3 p (record { column = left; row = above })).0 clear in
      (inner.from_left, inner.to_right, inner.from_top, inner.to_bottom)),
)
