-- The worked neighbours of two positions, one in an odd row and one in an even row.
use Rattle.hex_geometry.proofs.Places.{at}
use Rattle.hex_geometry.proofs.Reaches.{distance_is}
use Rattle.hex_geometry.specs.Direction.{directions}
use Rattle.hex_geometry.specs.Distance.{IsDistance, Walk}
use Rattle.hex_geometry.specs.Inner.BallRows.{line, rows}
use Rattle.hex_geometry.specs.Neighbourhood.{adjacent_point, adjacent_pos, neighbours_of}
use Rattle.hex_geometry.specs.Position.{Point, is_on_rim, point_of}
use Rattle.hex_geometry.specs.RowOrder.{index_of, pos_at}
use Rattle.hex_geometry.specs.declared.direction.Dir.TheVariants.{SouthEast, SouthWest}
use Rattle.std.proofs.Common.{◌≡◌, ℕ, ◌+◌, ◌*◌, [], ◌∷◌, length, map, refl, arith}
use Rattle.std.specs.Prelude.{ℤ, pos, negsuc, true, false}

-- the neighbours of (3, 3)
pub around_3_3 : neighbours_of (at 3 3) ≡ at 4 3 ∷ at 4 4 ∷ at 3 4 ∷ at 2 3 ∷ at 3 2 ∷ at 4 2 ∷ []
unfolding neighbours_of adjacent_pos directions
around_3_3 = refl

-- the neighbours of (2, 2)
pub around_2_2 : neighbours_of (at 2 2) ≡ at 3 2 ∷ at 2 3 ∷ at 1 3 ∷ at 1 2 ∷ at 1 1 ∷ at 2 1 ∷ []
unfolding neighbours_of adjacent_pos directions
around_2_2 = refl

-- the table's row at (3, 3)
pub table_at_3_3 : map (adjacent_point (point_of (at 3 3))) directions ≡ map point_of (at 4 3 ∷ at 4 4 ∷ at 3 4 ∷ at 2 3 ∷ at 3 2 ∷ at 4 2 ∷ [])
unfolding adjacent_point directions
table_at_3_3 = refl

-- the table's row at (2, 2)
pub table_at_2_2 : map (adjacent_point (point_of (at 2 2))) directions ≡ map point_of (at 3 2 ∷ at 2 3 ∷ at 1 3 ∷ at 1 2 ∷ at 1 1 ∷ at 2 1 ∷ [])
unfolding adjacent_point directions
table_at_2_2 = refl

-- a place of whole numbers
abbrev pub place : ℤ → ℤ → Point
place x y = record { x = x; y = y }

-- a least walk that leaves the grid: from (0, 0) over (-1, 1) to (0, 2)
pub around_the_edge : Walk 2 (place (pos 0) (pos 0)) (place (pos 0) (pos 2))
unfolding adjacent_point
around_the_edge = record { positions = place (negsuc 0) (pos 1) ∷ place (pos 0) (pos 2) ∷ []; steps = refl; leads = ((SouthWest, refl), ((SouthEast, refl), refl)) }

-- no walk is shorter
pub two_rows_down : IsDistance (point_of (at 0 0)) (point_of (at 0 2)) 2
two_rows_down = distance_is (at 0 0) (at 0 2) 2 (omega arith) (omega arith) refl

-- two columns and a row on: the greater difference of coordinates would be too few steps, and their sum too many
pub across_and_down : IsDistance (point_of (at 3 3)) (point_of (at 1 5)) 3
across_and_down = distance_is (at 3 3) (at 1 5) 3 (omega arith) (omega arith) refl

-- from the first position to the last
pub corner_to_corner : IsDistance (point_of (at 0 0)) (point_of (at 65535 65535)) 98303
corner_to_corner = distance_is (at 0 0) (at 65535 65535) 98303 (omega arith) (omega arith) refl

-- the ball of radius 1 round (3, 3)
pub ball_3_3 : rows (at 3 3) 1 3 ≡ at 3 2 ∷ at 4 2 ∷ at 2 3 ∷ at 3 3 ∷ at 4 3 ∷ at 3 4 ∷ at 4 4 ∷ []
unfolding rows line
ball_3_3 = refl

-- a ball at the edge of the coordinates
pub ball_at_the_edge : rows (at 65534 65534) 1 3 ≡ at 65533 65533 ∷ at 65534 65533 ∷ at 65533 65534 ∷ at 65534 65534 ∷ at 65535 65534 ∷ at 65533 65535 ∷ at 65534 65535 ∷ []
unfolding rows line
ball_at_the_edge = refl

-- how many positions balls of radius 0, 1, 2, 4 and 6 have
pub ball_sizes : map (λ (r : ℕ). length (rows (at 18 7) r (2 * r + 1))) (0 ∷ 1 ∷ 2 ∷ 4 ∷ 6 ∷ []) ≡ 1 ∷ 7 ∷ 19 ∷ 61 ∷ 127 ∷ []
unfolding rows line
ball_sizes = refl

-- the numbers of positions of a world five wide, in a row and from row to row
pub numbers : map (index_of 5) (at 0 0 ∷ at 1 0 ∷ at 4 0 ∷ at 0 1 ∷ at 4 1 ∷ at 3 2 ∷ []) ≡ 0 ∷ 1 ∷ 4 ∷ 5 ∷ 9 ∷ 13 ∷ []
numbers = refl

-- the positions of numbers there
pub positions : map (pos_at 5) (0 ∷ 1 ∷ 4 ∷ 5 ∷ 9 ∷ 13 ∷ []) ≡ at 0 0 ∷ at 1 0 ∷ at 4 0 ∷ at 0 1 ∷ at 4 1 ∷ at 3 2 ∷ []
positions = refl

-- the rim of a world four wide and three high: all but two cells of the middle row
pub rim_4_3 : map (λ (i : ℕ). is_on_rim 4 3 (pos_at 4 i)) (0 ∷ 1 ∷ 2 ∷ 3 ∷ 4 ∷ 5 ∷ 6 ∷ 7 ∷ 8 ∷ 9 ∷ 10 ∷ 11 ∷ []) ≡
    true ∷ true ∷ true ∷ true ∷ true ∷ false ∷ false ∷ true ∷ true ∷ true ∷ true ∷ true ∷ []
rim_4_3 = refl
