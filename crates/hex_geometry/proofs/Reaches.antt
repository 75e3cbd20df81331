-- The distance of two positions by their columns along slanting lines, and the laws of distances.
use Rattle.hex_geometry.proofs.Walks.{half, reach_distance, slant}
use Rattle.hex_geometry.specs.Distance.{IsDistance}
use Rattle.hex_geometry.specs.Inner.Slant.{slant_of}
use Rattle.hex_geometry.specs.Position.{point_of}
use Rattle.hex_geometry.specs.declared.position.Pos.{Pos}
use Rattle.std.proofs.Common.{◌≡◌, ℕ, ◌+◌, ◌≤◌, max, arith}
use Rattle.std.proofs.lemmas.Int.{ints}
use Rattle.std.specs.Int.{abs_diff}
use Rattle.std.specs.Prelude.{pos, ◌+ℤ◌}

-- the slanting column, from its start
slant_is : (p : Pos) → p.y ≤ 65535 → slant (point_of p) +ℤ pos 32768 ≡ pos (slant_of p)
unfolding half
slant_is p low = omega (arith, ints)

-- a number of steps within which the three differences are, and no fewer
reach : (a b c d e f k : ℕ) → k ≡ max (max (abs_diff a b) (abs_diff c d)) (abs_diff e f) → (b ≤ a + k) × (a ≤ b + k) × (d ≤ c + k) × (c ≤ d + k) × (f ≤ e + k) × (e ≤ f + k)
reach a b c d e f k is = (omega arith, omega arith, omega arith, omega arith, omega arith, omega arith)

reach_least : (a b c d e f k n : ℕ) → k ≡ max (max (abs_diff a b) (abs_diff c d)) (abs_diff e f) → b ≤ a + n → a ≤ b + n → d ≤ c + n → c ≤ d + n → f ≤ e + n → e ≤ f + n → k ≤ n
reach_least a b c d e f k n is h1 h2 h3 h4 h5 h6 = omega arith

-- the greatest of the three differences is the distance
pub distance_is : (p q : Pos) (k : ℕ) → p.y ≤ 65535 → q.y ≤ 65535
    → k ≡ max (max (abs_diff (slant_of p) (slant_of q)) (abs_diff p.y q.y)) (abs_diff (slant_of p + p.y) (slant_of q + q.y))
    → IsDistance (point_of p) (point_of q) k
distance_is p q k low_p low_q is =
    let sp = slant_is p low_p in
    let sq = slant_is q low_q in
    let r = reach (slant_of p) (slant_of q) p.y q.y (slant_of p + p.y) (slant_of q + q.y) k is in
    reach_distance (point_of p) (point_of q) k
    (record { below = omega (arith, ints); above = omega (arith, ints); right = omega (arith, ints); left = omega (arith, ints); under = omega (arith, ints); over = omega (arith, ints) })
    (λ n w. reach_least (slant_of p) (slant_of q) p.y q.y (slant_of p + p.y) (slant_of q + q.y) k n is (omega (arith, ints)) (omega (arith, ints)) (omega (arith, ints)) (omega (arith, ints)) (omega (arith, ints)) (omega (arith, ints)))
