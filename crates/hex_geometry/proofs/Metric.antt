-- The laws of distances.
use Rattle.hex_geometry.proofs.Walks.{IsStep, Within, distance_tight, distance_within, reach_distance, slant, step_is, walk_within, within_none}
use Rattle.hex_geometry.specs.Distance.{IsAdjacent, IsDistance, LeadsTo, Walk}
use Rattle.hex_geometry.specs.Neighbourhood.{adjacent_point}
use Rattle.hex_geometry.specs.Position.{Point}
use Rattle.hex_geometry.specs.declared.direction.Dir.{Dir}
use Rattle.hex_geometry.specs.declared.direction.Dir.TheVariants.{East, SouthEast, SouthWest, West, NorthWest, NorthEast}
use Rattle.std.proofs.Common.{◌≡◌, ℕ, zero, suc, ◌+◌, ◌≤◌, max, List, [], ◌∷◌, length, refl, sym, arith, subst}
use Rattle.std.proofs.Math.Nat.{max-le}
use Rattle.std.proofs.lemmas.Int.{ints}
use Rattle.std.specs.Prelude.{ℤ, pos, negsuc, ◌+ℤ◌, ◌-ℤ◌}
use lib.Signed.{◌≤ℤ◌}

-- how far a whole number is from zero
span : ℤ → ℕ
span (pos n) = n
span (negsuc n) = suc n

-- no number below it bounds the number on both sides
record IsSpan (z : ℤ) (k : ℕ) : Type 0 where
  high : z ≤ℤ pos k
  low : (pos 0 -ℤ z) ≤ℤ pos k
  least : (n : ℕ) → z ≤ℤ pos n → (pos 0 -ℤ z) ≤ℤ pos n → k ≤ n

span_is : (z : ℤ) → IsSpan z (span z)
unfolding span
span_is (pos n) = record { high = omega (arith, ints); low = omega (arith, ints); least = λ m h l. omega (arith, ints) }
span_is (negsuc n) = record { high = omega (arith, ints); low = omega (arith, ints); least = λ m h l. omega (arith, ints) }

-- there is a distance
pub distance_some : (p q : Point) → (k : ℕ) × IsDistance p q k
distance_some p q =
    let a = span_is (slant q -ℤ slant p) in
    let b = span_is (q.y -ℤ p.y) in
    let c = span_is ((slant q +ℤ q.y) -ℤ (slant p +ℤ p.y)) in
    let i = span (slant q -ℤ slant p) in
    let j = span (q.y -ℤ p.y) in
    let m = span ((slant q +ℤ q.y) -ℤ (slant p +ℤ p.y)) in
    let k = max (max i j) m in
    let hi : i ≤ k = omega arith in
    let hj : j ≤ k = omega arith in
    let hm : m ≤ k = omega arith in (
      k,
      reach_distance p q k
          (record { below = omega (arith, ints); above = omega (arith, ints); right = omega (arith, ints); left = omega (arith, ints); under = omega (arith, ints); over = omega (arith, ints) })
          (λ n w.
          let li : i ≤ n = a.least n (omega (arith, ints)) (omega (arith, ints)) in
          let lj : j ≤ n = b.least n (omega (arith, ints)) (omega (arith, ints)) in
          let lm : m ≤ n = c.least n (omega (arith, ints)) (omega (arith, ints)) in
          max-le (max-le li lj) lm),
    )

-- and only one
pub distance_one : (p q : Point) (j k : ℕ) → IsDistance p q j → IsDistance p q k → j ≡ k
distance_one p q j k first second =
    let up = first.least k second.reached in
    let down = second.least j first.reached in
    omega arith

pub distance_self : (p : Point) → IsDistance p p 0
distance_self p = record { reached = record { positions = []; steps = refl; leads = refl }; least = λ n w. omega arith }

pub distance_zero : (p q : Point) → IsDistance p q 0 → p ≡ q
distance_zero p q far = within_none p q (distance_within p q 0 far)

pub within_back : (k : ℕ) (p q : Point) → Within k p q → Within k q p
within_back k p q w = record { below = w.above; above = w.below; right = w.left; left = w.right; under = w.over; over = w.under }

pub distance_back : (p q : Point) (k : ℕ) → IsDistance p q k → IsDistance q p k
distance_back p q k far =
    reach_distance q p k (within_back k p q (distance_within p q k far)) (λ n w. distance_tight p q k n far (within_back n q p w))

pub within_over : (j k : ℕ) (p q r : Point) → Within j p q → Within k q r → Within (j + k) p r
within_over j k p q r v w = record { below = omega (arith, ints); above = omega (arith, ints); right = omega (arith, ints); left = omega (arith, ints); under = omega (arith, ints); over = omega (arith, ints) }

pub distance_over : (p q r : Point) (j k n : ℕ) → IsDistance p q j → IsDistance q r k → IsDistance p r n → n ≤ j + k
distance_over p q r j k n first second whole =
    distance_tight p r n (j + k) whole (within_over j k p q r (distance_within p q j first) (distance_within q r k second))

-- a neighbour is within one step, either way
pub within_one : (p next : Point) → IsAdjacent p next → Within 1 p next
within_one p next way = subst (Within 1 p) way.1 (one_step way.0 (step_is p way.0)) where
  one_step : (d : Dir) → IsStep p d (adjacent_point p d) → Within 1 p (adjacent_point p d)
  one_step East s = record { below = omega (arith, ints); above = omega (arith, ints); right = omega (arith, ints); left = omega (arith, ints); under = omega (arith, ints); over = omega (arith, ints) }
  one_step SouthEast s = record { below = omega (arith, ints); above = omega (arith, ints); right = omega (arith, ints); left = omega (arith, ints); under = omega (arith, ints); over = omega (arith, ints) }
  one_step SouthWest s = record { below = omega (arith, ints); above = omega (arith, ints); right = omega (arith, ints); left = omega (arith, ints); under = omega (arith, ints); over = omega (arith, ints) }
  one_step West s = record { below = omega (arith, ints); above = omega (arith, ints); right = omega (arith, ints); left = omega (arith, ints); under = omega (arith, ints); over = omega (arith, ints) }
  one_step NorthWest s = record { below = omega (arith, ints); above = omega (arith, ints); right = omega (arith, ints); left = omega (arith, ints); under = omega (arith, ints); over = omega (arith, ints) }
  one_step NorthEast s = record { below = omega (arith, ints); above = omega (arith, ints); right = omega (arith, ints); left = omega (arith, ints); under = omega (arith, ints); over = omega (arith, ints) }

pub distance_step : (p next q : Point) (j k : ℕ) → IsAdjacent p next → IsDistance p q j → IsDistance next q k → (j ≤ k + 1) × (k ≤ j + 1)
distance_step p next q j k way first second =
    let there = within_one p next way in
    let on : Within (1 + k) p q = within_over 1 k p next q there (distance_within next q k second) in
    let back : Within (1 + j) next q = within_over 1 j next p q (within_back 1 p next there) (distance_within p q j first) in
    let h1 = distance_tight p q j (1 + k) first on in
    let h2 = distance_tight next q k (1 + j) second back in
    (omega arith, omega arith)

-- a neighbour is another place
moved : (p q : Point) (d : Dir) → IsStep p d q → p ≡ q → ⊥
moved p q d s e = off d (subst (IsStep p d) (sym e) s) where
  off : (d : Dir) → IsStep p d p → ⊥
  off East s = omega (arith, ints)
  off SouthEast s = omega (arith, ints)
  off SouthWest s = omega (arith, ints)
  off West s = omega (arith, ints)
  off NorthWest s = omega (arith, ints)
  off NorthEast s = omega (arith, ints)

-- a walk of no step leads nowhere else
walk_none : (p q : Point) (n : ℕ) → Walk n p q → n ≡ 0 → p ≡ q
walk_none p q n walk none = within_none p q (subst (λ m. Within m p q) none (walk_within n p q walk))

-- from a place to a neighbour it takes a step
some_step : (p q : Point) → IsAdjacent p q → (n : ℕ) → Walk n p q → 1 ≤ n
some_step p q way zero walk = absurd (moved p q way.0 (subst (IsStep p way.0) way.1 (step_is p way.0)) (walk_none p q zero walk refl))
some_step p q way (suc n) walk = omega arith

-- neighbours are at distance one
pub adjacent_distance : (p q : Point) → IsAdjacent p q → IsDistance p q 1
adjacent_distance p q way = record { reached = record { positions = q ∷ []; steps = refl; leads = (way, refl) }; least = some_step p q way }

-- and what is at distance one is a neighbour
first_step : (p q : Point) (positions : List Point) → length positions ≡ 1 → LeadsTo p positions q → IsAdjacent p q
first_step p q (next ∷ []) one leads = subst (IsAdjacent p) leads.1 leads.0
first_step p q it one leads = absurd (omega arith)

pub distance_adjacent : (p q : Point) → IsDistance p q 1 → IsAdjacent p q
distance_adjacent p q far = first_step p q far.reached.positions far.reached.steps far.reached.leads

pub adjacent_back : (p q : Point) → IsAdjacent p q → IsAdjacent q p
adjacent_back p q way = distance_adjacent q p (distance_back p q 1 (adjacent_distance p q way))
