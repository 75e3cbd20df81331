-- The least walk, by three differences of coordinates.
use Rattle.hex_geometry.specs.Distance.{IsDistance, LeadsTo, Walk}
use Rattle.hex_geometry.specs.Neighbourhood.{adjacent_point, beside_in_even, beside_in_odd, is_even}
use Rattle.hex_geometry.specs.Position.{Point}
use Rattle.hex_geometry.specs.declared.direction.Dir.{Dir}
use Rattle.hex_geometry.specs.declared.direction.Dir.TheVariants.{East, SouthEast, SouthWest, West, NorthWest, NorthEast}
use Rattle.std.proofs.Common.{◌≡◌, ◌≢◌, ℕ, zero, suc, ◌%◌, ◌/◌, ◌≤◌, List, [], ◌∷◌, length, true, false, refl, sym, ◌∙◌, ap, arith, subst, inl, inr}
use Rattle.std.proofs.lemmas.Bool.{cond_both, eqb-true, eqb-false}
use Rattle.std.proofs.lemmas.Int.{ints}
use Rattle.std.specs.Prelude.{ℤ, pos, negsuc, ◌+ℤ◌, ◌-ℤ◌, ◌⊎◌}
use lib.Signed.{◌≤ℤ◌}

-- half of a whole number, rounded down
unfoldable pub half : ℤ → ℤ
half (pos n) = pos (n / 2)
half (negsuc n) = negsuc (n / 2)

even_half : (y : ℤ) → is_even y ≡ true → y ≡ half y +ℤ half y
unfolding half
even_half (pos n) even = let e = eqb-true (n % 2) 0 even in omega (arith, ints, e)
even_half (negsuc n) even = let e = eqb-true (n % 2) 1 even in omega (arith, ints, e)

odd_half : (y : ℤ) → is_even y ≡ false → y ≡ half y +ℤ half y +ℤ pos 1
unfolding half
odd_half (pos n) odd = let e : n % 2 ≢ 0 = eqb-false (n % 2) 0 odd in omega (arith, ints, e)
odd_half (negsuc n) odd = let e : n % 2 ≢ 1 = eqb-false (n % 2) 1 odd in omega (arith, ints, e)

-- twice the half is the number or one less
pub record Halved (y : ℤ) : Type 0 where
  pub low : (half y +ℤ half y) ≤ℤ y
  pub high : y ≤ℤ (half y +ℤ half y +ℤ pos 1)

pub halved : (y : ℤ) → Halved y
unfolding half
halved (pos n) = record { low = omega (arith, ints); high = omega (arith, ints) }
halved (negsuc n) = record { low = omega (arith, ints); high = omega (arith, ints) }

-- the column counted along a slanting line: neighbours in one direction differ by one amount in every row
abbrev pub slant : Point → ℤ
slant p = p.x -ℤ half p.y

-- what a step in a direction adds to the slanting column, and to the row
abbrev pub across : Dir → ℤ
across SouthEast = pos 0
across SouthWest = negsuc 0
across West = negsuc 0
across NorthWest = pos 0
across it = pos 1

abbrev pub down : Dir → ℤ
down SouthEast = pos 1
down SouthWest = pos 1
down NorthWest = negsuc 0
down NorthEast = negsuc 0
down it = pos 0

-- a place's two numbers
pub record IsStep (p : Point) (d : Dir) (q : Point) : Type 0 where
  pub column : slant q ≡ slant p +ℤ across d
  pub row : q.y ≡ p.y +ℤ down d

step_even : (p : Point) (d : Dir) → p.y ≡ half p.y +ℤ half p.y → IsStep p d (beside_in_even p.x p.y d)
step_even p SouthEast e = let h = halved (p.y +ℤ pos 1) in record { column = omega (arith, ints); row = omega (arith, ints) }
step_even p SouthWest e = let h = halved (p.y +ℤ pos 1) in record { column = omega (arith, ints); row = omega (arith, ints) }
step_even p NorthWest e = let h = halved (p.y -ℤ pos 1) in record { column = omega (arith, ints); row = omega (arith, ints) }
step_even p NorthEast e = let h = halved (p.y -ℤ pos 1) in record { column = omega (arith, ints); row = omega (arith, ints) }
step_even p it e = record { column = omega (arith, ints); row = omega (arith, ints) }

step_odd : (p : Point) (d : Dir) → p.y ≡ half p.y +ℤ half p.y +ℤ pos 1 → IsStep p d (beside_in_odd p.x p.y d)
step_odd p SouthEast e = let h = halved (p.y +ℤ pos 1) in record { column = omega (arith, ints); row = omega (arith, ints) }
step_odd p SouthWest e = let h = halved (p.y +ℤ pos 1) in record { column = omega (arith, ints); row = omega (arith, ints) }
step_odd p NorthWest e = let h = halved (p.y -ℤ pos 1) in record { column = omega (arith, ints); row = omega (arith, ints) }
step_odd p NorthEast e = let h = halved (p.y -ℤ pos 1) in record { column = omega (arith, ints); row = omega (arith, ints) }
step_odd p it e = record { column = omega (arith, ints); row = omega (arith, ints) }

pub step_is : (p : Point) (d : Dir) → IsStep p d (adjacent_point p d)
unfolding adjacent_point
step_is p d =
    cond_both (is_even p.y) (beside_in_even p.x p.y d) (beside_in_odd p.x p.y d) (IsStep p d)
    (λ even. step_even p d (even_half p.y even))
    (λ odd. step_odd p d (odd_half p.y odd))

-- the three differences of two places are at most k
pub record Within (k : ℕ) (p q : Point) : Type 0 where
  pub below : q.y ≤ℤ (p.y +ℤ pos k)
  pub above : p.y ≤ℤ (q.y +ℤ pos k)
  pub right : (slant q) ≤ℤ (slant p +ℤ pos k)
  pub left : (slant p) ≤ℤ (slant q +ℤ pos k)
  pub under : (slant q +ℤ q.y) ≤ℤ (slant p +ℤ p.y +ℤ pos k)
  pub over : (slant p +ℤ p.y) ≤ℤ (slant q +ℤ q.y +ℤ pos k)

within_step : (k : ℕ) (p next q : Point) (d : Dir) → IsStep p d next → Within k next q → Within (suc k) p q
within_step k p next q East s w = record { below = omega (arith, ints); above = omega (arith, ints); right = omega (arith, ints); left = omega (arith, ints); under = omega (arith, ints); over = omega (arith, ints) }
within_step k p next q it s w = record { below = omega (arith, ints); above = omega (arith, ints); right = omega (arith, ints); left = omega (arith, ints); under = omega (arith, ints); over = omega (arith, ints) }

within_self : (p : Point) → Within 0 p p
within_self p = record { below = omega (arith, ints); above = omega (arith, ints); right = omega (arith, ints); left = omega (arith, ints); under = omega (arith, ints); over = omega (arith, ints) }

-- positions that lead on from p stay within their number
leads_within : (p : Point) (rest : List Point) (q : Point) → LeadsTo p rest q → Within (length rest) p q
leads_within p [] q leads = subst (Within 0 p) leads (within_self p)
leads_within p (next ∷ rest) q leads =
    let d = leads.0.0 in
    let s : IsStep p d next = subst (IsStep p d) leads.0.1 (step_is p d) in
    within_step (length rest) p next q d s (leads_within next rest q leads.1)

pub walk_within : (k : ℕ) (p q : Point) → Walk k p q → Within k p q
walk_within k p q walk = subst (λ n. Within n p q) walk.steps (leads_within p walk.positions q walk.leads)

-- places with one slanting column and one row are one
same_place : (p q : Point) → slant q ≡ slant p → q.y ≡ p.y → p ≡ q
same_place p q columns rows =
    let at : ℤ → ℤ → Point = λ x y. record { x = x; y = y } in
    let halves : half q.y ≡ half p.y = ap half rows in
    let x_same : p.x ≡ q.x = omega (arith, ints) in
    ap (λ x. at x p.y) x_same ∙ ap (at q.x) (sym rows)

pub within_none : (p q : Point) → Within 0 p q → p ≡ q
within_none p q w = same_place p q (omega (arith, ints)) (omega (arith, ints))

-- from a place that is off the end, some neighbour is nearer; u and v are the differences
toward : (k : ℕ) (p q : Point) (u v : ℤ) → slant q ≡ slant p +ℤ u → q.y ≡ p.y +ℤ v → Within (suc k) p q → (p ≡ q) ⊎ ((d : Dir) × Within k (adjacent_point p d) q)
toward k p q (pos zero) (pos zero) eu ev w = inl (same_place p q (omega (arith, ints)) (omega (arith, ints)))
toward k p q (pos zero) (pos (suc n)) eu ev w =
    let s = step_is p SouthEast in
    inr (SouthEast, record { below = omega (arith, ints); above = omega (arith, ints); right = omega (arith, ints); left = omega (arith, ints); under = omega (arith, ints); over = omega (arith, ints) })
toward k p q (pos zero) (negsuc n) eu ev w =
    let s = step_is p NorthWest in
    inr (NorthWest, record { below = omega (arith, ints); above = omega (arith, ints); right = omega (arith, ints); left = omega (arith, ints); under = omega (arith, ints); over = omega (arith, ints) })
toward k p q (pos (suc m)) (pos n) eu ev w =
    let s = step_is p East in
    inr (East, record { below = omega (arith, ints); above = omega (arith, ints); right = omega (arith, ints); left = omega (arith, ints); under = omega (arith, ints); over = omega (arith, ints) })
toward k p q (pos (suc m)) (negsuc n) eu ev w =
    let s = step_is p NorthEast in
    inr (NorthEast, record { below = omega (arith, ints); above = omega (arith, ints); right = omega (arith, ints); left = omega (arith, ints); under = omega (arith, ints); over = omega (arith, ints) })
toward k p q (negsuc m) (pos zero) eu ev w =
    let s = step_is p West in
    inr (West, record { below = omega (arith, ints); above = omega (arith, ints); right = omega (arith, ints); left = omega (arith, ints); under = omega (arith, ints); over = omega (arith, ints) })
toward k p q (negsuc m) (pos (suc n)) eu ev w =
    let s = step_is p SouthWest in
    inr (SouthWest, record { below = omega (arith, ints); above = omega (arith, ints); right = omega (arith, ints); left = omega (arith, ints); under = omega (arith, ints); over = omega (arith, ints) })
toward k p q (negsuc m) (negsuc n) eu ev w =
    let s = step_is p West in
    inr (West, record { below = omega (arith, ints); above = omega (arith, ints); right = omega (arith, ints); left = omega (arith, ints); under = omega (arith, ints); over = omega (arith, ints) })

pub nearer : (k : ℕ) (p q : Point) → Within (suc k) p q → (p ≡ q) ⊎ ((d : Dir) × Within k (adjacent_point p d) q)
nearer k p q w = toward k p q (slant q -ℤ slant p) (q.y -ℤ p.y) (omega (arith, ints)) (omega (arith, ints)) w

-- no step
stay : (p q : Point) → p ≡ q → Walk 0 p q
stay p q e = record { positions = []; steps = refl; leads = e }

-- one step, and then a walk
go_on : (k : ℕ) (p q : Point) (d : Dir) → Walk k (adjacent_point p d) q → Walk (suc k) p q
go_on k p q d walk = record { positions = adjacent_point p d ∷ walk.positions; steps = ap suc walk.steps; leads = ((d, refl), walk.leads) }

-- if the differences are at most k, this many steps are enough
within_walk : (k : ℕ) (p q : Point) → Within k p q → (j : ℕ) × (j ≤ k) × Walk j p q
within_walk zero p q w = (0, omega arith, stay p q (within_none p q w))
within_walk (suc k) p q w =
    elim (nearer k p q w) [
      | inl e ↦ (0, omega arith, stay p q e)
      | inr way ↦
          let shorter = within_walk k (adjacent_point p way.0) q way.1 in
          (suc shorter.0, (let h = shorter.1 in omega arith), go_on shorter.0 p q way.0 shorter.2)
    ]

-- the least k that the differences stay within is the distance
pub reach_distance : (p q : Point) (k : ℕ) → Within k p q → ((n : ℕ) → Within n p q → k ≤ n) → IsDistance p q k
reach_distance p q k within tight =
    let walk = within_walk k p q within in
    let up : k ≤ walk.0 = tight walk.0 (walk_within walk.0 p q walk.2) in
    let same : walk.0 ≡ k = let h = walk.1 in omega arith in
    record { reached = subst (λ n. Walk n p q) same walk.2; least = λ n other. tight n (walk_within n p q other) }

-- places at a distance lie within it
pub distance_within : (p q : Point) (k : ℕ) → IsDistance p q k → Within k p q
distance_within p q k far = walk_within k p q far.reached

-- and within no less
pub distance_tight : (p q : Point) (k n : ℕ) → IsDistance p q k → Within n p q → k ≤ n
distance_tight p q k n far within =
    let walk = within_walk n p q within in
    let up = far.least walk.0 walk.2 in
    let h = walk.1 in
    omega arith
