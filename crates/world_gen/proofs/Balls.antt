-- Balls that end before the rim.
use Rattle.hex_geometry.proofs.BallRows.{ball_within, within_ball}
use Rattle.hex_geometry.proofs.Metric.{distance_one}
use Rattle.hex_geometry.proofs.Walks.{Within, half}
use Rattle.hex_geometry.specs.Distance.{HasBall, IsDistance, IsInBall}
use Rattle.hex_geometry.specs.Position.{HasNeighbours, IsInner, Point, point_of}
use Rattle.hex_geometry.specs.declared.position.Pos.{Pos}
use Rattle.std.proofs.Common.{◌≡◌, ℕ, ◌+◌, ◌-◌, ◌*◌, ◌<◌, ◌≤◌, List, refl, sym, ◌∙◌, ap, arith, subst, inl, inr}
use Rattle.std.proofs.lemmas.Bool.{cases_Bool}
use Rattle.std.proofs.lemmas.Int.{ints}
use Rattle.std.specs.Prelude.{Bool, ℤ, pos, negsuc, ◌+ℤ◌, ◌-ℤ◌}
use Rattle.world_gen.specs.FreeSpots.{IsOffRim}
use Rattle.world_gen.specs.Inner.Open.{BallIsOpen, IsFenced, IsOpen, IsShut, IsBallWithin, RowIsOpen, in_row, is_unblocked}

-- what is at a distance in a ball is within its radius
pub ball_far : (p q : Point) (radius k : ℕ) → IsInBall p radius q → IsDistance p q k → k ≤ radius
ball_far p q radius k ball far =
    let same = distance_one p q ball.far k ball.distance far in
    let near = ball.near in
    omega arith

-- the four sides of a ball
side : ℤ → ℤ → Point
side x y = record { x = x; y = y }

-- if each place of a ball is a position of some kind, so are four at its sides
pub record HasSides (P : Pos → Type 0) (centre : Pos) (radius : ℕ) : Type 0 where
  pub left : (p : Pos) × (p.x + radius ≡ centre.x) × P p
  pub right : (p : Pos) × (p.x ≡ centre.x + radius) × P p
  pub top : (p : Pos) × (p.y + radius ≡ centre.y) × P p
  pub bottom : (p : Pos) × (p.y ≡ centre.y + radius) × P p

module _ (P : Pos → Type 0) (centre : Pos) (radius : ℕ) (all : (q : Point) → IsInBall (point_of centre) radius q → (p : Pos) × (point_of p ≡ q) × P p) where
  at : (x y : ℤ) → Within radius (point_of centre) (record { x = x; y = y }) → (p : Pos) × (point_of p ≡ record { x = x; y = y }) × P p
  at x y w = all (record { x = x; y = y }) (within_ball (point_of centre) (record { x = x; y = y }) radius w)

  left_side : (p : Pos) × (p.x + radius ≡ centre.x) × P p
  unfolding half
  left_side =
      let found = at (pos centre.x -ℤ pos radius) (pos centre.y) (record { below = omega (arith, ints); above = omega (arith, ints); right = omega (arith, ints); left = omega (arith, ints); under = omega (arith, ints); over = omega (arith, ints) }) in
      let column : pos found.0.x ≡ pos centre.x -ℤ pos radius = ap (λ (q : Point). q.x) found.1 in
      (found.0, omega (arith, ints), found.2)

  right_side : (p : Pos) × (p.x ≡ centre.x + radius) × P p
  unfolding half
  right_side =
      let found = at (pos centre.x +ℤ pos radius) (pos centre.y) (record { below = omega (arith, ints); above = omega (arith, ints); right = omega (arith, ints); left = omega (arith, ints); under = omega (arith, ints); over = omega (arith, ints) }) in
      let column : pos found.0.x ≡ pos centre.x +ℤ pos radius = ap (λ (q : Point). q.x) found.1 in
      (found.0, omega (arith, ints), found.2)

  top_side : (p : Pos) × (p.y + radius ≡ centre.y) × P p
  top_side =
      let y = pos centre.y -ℤ pos radius in
      let x = (pos centre.x -ℤ half (pos centre.y)) +ℤ half y in
      let found = at x y (record { below = omega (arith, ints); above = omega (arith, ints); right = omega (arith, ints); left = omega (arith, ints); under = omega (arith, ints); over = omega (arith, ints) }) in
      let row : pos found.0.y ≡ pos centre.y -ℤ pos radius = ap (λ (q : Point). q.y) found.1 in
      (found.0, omega (arith, ints), found.2)

  bottom_side : (p : Pos) × (p.y ≡ centre.y + radius) × P p
  bottom_side =
      let y = pos centre.y +ℤ pos radius in
      let x = (pos centre.x -ℤ half (pos centre.y)) +ℤ half y in
      let x' = x -ℤ pos radius in
      let found = at x' y (record { below = omega (arith, ints); above = omega (arith, ints); right = omega (arith, ints); left = omega (arith, ints); under = omega (arith, ints); over = omega (arith, ints) }) in
      let row : pos found.0.y ≡ pos centre.y +ℤ pos radius = ap (λ (q : Point). q.y) found.1 in
      (found.0, omega (arith, ints), found.2)

  pub sides : HasSides P centre radius
  sides = record { left = left_side; right = right_side; top = top_side; bottom = bottom_side }

-- a ball whose positions have neighbours is one of positions
pub ball_has : (centre : Pos) (radius : ℕ) → ((q : Point) → IsInBall (point_of centre) radius q → (p : Pos) × (point_of p ≡ q) × HasNeighbours p) → HasBall centre radius
ball_has centre radius all =
    let at = sides HasNeighbours centre radius all in
    let a = at.left.1 in
    let b = at.right.1 in
    let c = at.top.1 in
    let d = at.bottom.1 in
    let e = at.right.2 in
    let f = at.bottom.2 in
    record { from_left = omega arith; to_right = omega arith; from_top = omega arith; to_bottom = omega arith }

-- a ball off the rim ends before it
pub off_rim_within : (width height : ℕ) (centre : Pos) (radius : ℕ) → ((q : Point) → IsInBall (point_of centre) radius q → IsOffRim width height q) → IsBallWithin width height centre radius
off_rim_within width height centre radius all =
    let at = sides (IsInner width height) centre radius all in
    let a = at.left.1 in
    let b = at.right.1 in
    let c = at.top.1 in
    let d = at.bottom.1 in
    let e = at.left.2 in
    let f = at.right.2 in
    let g = at.top.2 in
    let h = at.bottom.2 in
    record { from_left = omega arith; from_top = omega arith; to_right = omega arith; to_bottom = omega arith }

-- so does an open ball
pub open_within : (width height : ℕ) (blocked : List Bool) (centre : Pos) (radius : ℕ) → IsFenced width height blocked → BallIsOpen width height blocked (point_of centre) radius → IsBallWithin width height centre radius
open_within width height blocked centre radius fence all =
    off_rim_within width height centre radius (λ q ball. let found = all q ball in (found.0, found.1, fence.rim found.0 found.2))

-- rows that are open are an open ball
row_of : (width height : ℕ) (blocked : List Bool) (centre : Pos) (radius n : ℕ) (x y : ℤ) → IsBallWithin width height centre radius → 2 * radius + 1 ≤ n
    → ((i : ℕ) → i < n → RowIsOpen width height blocked centre radius (centre.y - radius + i) (2 * radius + 1))
    → IsInBall (point_of centre) radius (side x y) → Within radius (point_of centre) (side x y) → IsOpen width height blocked (side x y)
unfolding half side
row_of width height blocked centre radius n (pos x) (pos y) within whole rows ball w =
    let i = y + radius - centre.y in
    let j = x + radius - centre.x in
    let low : i < n = omega (arith, ints) in
    let wide : j < 2 * radius + 1 = omega (arith, ints) in
    let p : Pos = record { x = x; y = y } in
    let row : centre.y - radius + i ≡ y = omega (arith, ints) in
    let column : centre.x - radius + j ≡ x = omega (arith, ints) in
    let here : in_row centre radius (centre.y - radius + i) j ≡ p = ap (λ z. record { x = z; y = centre.y - radius + i }) column ∙ ap (λ z. record { x = x; y = z }) row in (
      p,
      refl,
      elim (cases_Bool (is_unblocked width height blocked p)) [
        | inl free ↦ free
        | inr shut ↦ absurd (rows i low j wide (subst (IsShut width height blocked centre radius) (sym here) (ball, shut)))
      ],
    )
row_of width height blocked centre radius n (negsuc x) (pos y) within whole rows ball w = absurd (omega (arith, ints))
row_of width height blocked centre radius n it that within whole rows ball w = absurd (omega (arith, ints))

pub rows_ball : (width height : ℕ) (blocked : List Bool) (centre : Pos) (radius n : ℕ) → IsBallWithin width height centre radius → 2 * radius + 1 ≤ n
    → ((i : ℕ) → i < n → RowIsOpen width height blocked centre radius (centre.y - radius + i) (2 * radius + 1)) → BallIsOpen width height blocked (point_of centre) radius
unfolding side
rows_ball width height blocked centre radius n within whole rows q ball =
    row_of width height blocked centre radius n q.x q.y within whole rows ball (ball_within (point_of centre) q radius ball)
