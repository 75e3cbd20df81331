-- What a world weighs whose rim is rocky and of whose cells none weighs more than nine.
use Rattle.std.proofs.Common.{◌≡◌, inl, inr, ℕ, suc, zero, ◌+◌, ◌-◌, ◌*◌, ◌<◌, ◌≤◌, true, false, ◌∙◌, ap, subst, arith}
use Rattle.std.proofs.lemmas.Bool.{cases_Bool}
use Rattle.std.proofs.lemmas.Nat.{mul-le}
use Rattle.hex_geometry.proofs.Places.{at}
use Rattle.hex_geometry.specs.declared.position.Pos.{Pos}
use Rattle.hex_geometry.specs.Position.{IsInner}
use Rattle.cell_world.specs.Cell.{rock, cell_weight}
use Rattle.cell_world.specs.Limits.{least_size, most_size, most_weight}
use Rattle.cell_world.specs.World.{World, sum_over, weight}
use Rattle.hex_geometry.proofs.RowLemmas.{pos_at-index_of}
use Rattle.cell_world.proofs.Weights.{cell_weight-rock}

-- what rises by at most m at each of n steps
rises : (F : ℕ → ℕ) (m n : ℕ) → ((k : ℕ) → k < n → F (k + 1) ≤ F k + m) → F n ≤ F 0 + m * n
rises F m zero step = omega arith
rises F m (suc n) step =
    let front : F n ≤ F 0 + m * n = rises F m n (λ k early. step k (omega arith)) in
    let next : n + 1 ≡ suc n = omega arith in
    let last : F (suc n) ≤ F n + m = subst (λ j. F j ≤ F n + m) next (step n (omega arith)) in
    omega arith

-- what rises by at most m at each of n steps between a first and a last one that add nothing
framed : (F : ℕ → ℕ) (m n : ℕ) → F 1 ≤ F 0 → ((k : ℕ) → k < n → F (k + 1 + 1) ≤ F (k + 1) + m) → F (n + 1 + 1) ≤ F (n + 1) → F (n + 1 + 1) ≤ F 0 + m * n
framed F m n first step last =
    let middle : F (n + 1) ≤ F 1 + m * n = rises (λ k. F (k + 1)) m n step in omega arith

-- a sum in row order, one position on
sum_over-next : (width : ℕ) (f : Pos → ℕ) (x y : ℕ) → x < width → sum_over width f (y * width + (x + 1)) ≡ sum_over width f (y * width + x) + f (at x y)
sum_over-next width f x y column =
    let next : y * width + (x + 1) ≡ suc (y * width + x) = omega arith in
    ap (sum_over width f) next ∙ ap (λ p. sum_over width f (y * width + x) + f p) (pos_at-index_of width (at x y) column)

-- what is nowhere above m, and nothing at the ends of the row
record IsRow (f : Pos → ℕ) (n m y : ℕ) : Type 0 where
  none_first : f (at 0 y) ≡ 0
  none_last : f (at (n + 1) y) ≡ 0
  at_most : (x : ℕ) → f (at x y) ≤ m

-- a sum in row order, one row on
sum_over-row : (f : Pos → ℕ) (n m y : ℕ) → IsRow f n m y → sum_over (n + 2) f ((y + 1) * (n + 2)) ≤ sum_over (n + 2) f (y * (n + 2)) + m * n
sum_over-row f n m y row =
    let F : ℕ → ℕ = λ x. sum_over (n + 2) f (y * (n + 2) + x) in
    let step : (x : ℕ) → x < n + 2 → F (x + 1) ≡ F x + f (at x y) = λ x column. sum_over-next (n + 2) f x y column in
    let first : F 1 ≤ F 0 = let e = step 0 (omega arith) in let none = row.none_first in omega arith in
    let last : F (n + 1 + 1) ≤ F (n + 1) = let e = step (n + 1) (omega arith) in let none = row.none_last in omega arith in
    let middle : (k : ℕ) → k < n → F (k + 1 + 1) ≤ F (k + 1) + m = λ k early. let e = step (k + 1) (omega arith) in let most = row.at_most (k + 1) in omega arith in
    let whole : F (n + 1 + 1) ≤ F 0 + m * n = framed F m n first middle last in
    let end : y * (n + 2) + (n + 1 + 1) ≡ (y + 1) * (n + 2) = omega arith in
    let start : y * (n + 2) + 0 ≡ y * (n + 2) = omega arith in
    subst (λ k. sum_over (n + 2) f k ≤ sum_over (n + 2) f (y * (n + 2)) + m * n) end (subst (λ k. F (n + 1 + 1) ≤ sum_over (n + 2) f k + m * n) start whole)

-- a rocky position weighs nothing
bare_weight : (w : World) (p : Pos) → ((q : Pos) → (w.cells q).rocky ≡ false → IsInner w.width w.height q) → ((q : Pos) → (w.cells q).rocky ≡ true → w.cells q ≡ rock) → (IsInner w.width w.height p → ⊥) → cell_weight (w.cells p) ≡ 0
bare_weight w p rim bare outer =
    elim (cases_Bool (w.cells p).rocky) [
      | inl rocky ↦ ap cell_weight (bare p rocky) ∙ cell_weight-rock
      | inr clear ↦ absurd (outer (rim p clear))
    ]

-- a world whose rim is rocky, and of whose cells none weighs more than nine, is light enough
pub weight-light : (w : World) → least_size ≤ w.width → w.width ≤ most_size → least_size ≤ w.height → w.height ≤ most_size →
    ((p : Pos) → (w.cells p).rocky ≡ false → IsInner w.width w.height p) → ((p : Pos) → (w.cells p).rocky ≡ true → w.cells p ≡ rock) →
    ((p : Pos) → cell_weight (w.cells p) ≤ 9) → weight w ≤ most_weight
unfolding weight
weight-light w wide narrow tall low rim bare most =
    let n : ℕ = w.width - 2 in
    let h : ℕ = w.height - 2 in
    let wn : n + 2 ≡ w.width = omega arith in
    let hn : h + 1 + 1 ≡ w.height = omega arith in
    let f : Pos → ℕ = λ p. cell_weight (w.cells p) in
    let none : (p : Pos) → (IsInner w.width w.height p → ⊥) → f p ≡ 0 = λ p outer. bare_weight w p rim bare outer in
    let row : (y m : ℕ) → ((x : ℕ) → f (at x y) ≤ m) → IsRow f n m y = λ y m at_most. record {
      none_first = none _ (λ (inner : IsInner w.width w.height (at 0 y)). let i = inner.from_left in omega arith);
      none_last = none _ (λ (inner : IsInner w.width w.height (at (n + 1) y)). let i = inner.to_right in omega arith);
      at_most = at_most;
    } in
    let F : ℕ → ℕ = λ y. sum_over (n + 2) f (y * (n + 2)) in
    let first : F 1 ≤ F 0 =
    let step = sum_over-row f n 0 0 (row 0 0 (λ x. let e = none (at x 0) (λ (inner : IsInner w.width w.height (at x 0)). let i = inner.from_top in omega arith) in omega arith)) in omega arith in
    let last : F (h + 1 + 1) ≤ F (h + 1) =
    let step = sum_over-row f n 0 (h + 1) (row (h + 1) 0 (λ x. let e = none (at x (h + 1)) (λ (inner : IsInner w.width w.height (at x (h + 1))). let i = inner.to_bottom in omega arith) in omega arith)) in omega arith in
    let middle : (k : ℕ) → k < h → F (k + 1 + 1) ≤ F (k + 1) + 9 * n = λ k _. sum_over-row f n 9 (k + 1) (row (k + 1) 9 (λ x. most _)) in
    let whole : F (h + 1 + 1) ≤ F 0 + 9 * n * h = framed F (9 * n) h first middle last in
    let all : (h + 1 + 1) * (n + 2) ≡ w.width * w.height = grind arith in
    let sum : sum_over w.width f (w.width * w.height) ≤ F 0 + 9 * n * h = subst (λ v. sum_over v f (w.width * w.height) ≤ F 0 + 9 * n * h) wn (subst (λ k. sum_over (n + 2) f k ≤ F 0 + 9 * n * h) all whole) in
    let inner : n * h ≤ 510 * 510 = mul-le n h 510 510 (omega arith) (omega arith) in
    let nothing : 0 * (n + 2) ≡ 0 = omega arith in
    let start : F 0 ≡ 0 = ap (sum_over (n + 2) f) nothing in
    let light : sum_over w.width f (w.width * w.height) ≤ most_weight = omega arith in
    light
