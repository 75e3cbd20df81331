-- Food is part of what a world weighs.
use Rattle.cell_world.specs.Cell.{cell_weight}
use Rattle.cell_world.specs.World.{World, sum_over, weight}
use Rattle.hex_geometry.specs.RowOrder.{pos_at}
use Rattle.cell_world.specs.declared.cell.Cell.{Cell}
use Rattle.hex_geometry.specs.declared.position.Pos.{Pos}
use Rattle.std.proofs.Common.{◌≡◌, ℕ, zero, suc, ◌+◌, ◌-◌, ◌*◌, ◌≤◌, arith, subst}

food_weighs : (cell : Cell) → cell.food ≤ cell_weight cell
unfolding cell_weight
food_weighs cell = omega arith

sum_below : (width : ℕ) (f g : Pos → ℕ) → ((p : Pos) → f p ≤ g p) → (n : ℕ) → sum_over width f n ≤ sum_over width g n
sum_below width f g low zero = omega arith
sum_below width f g low (suc n) = let a = sum_below width f g low n in let b = low (pos_at width n) in omega arith

sum_rises : (width : ℕ) (f : Pos → ℕ) (n k : ℕ) → sum_over width f n ≤ sum_over width f (n + k)
sum_rises width f n zero = let e : n + 0 ≡ n = omega arith in rw e (omega arith)
sum_rises width f n (suc k) =
    let e : n + suc k ≡ suc (n + k) = omega arith in
    let a = sum_rises width f n k in
    rw e (omega arith)

-- the food of the first n cells
pub food_low : (w : World) (n : ℕ) → n ≤ w.width * w.height → sum_over w.width (λ p. (w.cells p).food) n ≤ weight w
unfolding weight
food_low w n low =
    let a = sum_rises w.width (λ p. (w.cells p).food) n (w.width * w.height - n) in
    let e : n + (w.width * w.height - n) ≡ w.width * w.height = omega arith in
    let b : sum_over w.width (λ p. (w.cells p).food) n ≤ sum_over w.width (λ p. (w.cells p).food) (w.width * w.height) = subst (λ m. sum_over w.width (λ p. (w.cells p).food) n ≤ sum_over w.width (λ p. (w.cells p).food) m) e a in
    let d = sum_below w.width (λ p. (w.cells p).food) (λ p. cell_weight (w.cells p)) (λ p. food_weighs (w.cells p)) (w.width * w.height) in
    omega arith
