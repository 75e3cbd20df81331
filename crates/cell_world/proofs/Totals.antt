-- Sums over the cells of a world, and what a change of one cell does to them.
use Rattle.std.proofs.Common.{◌≡◌, ◌≢◌, inl, inr, ℕ, suc, zero, ◌+◌, ◌<◌, ◌≤◌, refl, sym, ap, ap₂, ◌∙◌, subst, arith}
use Rattle.std.proofs.lemmas.Bool.{cases_eq}
use Rattle.hex_geometry.specs.declared.position.Pos.{Pos}
use Rattle.hex_geometry.specs.Position.{IsInside}
use Rattle.cell_world.specs.declared.cell.Cell.{Cell}
use Rattle.hex_geometry.proofs.RowLemmas.{index_of-inside, index_of-pos_at, pos_at-index_of}
use Rattle.hex_geometry.specs.RowOrder.{index_of, pos_at}
use Rattle.cell_world.specs.World.{World, sum_over, area, put, put_cell, total}
use Rattle.cell_world.proofs.Puts.{put_cell-same, put_cell-other}

-- what agrees at the first n positions has one sum over them
pub sum_over-same : (width : ℕ) (f g : Pos → ℕ) (n : ℕ) → ((i : ℕ) → i < n → f (pos_at width i) ≡ g (pos_at width i)) → sum_over width f n ≡ sum_over width g n
sum_over-same width f g zero agree = refl
sum_over-same width f g (suc n) agree =
    ap₂ ◌+◌ (sum_over-same width f g n (λ i early. agree i (omega arith))) (agree n (omega arith))

-- the sum of two is the sum of the one and that of the other
pub sum_over-both : (width : ℕ) (f g : Pos → ℕ) (n : ℕ) → sum_over width (λ p. f p + g p) n ≡ sum_over width f n + sum_over width g n
sum_over-both width f g zero = refl
sum_over-both width f g (suc n) =
    let front : sum_over width (λ p. f p + g p) n ≡ sum_over width f n + sum_over width g n = sum_over-both width f g n in
    omega arith

-- one summand is at most the sum
pub sum_over-part : (width : ℕ) (f : Pos → ℕ) (n k : ℕ) → k < n → f (pos_at width k) ≤ sum_over width f n
sum_over-part width f zero k early = absurd (omega arith)
sum_over-part width f (suc n) k early =
    elim (cases_eq k n) [
      | inl last ↦ let e : f (pos_at width k) ≡ f (pos_at width n) = ap (λ i. f (pos_at width i)) last in omega arith
      | inr earlier ↦ let front : f (pos_at width k) ≤ sum_over width f n = sum_over-part width f n k (omega arith) in omega arith
    ]

-- the sums of what differs at one position only
pub sum_over-change : (width : ℕ) (f g : Pos → ℕ) (n k : ℕ) → k < n → ((i : ℕ) → i ≢ k → f (pos_at width i) ≡ g (pos_at width i)) → sum_over width g n + f (pos_at width k) ≡ sum_over width f n + g (pos_at width k)
sum_over-change width f g zero k early agree = absurd (omega arith)
sum_over-change width f g (suc n) k early agree =
    elim (cases_eq k n) [
      | inl last ↦
          let front : sum_over width f n ≡ sum_over width g n = sum_over-same width f g n (λ i before. agree i (omega arith)) in
          let e : f (pos_at width k) ≡ f (pos_at width n) = ap (λ i. f (pos_at width i)) last in
          let h : g (pos_at width k) ≡ g (pos_at width n) = ap (λ i. g (pos_at width i)) last in
          omega arith
      | inr earlier ↦
          let front : sum_over width g n + f (pos_at width k) ≡ sum_over width f n + g (pos_at width k) = sum_over-change width f g n k (omega arith) agree in
          let last : f (pos_at width n) ≡ g (pos_at width n) = agree n (λ e. earlier (sym e)) in
          omega arith
    ]

-- what f comes to after a change of one cell: the new cell counts instead of the old one
pub total-put : (f : Cell → ℕ) (w : World) (p : Pos) (cell : Cell) → IsInside w.width w.height p → total f (put w p cell) + f (w.cells p) ≡ total f w + f cell
total-put f w p cell inside =
    let k : ℕ = index_of w.width p in
    let at : pos_at w.width k ≡ p = pos_at-index_of w.width p inside.column in
    let apart : (i : ℕ) → i ≢ k → p ≢ pos_at w.width i = λ i other e. other (sym (index_of-pos_at w.width i) ∙ ap (index_of w.width) (sym e)) in
    let change = sum_over-change w.width (λ q. f (w.cells q)) (λ q. f (put_cell w.cells p cell q)) (area w) k (index_of-inside w.width w.height p inside) (λ i other. ap f (sym (put_cell-other w.cells p cell (pos_at w.width i) (apart i other)))) in
    let old : f (w.cells (pos_at w.width k)) ≡ f (w.cells p) = ap (λ q. f (w.cells q)) at in
    let new : f (put_cell w.cells p cell (pos_at w.width k)) ≡ f cell = ap (λ q. f (put_cell w.cells p cell q)) at ∙ ap f (put_cell-same w.cells p cell) in
    omega arith

-- what f comes to after changes of two cells
pub total-put_two : (f : Cell → ℕ) (w : World) (p : Pos) (here : Cell) (q : Pos) (there : Cell) → p ≢ q → IsInside w.width w.height p → IsInside w.width w.height q →
    total f (put (put w p here) q there) + (f (w.cells p) + f (w.cells q)) ≡ total f w + (f here + f there)
total-put_two f w p here q there apart at_p at_q =
    let first : total f (put w p here) + f (w.cells p) ≡ total f w + f here = total-put f w p here at_p in
    let second : total f (put (put w p here) q there) + f (put_cell w.cells p here q) ≡ total f (put w p here) + f there = total-put f (put w p here) q there at_q in
    let old : f (put_cell w.cells p here q) ≡ f (w.cells q) = ap f (put_cell-other w.cells p here q apart) in
    omega arith

-- one cell counts for at most what all come to
pub cell-le-total : (f : Cell → ℕ) (w : World) (p : Pos) → IsInside w.width w.height p → f (w.cells p) ≤ total f w
cell-le-total f w p inside =
    subst (λ q. f (w.cells q) ≤ total f w) (pos_at-index_of w.width p inside.column)
    (sum_over-part w.width (λ q. f (w.cells q)) (area w) (index_of w.width p) (index_of-inside w.width w.height p inside))
