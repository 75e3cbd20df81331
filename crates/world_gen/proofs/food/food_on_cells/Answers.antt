-- the food is part of the weight, which is bounded
use Rattle.cell_world.specs.Grid.{world_of}
use Rattle.cell_world.specs.World.{sum_over, weight}
use Rattle.hex_geometry.specs.RowOrder.{pos_at}
use Rattle.cell_world.specs.declared.cell.Cell.{Cell}
use Rattle.std.proofs.Common.{◌≡◌, ◌+◌, ◌*◌, ◌≤◌, ◌∙◌, ap, arith, add-one, refl}
use Rattle.world_gen.proofs.Foods.{food_low}
use Rattle.world_gen.proofs.food.food_on_cells.Goals as goal
use Rattle.world_gen.specs.Food.{food_on}

pub overflow_add-food : goal.overflow_add-food
overflow_add-food c =
    let w = world_of c.args.world.now in
    let n = c.loop-number.number in
    let i = c.loop-number.invariant in
    let end = i.end in
    let place : c.cell-food.result ≡ w.cells (pos_at w.width n) = c.cell-food.ensures.content ∙ ap (λ k. w.cells (pos_at k n)) i.width in
    let food : c.cell-food.result.food ≡ (w.cells (pos_at w.width n)).food = ap (λ (cell : Cell). cell.food) place in
    let low : sum_over w.width (λ p. (w.cells p).food) (n + 1) ≤ weight w = food_low w (n + 1) (omega arith) in
    let more : sum_over w.width (λ p. (w.cells p).food) (n + 1) ≡ sum_over w.width (λ p. (w.cells p).food) n + (w.cells (pos_at w.width n)).food = rw (add-one n) refl in
    let light = i.world.valid.light in
    let so_far = i.food in
    omega arith

pub returns : goal.returns
unfolding food_on
returns c =
    let i = c.loop-number.invariant in
    let end = i.end in
    let all : c.loop-number.number ≡ c.args.world.now.width * c.args.world.now.height = omega arith in
    i.food ∙ ap (λ n. sum_over c.args.world.now.width (λ p. ((world_of c.args.world.now).cells p).food) n) all
