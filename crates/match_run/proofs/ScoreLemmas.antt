-- The score of a world after a change of one cell.
use Rattle.std.proofs.Common.{◌≡◌, ℕ, ◌+◌, ◌-◌, ◌≤◌, ap, ap₂, ◌∙◌, refl, sym, subst, arith, if◌then◌else◌}
use Rattle.hex_geometry.specs.declared.position.Pos.{Pos}
use Rattle.hex_geometry.specs.Position.{IsInside}
use Rattle.cell_world.specs.declared.ant.Colour.{Colour}
use Rattle.cell_world.specs.declared.ant.Colour.TheVariants.{Red, Black}
use Rattle.cell_world.specs.declared.cell.Cell.{Cell}
use Rattle.cell_world.specs.declared.score.Score.{Score}
use Rattle.cell_world.specs.Cell.{cell_weight, is_hill_of}
use Rattle.cell_world.specs.Grid.{Grid, IsWorld, world_of}
use Rattle.cell_world.specs.Limits.{most_weight}
use Rattle.cell_world.specs.Resting.{with_rests}
use Rattle.cell_world.specs.Score.{hill_food_in, hill_food_of, score_of}
use Rattle.cell_world.specs.World.{World, put, put_cell, weight}
use Rattle.cell_world.proofs.GridSums.{hill_food_in-le-cell_weight, hill_food_in-light, hill_food_of-list}
use Rattle.cell_world.proofs.Puts.{put_cell-same}
use Rattle.cell_world.proofs.Totals.{cell-le-total, total-put}
use Rattle.cell_world.proofs.Weights.{cell_weight-le-weight}

-- the food on one cell of a hill is at most that of the hill
pub hill_food-part : (w : World) (colour : Colour) (p : Pos) → IsInside w.width w.height p → hill_food_in colour (w.cells p) ≤ hill_food_of w colour
unfolding hill_food_of
hill_food-part w colour p inside = cell-le-total (hill_food_in colour) w p inside

-- a hill holds no more food than a world weighs
pub hill_food-light : (g : Grid) (colour : Colour) → IsWorld g → hill_food_of (world_of g) colour ≤ most_weight
hill_food-light g colour world = subst (λ n. n ≤ most_weight) (sym (hill_food_of-list g colour world.full)) (hill_food_in-light g colour world)

-- so does a cell that may be set
pub hill_food-set : (w : World) (colour : Colour) (p : Pos) (cell : Cell) → IsInside w.width w.height p → weight (put w p cell) ≤ most_weight → hill_food_in colour cell ≤ most_weight
hill_food-set w colour p cell inside light =
    let part : hill_food_in colour cell ≤ cell_weight cell = hill_food_in-le-cell_weight colour cell in
    let whole : cell_weight (put_cell w.cells p cell p) ≤ weight (put w p cell) = cell_weight-le-weight (put w p cell) p (record { column = inside.column; row = inside.row }) in
    let same : cell_weight (put_cell w.cells p cell p) ≡ cell_weight cell = ap cell_weight (put_cell-same w.cells p cell) in
    omega arith

-- the food on a hill after the change
hill_food-put : (w : World) (colour : Colour) (p : Pos) (cell : Cell) → IsInside w.width w.height p → hill_food_of w colour - hill_food_in colour (w.cells p) + hill_food_in colour cell ≡ hill_food_of (put w p cell) colour
unfolding hill_food_of
hill_food-put w colour p cell inside =
    let change = total-put (hill_food_in colour) w p cell inside in
    let part = cell-le-total (hill_food_in colour) w p inside in
    omega arith

-- the score after the change
pub score-put : (w : World) (p : Pos) (before cell : Cell) (red black : ℕ) → IsInside w.width w.height p → before ≡ w.cells p
    → red ≡ (score_of w).red - hill_food_in Red before + hill_food_in Red cell
    → black ≡ (score_of w).black - hill_food_in Black before + hill_food_in Black cell
    → record { red = red; black = black } ≡ score_of (put w p cell)
unfolding score_of
score-put w p before cell red black inside same is_red is_black =
    ap₂ (λ (r b : ℕ). let score : Score = record { red = r; black = b } in score)
    (is_red ∙ ap (λ c. hill_food_of w Red - hill_food_in Red c + hill_food_in Red cell) same ∙ hill_food-put w Red p cell inside)
    (is_black ∙ ap (λ c. hill_food_of w Black - hill_food_in Black c + hill_food_in Black cell) same ∙ hill_food-put w Black p cell inside)

-- another state, rest or direction of an ant leaves it
pub score-mind : (w : World) (p : Pos) (cell : Cell) → IsInside w.width w.height p → cell.food ≡ (w.cells p).food → cell.hill ≡ (w.cells p).hill → score_of w ≡ score_of (put w p cell)
unfolding score_of
score-mind w p cell inside food hill =
    ap₂ (λ (r b : ℕ). let score : Score = record { red = r; black = b } in score) (go Red) (go Black)
  where
    go : (colour : Colour) → hill_food_of w colour ≡ hill_food_of (put w p cell) colour
    go colour =
        let same : hill_food_in colour cell ≡ hill_food_in colour (w.cells p) = ap₂ (λ h n. if is_hill_of colour h then n else 0) hill food in
        let put : hill_food_of w colour - hill_food_in colour (w.cells p) + hill_food_in colour cell ≡ hill_food_of (put w p cell) colour = hill_food-put w colour p cell inside in
        let part : hill_food_in colour (w.cells p) ≤ hill_food_of w colour = hill_food-part w colour p inside in
        omega arith

-- so does how long ants rest
pub score-with_rests : (f : ℕ → ℕ → ℕ) (w : World) → score_of (with_rests f w) ≡ score_of w
unfolding score_of hill_food_of
score-with_rests f w = refl
