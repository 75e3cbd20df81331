-- Sums over a world's positions are sums over its grid's list of cells.
use Rattle.std.proofs.Common.{◌≡◌, ℕ, suc, zero, ◌+◌, ◌*◌, ◌<◌, ◌≤◌, Bool, true, false, cond, List, length, map, get_or, take, sum, sum_by, refl, sym, ap, ap₂, ◌∙◌, arith, add-one, take_all}
use mir.Val.{bool_byte}
use Rattle.std.proofs.lemmas.Bool.{cond_both}
use Rattle.std.proofs.lemmas.List.Sums.{sum-map, sum_by_more, sum_by-le-sum_by}
use Rattle.std.proofs.lemmas.Simd.{map-map}
use Rattle.cell_world.specs.declared.ant.Colour.{Colour}
use Rattle.cell_world.specs.declared.body.Body.{Body}
use Rattle.cell_world.specs.declared.cell.Cell.{Cell}
use Rattle.cell_world.specs.declared.tile.Tile.{Tile}
use Rattle.cell_world.specs.Cell.{rock, one_if, is_hill_of, cell_weight, ant_weight}
use Rattle.cell_world.specs.Grid.{Grid, IsWorld, cell_in, world_of}
use Rattle.cell_world.specs.Score.{hill_food_in, hill_food_of}
use Rattle.cell_world.specs.Limits.{most_weight}
use Rattle.cell_world.specs.Inner.Stored.{cell_from, tile_food}
use Rattle.cell_world.specs.World.{sum_over, total, weight}
use Rattle.hex_geometry.proofs.RowLemmas.{index_of-pos_at, pos_at-inside}
use Rattle.hex_geometry.specs.RowOrder.{pos_at}
use Rattle.cell_world.proofs.GridLemmas.{cell_in-column}

-- the cell at number i in row order is item i
pub cell_in-pos_at : (g : Grid) (i : ℕ) → i < g.width * g.height → cell_in g (pos_at g.width i) ≡ get_or g.cells i rock
cell_in-pos_at g i early =
    cell_in-column g (pos_at g.width i) (pos_at-inside g.width g.height i early).column
    ∙ ap (λ k. get_or g.cells k rock) (index_of-pos_at g.width i)

-- a sum over the first positions is that over the first items
sum_over-take : (g : Grid) (f : Cell → ℕ) (n : ℕ) → length g.cells ≡ g.width * g.height → n ≤ length g.cells → sum_over g.width (λ p. f (cell_in g p)) n ≡ sum_by f (take n g.cells)
sum_over-take g f zero full within = refl
sum_over-take g f (suc n) full within =
    ap₂ ◌+◌ (sum_over-take g f n full (omega arith)) (ap f (cell_in-pos_at g n (omega arith)))
    ∙ sym (sum_by_more f g.cells n rock within)
    ∙ ap (λ k. sum_by f (take k g.cells)) (add-one n)

-- a sum over all positions is that over all items
pub total-list : (g : Grid) (f : Cell → ℕ) → length g.cells ≡ g.width * g.height → total f (world_of g) ≡ sum_by f g.cells
total-list g f full =
    ap (sum_over g.width (λ p. f (cell_in g p))) (sym full)
    ∙ sum_over-take g f (length g.cells) full (omega arith)
    ∙ ap (sum_by f) (take_all (length g.cells) g.cells (omega arith))

-- the weight of a grid's world
pub weight-list : (g : Grid) → length g.cells ≡ g.width * g.height → weight (world_of g) ≡ sum_by cell_weight g.cells
unfolding weight
weight-list g full = total-list g cell_weight full

-- a bool as a number is one or nothing
pub one_if-byte : (b : Bool) → bool_byte b ≡ one_if b
one_if-byte true = refl
one_if-byte false = refl

-- one or nothing is at most one
pub one_if-le_one : (b : Bool) → one_if b ≤ 1
one_if-le_one true = omega arith
one_if-le_one false = omega arith

-- and it is a choice
pub one_if-cond : (b : Bool) → one_if b ≡ cond b 1 0
one_if-cond true = refl
one_if-cond false = refl

-- the food on a hill is summed over the list
pub hill_food_of-list : (g : Grid) (colour : Colour) → length g.cells ≡ g.width * g.height → hill_food_of (world_of g) colour ≡ sum_by (hill_food_in colour) g.cells
unfolding hill_food_of
hill_food_of-list g colour full = total-list g (hill_food_in colour) full

-- the food on a cell of a hill is at most what the cell weighs
pub hill_food_in-le-cell_weight : (colour : Colour) (cell : Cell) → hill_food_in colour cell ≤ cell_weight cell
unfolding cell_weight
hill_food_in-le-cell_weight colour cell =
    cond_both (is_hill_of colour cell.hill) cell.food 0 (λ n. n ≤ cell.food + ant_weight cell.ant) (λ _. omega arith) (λ _. omega arith)

-- the food on a hill is at most what a world weighs
pub hill_food_in-light : (g : Grid) (colour : Colour) → IsWorld g → sum_by (hill_food_in colour) g.cells ≤ most_weight
hill_food_in-light g colour world =
    let part : sum_by (hill_food_in colour) g.cells ≤ sum_by cell_weight g.cells = sum_by-le-sum_by (hill_food_in colour) cell_weight g.cells (hill_food_in-le-cell_weight colour) in
    let whole : weight (world_of g) ≡ sum_by cell_weight g.cells = weight-list g world.full in
    let light : weight (world_of g) ≤ most_weight = world.valid.light in
    omega arith

-- the food of tiles is that of the cells for which they stand
pub tile_food-cells : (colour : Colour) (bodies : List Body) (tiles : List Tile) → sum_by (tile_food colour) tiles ≡ sum_by (hill_food_in colour) (map (cell_from bodies) tiles)
tile_food-cells colour bodies tiles =
    sym (sum-map (tile_food colour) tiles)
    ∙ ap sum (sym (map-map (hill_food_in colour) (cell_from bodies) tiles))
    ∙ sum-map (hill_food_in colour) (map (cell_from bodies) tiles)
