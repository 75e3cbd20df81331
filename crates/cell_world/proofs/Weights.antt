-- What the cells of a world weigh, and what a change does to its weight.
use Rattle.std.proofs.Common.{◌≡◌, ◌≢◌, inl, inr, ◌+◌, ◌≤◌, refl, ap, ◌∙◌, arith}
use Rattle.std.proofs.lemmas.Bool.{cases_Bool}
use Rattle.hex_geometry.specs.declared.position.Pos.{Pos}
use Rattle.hex_geometry.specs.Position.{IsInside}
use Rattle.cell_world.specs.declared.cell.Cell.{Cell}
use Rattle.cell_world.specs.Cell.{rock, cell_weight, ant_weight}
use Rattle.cell_world.specs.World.{World, put, weight}
use Rattle.cell_world.specs.Limits.{most_weight}
use Rattle.cell_world.specs.Valid.{Valid}
use Rattle.cell_world.proofs.Places.{clear_inside}
use Rattle.cell_world.proofs.Totals.{cell-le-total, total-put, total-put_two}

-- the weight after a change of one cell: the new cell's instead of the old one's
pub weight-put : (w : World) (p : Pos) (cell : Cell) → IsInside w.width w.height p → weight (put w p cell) + cell_weight (w.cells p) ≡ weight w + cell_weight cell
unfolding weight
weight-put w p cell inside = total-put cell_weight w p cell inside

-- one cell weighs at most as much as the world
pub cell_weight-le-weight : (w : World) (p : Pos) → IsInside w.width w.height p → cell_weight (w.cells p) ≤ weight w
unfolding weight
cell_weight-le-weight w p inside = cell-le-total cell_weight w p inside

-- the weight after changes of two cells
pub weight-put_two : (w : World) (p : Pos) (here : Cell) (q : Pos) (there : Cell) → p ≢ q → IsInside w.width w.height p → IsInside w.width w.height q →
    weight (put (put w p here) q there) + (cell_weight (w.cells p) + cell_weight (w.cells q)) ≡ weight w + (cell_weight here + cell_weight there)
unfolding weight
weight-put_two w p here q there apart at_p at_q = total-put_two cell_weight w p here q there apart at_p at_q

-- rock weighs nothing
pub cell_weight-rock : cell_weight rock ≡ 0
unfolding rock cell_weight
cell_weight-rock = refl

-- what a cell weighs: its food and its ant
pub cell_weight-parts : (cell : Cell) → cell_weight cell ≡ cell.food + ant_weight cell.ant
unfolding cell_weight
cell_weight-parts cell = refl

-- each cell of a world, inside or not, is light
pub cell_weight-light : (w : World) (p : Pos) → Valid w → cell_weight (w.cells p) ≤ most_weight
cell_weight-light w p valid =
    elim (cases_Bool (w.cells p).rocky) [
      | inl rocky ↦ let none : cell_weight (w.cells p) ≡ 0 = ap cell_weight (valid.bare p rocky) ∙ cell_weight-rock in omega arith
      | inr clear ↦ let part : cell_weight (w.cells p) ≤ weight w = cell_weight-le-weight w p (clear_inside w p valid clear) in let light : weight w ≤ most_weight = valid.light in omega arith
    ]

-- the food on a cell of a world is at most what a world weighs
pub food-light : (w : World) (p : Pos) → Valid w → (w.cells p).food ≤ most_weight
food-light w p valid =
    let light : cell_weight (w.cells p) ≤ most_weight = cell_weight-light w p valid in
    let parts : cell_weight (w.cells p) ≡ (w.cells p).food + ant_weight (w.cells p).ant = cell_weight-parts (w.cells p) in
    omega arith
