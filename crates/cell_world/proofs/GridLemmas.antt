-- A grid read by position, and its list of cells read by index.
use Rattle.std.proofs.Common.{◌≡◌, ◌*◌, ◌<◌, ◌≤◌, ltb, length, get_or, ◌∙◌}
use Rattle.std.proofs.lemmas.Bool.{lt-ltb, le-ltb, cond-true, cond-false}
use Rattle.std.proofs.lemmas.List.{get_or_default}
use Rattle.hex_geometry.specs.declared.position.Pos.{Pos}
use Rattle.hex_geometry.specs.Position.{IsInside}
use Rattle.cell_world.specs.declared.cell.Cell.{Cell}
use Rattle.cell_world.specs.Cell.{rock}
use Rattle.cell_world.specs.Grid.{Grid, cell_in}
use Rattle.hex_geometry.proofs.RowLemmas.{index_of-early}
use Rattle.hex_geometry.specs.RowOrder.{index_of}

-- right of the rows there is rock
pub cell_in-beyond : (g : Grid) (p : Pos) → g.width ≤ p.x → cell_in g p ≡ rock
unfolding cell_in
cell_in-beyond g p beyond = cond-false (ltb p.x g.width) (get_or g.cells (index_of g.width p) rock) rock (le-ltb p.x g.width beyond)

-- in the columns there is what the list has, and rock after it
pub cell_in-column : (g : Grid) (p : Pos) → p.x < g.width → cell_in g p ≡ get_or g.cells (index_of g.width p) rock
unfolding cell_in
cell_in-column g p column = cond-true (ltb p.x g.width) (get_or g.cells (index_of g.width p) rock) rock (lt-ltb p.x g.width column)

-- the cell inside is the item at its index
pub cell_in-inside : (g : Grid) (p : Pos) (d : Cell) → length g.cells ≡ g.width * g.height → IsInside g.width g.height p → cell_in g p ≡ get_or g.cells (index_of g.width p) d
cell_in-inside g p d full inside =
    cell_in-column g p inside.column ∙ get_or_default g.cells (index_of g.width p) rock d (index_of-early g.cells g.width g.height p full inside)
