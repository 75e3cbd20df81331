-- A grid with the cell at one position replaced is the world with that cell, and its index follows.
use Rattle.std.proofs.Common.{◌≡◌, ◌≢◌, inl, inr, ℕ, ◌*◌, ◌<◌, List, length, get_or, set, cond, Option, Some, None, sym, ap, ◌∙◌, subst}
use Rattle.std.proofs.Math.Path.{fun_ext}
use Rattle.std.proofs.lemmas.Bool.{cases_lt}
use Rattle.std.proofs.lemmas.List.{length-set, get_or-set_same, get_or-set_other}
use Rattle.std.proofs.lemmas.Nat.{same_from_place}
use Rattle.hex_geometry.specs.declared.position.Pos.{Pos}
use Rattle.hex_geometry.specs.Position.{IsInside}
use Rattle.hex_geometry.proofs.Places.{pos_same}
use Rattle.cell_world.specs.declared.cell.Cell.{Cell}
use Rattle.cell_world.specs.Cell.{rock, holds_id}
use Rattle.cell_world.specs.Grid.{Grid, cell_in, world_of, IsWorld}
use Rattle.hex_geometry.proofs.RowLemmas.{index_of-early}
use Rattle.hex_geometry.specs.RowOrder.{index_of}
use Rattle.cell_world.specs.Inner.Index.{IsIndex}
use Rattle.cell_world.specs.World.{put, put_cell, place_in, with_cells}
use Rattle.cell_world.specs.Valid.{Valid, CanSet}
use Rattle.cell_world.proofs.GridLemmas.{cell_in-column, cell_in-beyond}
use Rattle.cell_world.proofs.Places.{place_in-put}
use Rattle.cell_world.proofs.Puts.{put_cell-same, put_cell-other, cases_pos}
use Rattle.cell_world.proofs.ValidLemmas.{Valid-put}

-- the grid with this cell at p
abbrev pub grid_set : Grid → Pos → Cell → Grid
grid_set g p cell = record g { cells = set g.cells (index_of g.width p) cell }

-- the cell that was set
cell_in-set_same : (g : Grid) (p : Pos) (cell : Cell) → length g.cells ≡ g.width * g.height → IsInside g.width g.height p → cell_in (grid_set g p cell) p ≡ cell
cell_in-set_same g p cell full inside =
    cell_in-column (grid_set g p cell) p inside.column
    ∙ get_or-set_same g.cells (index_of g.width p) cell rock (index_of-early g.cells g.width g.height p full inside)

-- two positions in the columns have two numbers
index_of-apart : (width : ℕ) (p q : Pos) → p.x < width → q.x < width → p ≢ q → index_of width q ≢ index_of width p
index_of-apart width p q column within apart one =
    let both = same_from_place q.y q.x p.y p.x width within column one in
    apart (sym (pos_same both.1 both.0))

-- the cells that were not set
cell_in-set_other : (g : Grid) (p : Pos) (cell : Cell) (q : Pos) → p.x < g.width → p ≢ q → cell_in (grid_set g p cell) q ≡ cell_in g q
cell_in-set_other g p cell q column apart =
    elim (cases_lt q.x g.width) [
      | inl within ↦
          cell_in-column (grid_set g p cell) q within
          ∙ get_or-set_other g.cells (index_of g.width p) (index_of g.width q) cell rock (index_of-apart g.width p q column within apart)
          ∙ sym (cell_in-column g q within)
      | inr beyond ↦ cell_in-beyond (grid_set g p cell) q beyond ∙ sym (cell_in-beyond g q beyond)
    ]

-- the cells of a grid with one set are its cells with one put
pub cell_in-set : (g : Grid) (p : Pos) (cell : Cell) → length g.cells ≡ g.width * g.height → IsInside g.width g.height p → cell_in (grid_set g p cell) ≡ put_cell (cell_in g) p cell
cell_in-set g p cell full inside =
    fun_ext λ q. elim (cases_pos p q) [
      | inl one ↦ subst (λ r. cell_in (grid_set g p cell) r ≡ put_cell (cell_in g) p cell r) one (cell_in-set_same g p cell full inside ∙ sym (put_cell-same (cell_in g) p cell))
      | inr apart ↦ cell_in-set_other g p cell q inside.column apart ∙ sym (put_cell-other (cell_in g) p cell q apart)
    ]

-- the world of a grid with one cell set is its world with that cell put
pub world_of-set : (g : Grid) (p : Pos) (cell : Cell) → length g.cells ≡ g.width * g.height → IsInside g.width g.height p → world_of (grid_set g p cell) ≡ put (world_of g) p cell
world_of-set g p cell full inside = ap (with_cells (world_of g)) (cell_in-set g p cell full inside)

-- it is a world
pub IsWorld-set : (g : Grid) (p : Pos) (cell : Cell) (room : ℕ) → IsWorld g → CanSet (world_of g) room p cell → IsWorld (grid_set g p cell)
IsWorld-set g p cell room world can = record {
  full = length-set g.cells (index_of g.width p) cell ∙ world.full;
  valid = subst Valid (sym (world_of-set g p cell world.full can.inside)) (Valid-put (world_of g) room p cell world.valid can);
}

-- an index in which the ant of the one cell moved is the index of the new grid
pub IsIndex-set : (g : Grid) (p : Pos) (cell : Cell) (room : ℕ) (old new : List (Option Pos)) → IsWorld g → IsIndex g old → CanSet (world_of g) room p cell → length new ≡ length old →
    ((t : ℕ) (none : Option Pos) → t < length old → get_or new t none ≡ cond (holds_id t cell) (Some p) (cond (holds_id t (cell_in g p)) None (get_or old t none))) → IsIndex (grid_set g p cell) new
IsIndex-set g p cell room old new world index can long moved = record {
  all_ids = long ∙ index.all_ids;
  agrees = λ t none below.
      moved t none (subst (λ n. t < n) (sym index.all_ids) below)
      ∙ ap (λ o. cond (holds_id t cell) (Some p) (cond (holds_id t (cell_in g p)) None o)) (index.agrees t none below)
      ∙ sym (place_in-put (world_of g) room p cell t world.valid can)
      ∙ ap (λ w. place_in w t) (sym (world_of-set g p cell world.full can.inside));
}
