-- The cells of a world without its ants.
use Rattle.std.specs.Prelude.{ℕ, ◌+◌, Bool, true, not, ◌&&◌, ◌==◌, List, [], ◌∷◌, if◌then◌else◌}
use Rattle.hex_geometry.specs.Position.{is_on_rim}
use Rattle.std.specs.Int.{bit_at}
use Rattle.cell_world.specs.declared.cell.Cell.{Cell}
use Rattle.cell_world.specs.declared.marks.Marks.{Marks}
use Rattle.cell_world.specs.Marks.{with_mark}
use Rattle.cell_world.specs.Grid.{Grid}
use Rattle.hex_geometry.specs.RowOrder.{pos_at}
use Rattle.match_save.specs.Draft.{Draft}
use Rattle.match_save.specs.State.{ground_cells, hill_count}

-- a set of markers, and this one if its power of two is in a number
abbrev pub with_marker : Marks → ℕ → ℕ → Marks
with_marker marks set i = if bit_at set i == 1 then with_mark marks i else marks

-- a cell has no food and no markers
abbrev pub is_empty_cell : Cell → Bool
is_empty_cell cell = (cell.food == 0) && (cell.red.set == 0) && (cell.black.set == 0)

-- rock has no food and no markers, and the cell with this number in row order is rock if it is on the rim
abbrev pub is_sound_cell : ℕ → ℕ → ℕ → Cell → Bool
is_sound_cell width height i cell =
    if cell.rocky then is_empty_cell cell else not (is_on_rim width height (pos_at width i))

-- the same for all cells, if the first has this number
abbrev pub are_sound_cells : ℕ → ℕ → ℕ → List Cell → Bool
are_sound_cells width height i [] = true
are_sound_cells width height i (cell ∷ cells) =
    is_sound_cell width height i cell && are_sound_cells width height (i + 1) cells

-- the world of a save without its ants
abbrev pub floor_of : Draft → Grid
floor_of d = record {
  width = d.head.width;
  height = d.head.height;
  ids = hill_count d.soils;
  cells = ground_cells d.soils d.red_marks d.black_marks d.foods;
}
