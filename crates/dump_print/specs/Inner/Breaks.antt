-- The lines of cells as they are pushed: each without its LF, after the LF of the previous line. Only the printer's own
-- parts use these definitions; callers see those of Texts.
use Rattle.std.specs.Prelude.{ℕ, List, [], ◌&&◌, ◌==◌, codes, decimal, if◌then◌else◌}
use Rattle.cell_world.specs.declared.cell.Cell.{Cell}
use Rattle.cell_world.specs.World.{World}
use Rattle.ant_base.specs.Layout.{numbered, ◌+++◌}
use Rattle.dump_print.specs.Content.{content_text}

-- the LF of the line before that of the cell at (x, y), if there is one
abbrev pub line_break : ℕ → ℕ → List ℕ
line_break x y = if (x == 0) && (y == 0) then [] else codes "\n"

-- the text between the column and the content of each cell of row y
unfoldable pub row_tail : ℕ → List ℕ
row_tail y = codes ", " +++ decimal y +++ codes "): "

-- the line of a cell without its LF
unfoldable pub line_body : ℕ → ℕ → Cell → List ℕ
line_body x y cell = codes "cell (" +++ decimal x +++ row_tail y +++ content_text cell

-- the line of the cell in column x of row y, after the LF of the previous line
abbrev pub broken_line : World → ℕ → ℕ → List ℕ
broken_line w y x = line_break x y +++ line_body x y (w.cells (record { x = x; y = y }))

-- the lines of row y, each after the LF of the previous line
unfoldable pub broken_row : World → ℕ → List ℕ
broken_row w y = numbered (broken_line w y) w.width
