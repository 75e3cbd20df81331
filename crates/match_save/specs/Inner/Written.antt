-- The text of a save, as it is pushed: part after part.
use Rattle.std.specs.Prelude.{ℕ, ◌*◌, ◌^◌, bit_or, List, [], ◌∷◌, codes, decimal, length, nat_le, Option, Some, None, if◌then◌else◌}
use Rattle.ant_base.specs.Layout.{numbered, ◌+++◌}
use Rattle.brain_read.specs.Canonical.{brain_text}
use Rattle.brain_read.specs.declared.instr.Instr.{Instr}
use Rattle.hex_geometry.specs.RowOrder.{pos_at}
use Rattle.hex_geometry.specs.declared.position.Pos.{Pos}
use Rattle.cell_world.specs.declared.ant.Ant.{Ant}
use Rattle.cell_world.specs.declared.cell.Cell.{Cell}
use Rattle.cell_world.specs.Marks.{has_mark}
use Rattle.cell_world.specs.declared.marks.Marks.{Marks}
use Rattle.cell_world.specs.Grid.{Grid, cell_in, world_of}
use Rattle.cell_world.specs.World.{place_in}
use Rattle.match_save.specs.Saved.{SavedValue, head_of, soil_of_cell}
use Rattle.match_save.specs.Text.{ant_tokens, food_byte, food_tokens, head_tokens, marks_byte, soil_byte}
use Rattle.match_save.specs.Inner.LineTexts.{lines_text, tokens_text}

-- the line of a brain's name and length, and its instructions
abbrev pub program_text : List ℕ → List Instr → List ℕ
program_text name list = tokens_text (name ∷ decimal (length list) ∷ []) +++ brain_text list

-- the bytes of a row, one for each cell, and the LF
abbrev pub row_text : (Cell → ℕ) → Grid → ℕ → List ℕ
row_text byte g y = numbered (λ x. byte (cell_in g (record { x = x; y = y })) ∷ []) g.width +++ codes "\n"

-- all rows
abbrev pub rows_text : (Cell → ℕ) → Grid → List ℕ
rows_text byte g = numbered (row_text byte g) g.height

-- the byte of a cell's ground
abbrev pub ground_byte : Cell → ℕ
ground_byte cell = soil_byte (soil_of_cell cell)

-- the same number, and the power of two of a marker if it is set
abbrev pub with_power : Marks → ℕ → ℕ → ℕ
with_power marks set i = if has_mark marks i then bit_or set (2 ^ i) else set

-- the bytes of a cell's markers
abbrev pub red_byte : Cell → ℕ
red_byte cell = marks_byte cell.red.set

abbrev pub black_byte : Cell → ℕ
black_byte cell = marks_byte cell.black.set

-- the byte of a cell's food
abbrev pub cell_food_byte : Cell → ℕ
cell_food_byte cell = food_byte cell.food

-- the line of this food at this number in row order, if it has no byte of its own
abbrev pub food_text : ℕ → ℕ → ℕ → List ℕ
food_text width i food = if nat_le food 62 then [] else tokens_text (food_tokens width i food)

-- the same for the cell with this number
abbrev pub food_text_at : Grid → ℕ → List ℕ
food_text_at g i = food_text g.width i (cell_in g (pos_at g.width i)).food

-- the line of an ant at this place, if there is one
abbrev pub standing_text : Pos → Option Ant → List ℕ
standing_text p None = []
standing_text p (Some ant) = tokens_text (ant_tokens (record { place = p; ant = ant }))

-- the line of the ant with an id, if it is alive
abbrev pub ant_text : Grid → Option Pos → List ℕ
ant_text g None = []
ant_text g (Some p) = standing_text p (cell_in g p).ant

abbrev pub ant_text_at : Grid → ℕ → List ℕ
ant_text_at g i = ant_text g (place_in (world_of g) i)

-- the lines of the cells
unfoldable pub cells_written : Grid → List ℕ
cells_written g =
    rows_text ground_byte g +++ rows_text red_byte g +++ rows_text black_byte g +++ rows_text cell_food_byte g
    +++ numbered (food_text_at g) (g.width * g.height)

-- all of it
unfoldable pub written : SavedValue → List ℕ
written s =
    lines_text (head_tokens (head_of s)) +++ program_text (codes "red") s.minds.red
    +++ program_text (codes "black") s.minds.black +++ cells_written s.world
    +++ numbered (ant_text_at s.world) s.world.ids +++ codes "end\n"
