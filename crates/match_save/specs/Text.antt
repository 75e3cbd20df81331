-- The text of a save (this project's own).
use Rattle.std.specs.Prelude.{ℕ, zero, suc, ◌+◌, ◌%◌, ◌/◌, List, [], ◌∷◌, ◌++◌, length, map, take, drop, codes, decimal, flat_map, nat_le, if◌then◌else◌}
use Rattle.brain_read.specs.declared.instr.Instr.{Instr}
use Rattle.brain_read.specs.Forms.{fields_of}
use Rattle.line_tokens.specs.Fields.{field_text}
use Rattle.hex_geometry.specs.Direction.{number_of}
use Rattle.cell_world.specs.declared.ant.PlacedAnt.{PlacedAnt}
use Rattle.cell_world.specs.Cell.{one_if}
use Rattle.dump_print.specs.Content.{colour_text}
use Rattle.match_save.specs.Draft.{Draft}
use Rattle.match_save.specs.declared.head.Head.{Head}
use Rattle.match_save.specs.declared.soil.Soil.{Soil}
use Rattle.match_save.specs.declared.soil.Soil.TheVariants.{Rock, Clear, RedHill, BlackHill}

-- tokens with one space between them
abbrev pub spaced : List (List ℕ) → List ℕ
spaced [] = []
spaced (token ∷ []) = token
spaced (token ∷ next ∷ tokens) = token ++ (32 ∷ spaced (next ∷ tokens))

-- the first eight lines, by their tokens
abbrev pub head_tokens : Head → List (List (List ℕ))
head_tokens h =
    (codes "ants" ∷ codes "save" ∷ codes "1" ∷ [])
    ∷ (codes "seed" ∷ decimal h.seed ∷ [])
    ∷ (codes "sheet" ∷ decimal h.surround ∷ decimal h.corpse ∷ decimal h.rest ∷ [])
    ∷ (codes "window" ∷ decimal h.window ∷ [])
    ∷ (codes "round" ∷ decimal h.round ∷ [])
    ∷ (codes "place" ∷ decimal h.place ∷ [])
    ∷ (codes "taken" ∷ decimal h.taken ∷ codes "redone" ∷ decimal h.redone ∷ [])
    ∷ (codes "size" ∷ decimal h.width ∷ decimal h.height ∷ [])
    ∷ []

-- the line of an instruction
unfoldable pub instruction_line : Instr → List ℕ
instruction_line instruction = spaced (map field_text (fields_of instruction))

-- the lines of a brain, after that of its name and its length
abbrev pub program_lines : List ℕ → List Instr → List (List ℕ)
program_lines name list = spaced (name ∷ decimal (length list) ∷ []) ∷ map instruction_line list

-- the byte of a cell's ground: `#`, `.`, `+` and `-`
abbrev pub soil_byte : Soil → ℕ
soil_byte Rock = 35
soil_byte Clear = 46
soil_byte RedHill = 43
soil_byte BlackHill = 45

-- the byte of a set of markers: marker i counts 2 to the power i
abbrev pub marks_byte : ℕ → ℕ
marks_byte set = 48 + set

-- the byte of an amount of food; `o` means any amount above 62
abbrev pub food_byte : ℕ → ℕ
food_byte food = if nat_le food 62 then 48 + food else 111

-- this many rows of this width, with a byte for each element of a list
abbrev pub rows : {A : Type 0} → (A → ℕ) → ℕ → ℕ → List A → List (List ℕ)
rows byte width zero list = []
rows byte width (suc height) list = map byte (take width list) ∷ rows byte width height (drop width list)

-- the line of the food at number i in row order
abbrev pub food_tokens : ℕ → ℕ → ℕ → List (List ℕ)
food_tokens width i food = codes "food" ∷ decimal (i % width) ∷ decimal (i / width) ∷ decimal food ∷ []

-- the lines of those amounts that have no byte of their own, if the first amount is at number i in row order
abbrev pub food_lines : ℕ → ℕ → List ℕ → List (List ℕ)
food_lines width i [] = []
food_lines width i (food ∷ foods) =
    (if nat_le food 62 then [] else spaced (food_tokens width i food) ∷ []) ++ food_lines width (i + 1) foods

-- the line of an ant
abbrev pub ant_tokens : PlacedAnt → List (List ℕ)
ant_tokens it =
    codes "ant" ∷ decimal it.ant.id ∷ colour_text it.ant.colour ∷ decimal it.place.x ∷ decimal it.place.y
    ∷ decimal (number_of it.ant.facing)
    ∷ decimal (one_if it.ant.laden) ∷ decimal it.ant.state ∷ decimal it.ant.resting ∷ []

-- the lines of the ants, and the last
abbrev pub ant_lines : List PlacedAnt → List (List ℕ)
ant_lines [] = codes "end" ∷ []
ant_lines (it ∷ ants) = spaced (ant_tokens it) ∷ ant_lines ants

-- the lines of both brains
abbrev pub brain_lines : Draft → List (List ℕ)
brain_lines d = program_lines (codes "red") d.red ++ program_lines (codes "black") d.black

-- the lines of the cells: their ground, the markers of both colours, and the food
abbrev pub cell_lines : Draft → List (List ℕ)
cell_lines d =
    rows soil_byte d.head.width d.head.height d.soils
    ++ (rows marks_byte d.head.width d.head.height d.red_marks
    ++ (rows marks_byte d.head.width d.head.height d.black_marks
    ++ (rows food_byte d.head.width d.head.height d.foods ++ food_lines d.head.width 0 d.foods)))

-- all lines of a save
unfoldable pub draft_lines : Draft → List (List ℕ)
draft_lines d = map spaced (head_tokens d.head) ++ (brain_lines d ++ (cell_lines d ++ ant_lines d.ants))

-- the text of lines, each of which ends in LF
abbrev pub text_of_lines : List (List ℕ) → List ℕ
text_of_lines lines = flat_map (λ line. line ++ 10 ∷ []) lines

-- the text of a save
unfoldable pub draft_text : Draft → List ℕ
draft_text d = text_of_lines (draft_lines d)
