-- What the lines of a save are read as, line by line.
use Rattle.std.specs.Prelude.{ℕ, suc, ◌+◌, ◌-◌, ◌%◌, ◌/◌, Bool, true, false, not, ◌&&◌, List, [], ◌∷◌, ◌++◌, length, codes, Option, Some, None, Result, Ok, Err, nat_le, nat_lt, ◌==◌, if◌then◌else◌, slice_index}
use Rattle.std.specs.List.{onto_first}
use Rattle.std.specs.Str.{all_ascii_digits, bytes_eq}
use Rattle.std.specs.Str.Parse.{digits_value}
use Rattle.std.specs.Borrow.{Bor}
use Rattle.ant_base.specs.Lines.{ends_in_lf, lines_of}
use Rattle.ant_base.specs.Number.{within}
use Rattle.brain_read.specs.declared.instr.Instr.{Instr}
use Rattle.brain_read.specs.Soundness.{most_states}
use Rattle.line_tokens.specs.Steps.{Read}
use Rattle.line_tokens.specs.Tokens.{tokens_of}
use Rattle.brain_read.specs.Reading.{read_line}
use Rattle.cell_world.specs.declared.ant.Colour.{Colour}
use Rattle.cell_world.specs.declared.ant.Colour.TheVariants.{Red, Black}
use Rattle.cell_world.specs.declared.ant.PlacedAnt.{PlacedAnt}
use Rattle.cell_world.specs.Limits.{most_weight}
use Rattle.hex_geometry.specs.Direction.{dir_of}
use Rattle.match_save.specs.Draft.{Draft, most_counted}
use Rattle.match_save.specs.declared.head.Head.{Head}
use Rattle.match_save.specs.declared.soil.Soil.{Soil}
use Rattle.match_save.specs.declared.soil.Soil.TheVariants.{Rock, Clear, RedHill, BlackHill}
use Rattle.match_save.specs.Text.{instruction_line}
use Rattle.match_save.specs.Inner.Readers.{Left, Reader, one, lead, followed, made, mapped, many, nothing, whole, with_first}

-- the pieces of a line between spaces
abbrev pub pieces : List ℕ → List (List ℕ)
pieces [] = [] ∷ []
pieces (byte ∷ line) = if byte == 32 then [] ∷ pieces line else onto_first byte (pieces line)

-- the pieces of what is left of a line, if anything is
abbrev pub pieces_left : Option (Bor (List ℕ)) → List (List ℕ)
pieces_left None = []
pieces_left (Some line) = pieces line.now

-- whether a text is a number of at most eleven digits without leading zeros
abbrev pub is_strict : List ℕ → Bool
is_strict text =
    nat_le 1 (length text) && nat_le (length text) 11 && all_ascii_digits text
    && not (nat_lt 1 (length text) && (slice_index text 0 == 48))

-- the value of such a text
unfoldable pub strict_value : List ℕ → Option ℕ
strict_value text = if is_strict text then Some (digits_value 10 text) else None

-- a token that is a number between these two, both included
abbrev pub number : ℕ → ℕ → Reader (List ℕ) ℕ
number least most = one (λ token. within least most (strict_value token))

-- a token that is this word, and what is read after it
abbrev pub word : {A : Type 0} → List ℕ → Reader (List ℕ) A → Reader (List ℕ) A
word text r = lead (bytes_eq text) r

-- this word is taken
abbrev pub led_by : List ℕ → Reader (List ℕ) (Unit {0})
led_by text = word text (nothing tt)

-- whether nothing is left
abbrev pub is_none_left : List (List ℕ) → Bool
is_none_left [] = true
is_none_left (token ∷ tokens) = false

-- a line that is read by its tokens
abbrev pub line_of : {A : Type 0} → Reader (List ℕ) A → Reader (List ℕ) A
line_of r = one (λ line. whole r (pieces line))

-- the number between these two on a line, after a word
abbrev pub named_number_of : List ℕ → ℕ → ℕ → List ℕ → Option ℕ
named_number_of name least most line = whole (word name (number least most)) (pieces line)

-- the numbers of the line of the sheet
abbrev pub sheet_tokens : Reader (List ℕ) (ℕ × (ℕ × ℕ))
sheet_tokens = word (codes "sheet") (followed (number 4 6) (λ surround. followed (number 0 9) (λ corpse. number 0 255)))

-- the numbers of the line of the counts
abbrev pub counts_tokens : Reader (List ℕ) (ℕ × ℕ)
counts_tokens =
    followed (word (codes "taken") (number 0 most_counted)) (λ taken. word (codes "redone") (number 0 most_counted))

-- the sizes of a line
abbrev pub size_tokens : Reader (List ℕ) (ℕ × ℕ)
size_tokens = word (codes "size") (followed (number 3 512) (λ width. number 3 512))

-- the line with which every save begins
abbrev pub first_line : Reader (List ℕ) (Unit {0})
first_line = lead (bytes_eq (codes "ants save 1")) (nothing tt)

-- the numbers of the first lines, one after another
abbrev pub HeadParts : Type 0
HeadParts = ℕ × ((ℕ × (ℕ × ℕ)) × (ℕ × (ℕ × (ℕ × ((ℕ × ℕ) × (ℕ × ℕ))))))

-- the state of the game: the window, the round, the place, the counts and the sizes
abbrev pub standing_parts : Reader (List ℕ) (ℕ × (ℕ × (ℕ × ((ℕ × ℕ) × (ℕ × ℕ)))))
standing_parts =
    followed (line_of (word (codes "window") (number 1 16384)))
    (λ window. followed (line_of (word (codes "round") (number 0 1000000)))
    (λ round. followed (line_of (word (codes "place") (number 0 most_counted)))
    (λ place. followed (line_of counts_tokens)
    (λ counts. line_of size_tokens))))

abbrev pub head_parts : Reader (List ℕ) HeadParts
head_parts =
    lead (bytes_eq (codes "ants save 1"))
    (followed (line_of (word (codes "seed") (number 0 4294967295)))
    (λ seed. followed (line_of sheet_tokens)
    (λ sheet. standing_parts)))

-- the numbers in the parts
abbrev pub head_of : HeadParts → Head
head_of p = record {
  seed = p.0;
  surround = p.1.0.0;
  corpse = p.1.0.1.0;
  rest = p.1.0.1.1;
  window = p.1.1.0;
  round = p.1.1.1.0;
  place = p.1.1.1.1.0;
  taken = p.1.1.1.1.1.0.0;
  redone = p.1.1.1.1.1.0.1;
  width = p.1.1.1.1.1.1.0;
  height = p.1.1.1.1.1.1.1;
}

-- the numbers of the first eight lines
abbrev pub read_head : Reader (List ℕ) Head
read_head = mapped head_of head_parts

-- an instruction, if it is printed exactly as it was read
abbrev pub if_canonical : List ℕ → Read Instr → Option Instr
if_canonical line (Ok instruction) = if bytes_eq (instruction_line instruction) line then Some instruction else None
if_canonical line (Err refusal) = None

-- the instruction of a line
unfoldable pub instruction_of : List ℕ → Option Instr
instruction_of line = if_canonical line (read_line (tokens_of line))

-- the instructions of a brain, after the line of its name and its length
abbrev pub read_program : List ℕ → Reader (List ℕ) (List Instr)
read_program name =
    mapped (λ (both : ℕ × List Instr). both.1)
    (followed (line_of (word name (number 1 most_states))) (λ count. many instruction_of count))

-- one value in front of others, if there are both
abbrev pub with_value : {A : Type 0} → Option A → Option (List A) → Option (List A)
with_value None values = None
with_value (Some x) None = None
with_value (Some x) (Some values) = Some (x ∷ values)

-- the values of all bytes, if each has one
abbrev pub all_of : {A : Type 0} → (ℕ → Option A) → List ℕ → Option (List A)
all_of value [] = Some []
all_of value (byte ∷ bytes) = with_value (value byte) (all_of value bytes)

-- the values of a row of this many bytes
abbrev pub row_of : {A : Type 0} → (ℕ → Option A) → ℕ → List ℕ → Option (List A)
row_of value width line = if length line == width then all_of value line else None

-- rows, one after another
abbrev pub joined : {A : Type 0} → List (List A) → List A
joined [] = []
joined (row ∷ rows) = row ++ joined rows

-- the values of this many rows
abbrev pub read_rows : {A : Type 0} → (ℕ → Option A) → ℕ → ℕ → Reader (List ℕ) (List A)
read_rows value width height = mapped joined (many (row_of value width) height)

-- the ground of a byte
abbrev pub soil_of : ℕ → Option Soil
soil_of byte =
    if byte == 35 then Some Rock else if byte == 46 then Some Clear else if byte == 43 then Some RedHill
    else if byte == 45 then Some BlackHill else None

-- the number from 0 to 63 of a byte from 48 on: a set of markers, or an amount of food, where 63 means any amount above
-- 62
abbrev pub value_of_byte : ℕ → Option ℕ
value_of_byte byte = if nat_le 48 byte && nat_lt byte 112 then Some (byte - 48) else None

-- the numbers of the line of a cell's food
abbrev pub food_tokens : ℕ → ℕ → Reader (List ℕ) (ℕ × (ℕ × ℕ))
food_tokens x y =
    word (codes "food") (followed (number x x) (λ column. followed (number y y) (λ row. number 63 most_weight)))

-- the food of a line for the cell in this column and row
abbrev pub food_of : ℕ → ℕ → List ℕ → Option ℕ
food_of x y line = whole (mapped (λ (z : ℕ × (ℕ × ℕ)). z.1.1) (food_tokens x y)) (pieces line)

-- the food of the cell with number i, whose byte has this value
abbrev pub food_at : ℕ → ℕ → ℕ → Reader (List ℕ) ℕ
food_at width i value = if value == 63 then one (food_of (i % width) (i / width)) else nothing value

-- the foods of the cells with these values, from number i on
abbrev pub read_foods : ℕ → ℕ → List ℕ → Reader (List ℕ) (List ℕ)
read_foods width i [] = nothing []
read_foods width i (value ∷ values) =
    mapped with_first (followed (food_at width i value) (λ food. read_foods width (i + 1) values))

-- the foods of all cells: rows of bytes, and a line for each amount that has no byte of its own
abbrev pub read_all_foods : ℕ → ℕ → Reader (List ℕ) (List ℕ)
read_all_foods width height =
    mapped (λ (both : List ℕ × List ℕ). both.1)
    (followed (read_rows value_of_byte width height) (λ values. read_foods width 0 values))

-- the colour of a word
abbrev pub colour_of : List ℕ → Option Colour
colour_of token =
    if bytes_eq (codes "red") token then Some Red else if bytes_eq (codes "black") token then Some Black else None

-- the content of the line of an ant: its id, its colour, its position, its direction, its load, its state and its rest
abbrev pub AntParts : Type 0
AntParts = ℕ × (Colour × (ℕ × (ℕ × (ℕ × (ℕ × (ℕ × ℕ))))))

-- an ant's direction, load, state and rest
abbrev pub mind_tokens : Reader (List ℕ) (ℕ × (ℕ × (ℕ × ℕ)))
mind_tokens =
    followed (number 0 5) (λ facing. followed (number 0 1) (λ laden. followed (number 0 9999) (λ state. number 0 255)))

-- an ant's position, and its mind
abbrev pub body_tokens : ℕ → ℕ → Reader (List ℕ) (ℕ × (ℕ × (ℕ × (ℕ × (ℕ × ℕ)))))
body_tokens width height = followed (number 0 (width - 1)) (λ x. followed (number 0 (height - 1)) (λ y. mind_tokens))

abbrev pub ant_tokens : ℕ → ℕ → Reader (List ℕ) AntParts
ant_tokens width height =
    followed (word (codes "ant") (number 0 16383)) (λ id. followed (one colour_of) (λ colour. body_tokens width height))

abbrev pub placed_ant : AntParts → PlacedAnt
placed_ant p = record {
  place = record { x = p.1.1.0; y = p.1.1.1.0 };
  ant = record {
    id = p.0;
    colour = p.1.0;
    state = p.1.1.1.1.1.1.0;
    resting = p.1.1.1.1.1.1.1;
    facing = dir_of p.1.1.1.1.0;
    laden = p.1.1.1.1.1.0 == 1;
  };
}

-- the ant of a line
abbrev pub ant_of : ℕ → ℕ → List ℕ → Option PlacedAnt
ant_of width height line = whole (mapped placed_ant (ant_tokens width height)) (pieces line)

-- an ant whose id is at least this
abbrev pub if_rises : ℕ → Option PlacedAnt → Option (Option PlacedAnt)
if_rises least None = None
if_rises least (Some it) = if nat_le least it.ant.id then Some (Some it) else None

-- the ant of a line, whose id is at least this one; none if it is the last line
abbrev pub ant_or_end : ℕ → ℕ → ℕ → List ℕ → Option (Option PlacedAnt)
ant_or_end width height least line =
    if bytes_eq (codes "end") line then Some None else if_rises least (ant_of width height line)

-- the next ant, or none at the last line
abbrev pub next_ant : ℕ → ℕ → ℕ → Reader (List ℕ) (Option PlacedAnt)
next_ant width height least = one (ant_or_end width height least)

-- an ant, whose id is at least this, in front of those below it
abbrev pub ant_onto : ℕ → Option PlacedAnt → ℕ → (PlacedAnt → Result (List PlacedAnt × Left (List ℕ)) ℕ)
    → Result (List PlacedAnt × Left (List ℕ)) ℕ
ant_onto least None n below = Err n
ant_onto least (Some it) n below = if nat_le least it.ant.id then made (λ ants. it ∷ ants) (below it) else Err n

-- the ants on these lines up to the last line, with ids that rise from this one on; the first line has this number
abbrev pub ants_from : ℕ → ℕ → List (List ℕ) → ℕ → ℕ → Result (List PlacedAnt × Left (List ℕ)) ℕ
ants_from width height [] least n = Err n
ants_from width height (line ∷ lines) least n =
    if bytes_eq (codes "end") line then Ok ([], record { number = n + 1; items = lines })
    else ant_onto least (ant_of width height line) n (λ it. ants_from width height lines (suc it.ant.id) (n + 1))

abbrev pub read_ants : ℕ → ℕ → Reader (List ℕ) (List PlacedAnt)
read_ants width height at = ants_from width height at.items 0 at.number

-- both brains
abbrev pub brain_parts : Reader (List ℕ) (List Instr × List Instr)
brain_parts = followed (read_program (codes "red")) (λ red. read_program (codes "black"))

-- the cells: their ground, the markers of both colours, and the food
abbrev pub CellParts : Type 0
CellParts = List Soil × (List ℕ × (List ℕ × List ℕ))

abbrev pub cell_parts : ℕ → ℕ → Reader (List ℕ) CellParts
cell_parts width height =
    followed (read_rows soil_of width height)
    (λ soils. followed (read_rows value_of_byte width height)
    (λ red_marks. followed (read_rows value_of_byte width height)
    (λ black_marks. read_all_foods width height)))

-- everything after the first eight lines
abbrev pub BodyParts : Type 0
BodyParts = (List Instr × List Instr) × (CellParts × List PlacedAnt)

abbrev pub body_parts : ℕ → ℕ → Reader (List ℕ) BodyParts
body_parts width height =
    followed brain_parts (λ brains. followed (cell_parts width height) (λ cells. read_ants width height))

abbrev pub draft_of_parts : Head × BodyParts → Draft
draft_of_parts p = record {
  head = p.0;
  red = p.1.0.0;
  black = p.1.0.1;
  soils = p.1.1.0.0;
  red_marks = p.1.1.0.1.0;
  black_marks = p.1.1.0.1.1.0;
  foods = p.1.1.0.1.1.1;
  ants = p.1.1.1;
}

-- what all lines say, after the first eight
abbrev pub read_body : Head → Reader (List ℕ) Draft
read_body head = mapped (λ (body : BodyParts). draft_of_parts (head, body)) (body_parts head.width head.height)

-- what all lines say, up to the last line
abbrev pub read_draft : Reader (List ℕ) Draft
read_draft = mapped draft_of_parts (followed read_head (λ head. body_parts head.width head.height))

-- no line is left, and the last one ends in LF
abbrev pub end_of : Bool → ℕ → List (List ℕ) → Result (Unit {0}) ℕ
end_of ended n (line ∷ lines) = Err n
end_of ended n [] = if ended then Ok tt else Err (n - 1)

abbrev pub line_end : Bool → Left (List ℕ) → Result (Unit {0}) ℕ
line_end ended at = end_of ended at.number at.items

-- what was read, if the end is right
abbrev pub if_ends : Draft → Result (Unit {0}) ℕ → Result Draft ℕ
if_ends d (Ok _) = Ok d
if_ends d (Err n) = Err n

-- the lines of a whole save, if none is left and the last one ends in LF
abbrev pub whole_draft : Bool → Draft → ℕ → List (List ℕ) → Result Draft ℕ
whole_draft ended d n lines = if_ends d (end_of ended n lines)

-- what was read from all lines
abbrev pub draft_from : Bool → Result (Draft × Left (List ℕ)) ℕ → Result Draft ℕ
draft_from ended (Ok read) = whole_draft ended read.0 read.1.number read.1.items
draft_from ended (Err n) = Err n

-- what a text is read as, or the number of its first bad line
unfoldable pub draft_of_text : List ℕ → Result Draft ℕ
draft_of_text text = draft_from (ends_in_lf text) (read_draft (record { number = 1; items = lines_of text }))
