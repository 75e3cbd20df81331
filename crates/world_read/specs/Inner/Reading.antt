-- What each text is read as: its world's kinds, or its first fault. These functions read a text as the code does.
-- proofs/TextReads, FaultReads and WrongReads show that a text is read as a world exactly if it is that world's text by
-- Grammar, and as a fault exactly if that is wrong with it by Faulty.
use Rattle.std.specs.Prelude.{◌≡◌, ◌≤◌, ℕ, ◌+◌, ◌-◌, ◌*◌, zero, suc, Bool, not, ◌&&◌, List, [], ◌∷◌, ◌++◌, Option, Some, None, Result, Ok, Err, ok_or, drop, nat_le, nat_lt, ◌==◌, if◌then◌else◌}
use Rattle.std.specs.List.{list_all}
use Rattle.ant_base.specs.Lines.{lines_of, trimmed, is_blank}
use Rattle.ant_base.specs.Number.{number_within}
use Rattle.hex_geometry.specs.Position.{is_on_rim}
use Rattle.hex_geometry.specs.declared.position.Pos.{Pos}
use Rattle.cell_world.specs.declared.kind.Kind.{Kind}
use Rattle.cell_world.specs.declared.kind.Kind.TheVariants.{Rock, Clear, RedHill, BlackHill, Food}
use Rattle.cell_world.specs.Grid.{Grid}
use Rattle.cell_world.specs.Limits.{least_size, most_size, most_ants}
use Rattle.cell_world.specs.Opening.{hill_count, is_rock, kind_at, opening}
use Rattle.cell_world.specs.World.{first_of}
use Rattle.world_read.specs.declared.fault.WorldFault.{WorldFault}
use Rattle.world_read.specs.declared.fault.WorldFault.TheVariants.{BadWidth, BadHeight, MissingRow, BadCell, ShortRow, LongRow, ExtraRow, OpenRim, TooManyAnts, OutOfMemory}
use Rattle.world_read.specs.Bytes.{spelled}
use Rattle.world_read.specs.Grammar.{Plan}

-- the kind for a byte, if there is one
abbrev pub kind_of : ℕ → Option Kind
kind_of byte =
    if byte == 35 then Some Rock
    else if byte == 46 then Some Clear
    else if byte == 43 then Some RedHill
    else if byte == 45 then Some BlackHill
    else if nat_le 49 byte && nat_le byte 57 then Some (Food (byte - 48))
    else None

-- the size on a line
abbrev pub size_of : List ℕ → Option ℕ
size_of line = number_within least_size most_size (trimmed line)

-- the size on the first of these lines, if there is one
abbrev pub first_size : List (List ℕ) → Option ℕ
first_size [] = None
first_size (line ∷ lines) = size_of line

-- the kind of the next cell of row y, after this many cells, or what is wrong with it
abbrev pub cell_of : ℕ → ℕ → ℕ → ℕ → Result Kind WorldFault
cell_of width y column byte = if nat_lt column width then ok_or (kind_of byte) (BadCell y column) else Err (LongRow y)

-- cells in front of the rest of their row
abbrev pub onto_row : List Kind → Result (List Kind) WorldFault → Result (List Kind) WorldFault
onto_row cells (Err fault) = Err fault
onto_row cells (Ok kinds) = Ok (cells ++ kinds)

-- a cell in front of the rest of its row: the first cell at fault counts
abbrev pub with_cell : Result Kind WorldFault → Result (List Kind) WorldFault → Result (List Kind) WorldFault
with_cell (Err fault) rest = Err fault
with_cell (Ok kind) rest = onto_row (kind ∷ []) rest

-- the kinds of row y from this column on, from the rest of its bytes
abbrev pub row_from : ℕ → ℕ → ℕ → List ℕ → Result (List Kind) WorldFault
row_from width y column [] = if nat_lt column width then Err (ShortRow y) else Ok []
row_from width y column (byte ∷ bytes) = with_cell (cell_of width y column byte) (row_from width y (column + 1) bytes)

-- the kinds of a line that is row y
abbrev pub row_of : ℕ → ℕ → List ℕ → Result (List Kind) WorldFault
row_of width y line = row_from width y 0 (spelled line)

-- rows as they were read, and the lines that follow them
pub record Rows : Type 0 where
  pub kinds : List Kind
  pub rest : List (List ℕ)

-- a row in front of those below it: the first row at fault counts
abbrev pub with_row : Result (List Kind) WorldFault → Result Rows WorldFault → Result Rows WorldFault
with_row (Err fault) below = Err fault
with_row (Ok row) (Err fault) = Err fault
with_row (Ok row) (Ok below) = Ok (record { kinds = row ++ below.kinds; rest = below.rest })

-- this many rows from row y on
abbrev pub rows_from : ℕ → ℕ → ℕ → List (List ℕ) → Result Rows WorldFault
rows_from width y zero lines = Ok (record { kinds = []; rest = lines })
rows_from width y (suc left) [] = Err (MissingRow y)
rows_from width y (suc left) (line ∷ lines) = with_row (row_of width y line) (rows_from width (y + 1) left lines)

-- whether a cell of this kind at p is on the rim, and isn't rock
abbrev pub is_open : ℕ → ℕ → Kind → Pos → Bool
is_open width height kind p = is_on_rim width height p && not (is_rock kind)

-- whether the cell at p of these kinds is on the rim, and isn't rock
abbrev pub is_open_at : ℕ → ℕ → List Kind → Pos → Bool
is_open_at width height kinds p = is_open width height (kind_at width kinds p) p

-- the first cell of the rim, in row order, that isn't rock
unfoldable pub open_rim : ℕ → ℕ → List Kind → Option Pos
open_rim width height kinds = first_of width (is_open_at width height kinds) (width * height)

-- kinds with a rocky rim and not too many hills
abbrev pub limited : ℕ → ℕ → List Kind → Option Pos → Result Plan WorldFault
limited width height kinds (Some p) = Err (OpenRim p.x p.y)
limited width height kinds None =
    if nat_le (hill_count kinds) most_ants
    then Ok (record { width = width; height = height; kinds = kinds })
    else Err (TooManyAnts (hill_count kinds))

-- rows that only blank lines follow
abbrev pub rows_ended : ℕ → ℕ → Result Rows WorldFault → Result Plan WorldFault
rows_ended width height (Err fault) = Err fault
rows_ended width height (Ok rows) =
    if list_all is_blank rows.rest then limited width height rows.kinds (open_rim width height rows.kinds) else Err ExtraRow

-- the rows of a world whose height is on the line before them
abbrev pub after_height : ℕ → Option ℕ → List (List ℕ) → Result Plan WorldFault
after_height width None lines = Err BadHeight
after_height width (Some height) lines = rows_ended width height (rows_from width 0 height lines)

-- the height and the rows of a world whose width is on the line before them
abbrev pub after_width : Option ℕ → List (List ℕ) → Result Plan WorldFault
after_width None lines = Err BadWidth
after_width (Some width) lines = after_height width (first_size lines) (drop 1 lines)

-- what a text is read as: its world's sizes and kinds, or its first fault in this order
unfoldable pub plan_of : List ℕ → Result Plan WorldFault
plan_of text = after_width (first_size (lines_of text)) (drop 1 (lines_of text))

-- the opening world of what was read
abbrev pub opened : Result Plan WorldFault → Result Grid WorldFault
opened (Err fault) = Err fault
opened (Ok plan) = Ok (opening plan.width plan.height plan.kinds)

-- the opening world of a text, or its fault
unfoldable pub world_of_text : List ℕ → Result Grid WorldFault
world_of_text text = opened (plan_of text)

-- the result agrees with what was judged of a text; out of memory may be returned at any time
abbrev pub ReadsAs : {A : Type 0} → Result A WorldFault → Result A WorldFault → Type 0
ReadsAs told (Ok value) = told ≡ Ok value
ReadsAs told (Err OutOfMemory) = Unit {0}
ReadsAs told (Err fault) = told ≡ Err fault

-- the result of a call that fills a value: the value that it left, or its fault
abbrev pub leaving : {A : Type 0} → A → Result (Unit {0}) WorldFault → Result A WorldFault
leaving value (Ok _) = Ok value
leaving value (Err fault) = Err fault

-- the sizes are those of a world
pub record AreSizes (width height : ℕ) : Type 0 where
  pub wide : least_size ≤ width
  pub narrow : width ≤ most_size
  pub tall : least_size ≤ height
  pub low : height ≤ most_size
