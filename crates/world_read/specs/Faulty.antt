-- What is wrong with a text that is not a world (this project's own).
use Rattle.std.specs.Prelude.{◌≡◌, ℕ, ◌+◌, ◌<◌, ◌≤◌, true, false, List, [], ◌∷◌, ◌++◌, length, map, Some, Result, Ok, Err}
use Rattle.std.specs.List.{All}
use Rattle.ant_base.specs.Lines.{lines_of, is_blank, trimmed}
use Rattle.ant_base.specs.Number.{decimal_value}
use Rattle.hex_geometry.specs.declared.position.Pos.{Pos}
use Rattle.hex_geometry.specs.Position.{IsInner, IsInside}
use Rattle.cell_world.specs.declared.kind.Kind.{Kind}
use Rattle.hex_geometry.specs.RowOrder.{index_of}
use Rattle.cell_world.specs.Limits.{least_size, most_size, most_ants}
use Rattle.cell_world.specs.Opening.{IsFed, hill_count, is_rock, kind_at}
use Rattle.world_read.specs.declared.fault.WorldFault.{WorldFault}
use Rattle.world_read.specs.declared.fault.WorldFault.TheVariants.{BadWidth, BadHeight, MissingRow, BadCell, ShortRow, LongRow, ExtraRow, OpenRim, TooManyAnts, OutOfMemory}
use Rattle.world_read.specs.Bytes.{byte_of, spelled}
use Rattle.world_read.specs.Grammar.{AreRows, IsWorldText, Plan}

-- a line gives the size of a world
pub record HasSize (line : List ℕ) (size : ℕ) : Type 0 where
  pub is : decimal_value (trimmed line) ≡ Some size
  pub least : least_size ≤ size
  pub most : size ≤ most_size

-- there is no first line, or it gives no size
abbrev pub BeginsWithNoSize : List (List ℕ) → Type 0
BeginsWithNoSize [] = Unit {0}
BeginsWithNoSize (line ∷ lines) = (size : ℕ) → HasSize line size → ⊥

-- the first line gives a width, and no second line gives a height
pub record HasNoHeight (text : List ℕ) : Type 0 where
  pub width : ℕ
  pub first : List ℕ
  pub lines : List (List ℕ)
  pub are : lines_of text ≡ first ∷ lines
  pub is_width : HasSize first width
  pub none : BeginsWithNoSize lines

-- both sizes are given, and after them this many whole rows of these kinds; then these lines follow
pub record HasRows (text : List ℕ) (width height count : ℕ) (kinds : List Kind) (rest : List (List ℕ)) : Type 0 where
  pub first : List ℕ
  pub second : List ℕ
  pub rows : List (List ℕ)
  pub are : lines_of text ≡ first ∷ second ∷ (rows ++ rest)
  pub is_width : HasSize first width
  pub is_height : HasSize second height
  pub as_many : length rows ≡ count
  pub are_rows : AreRows width rows kinds
  pub fed : All IsFed kinds

-- the bytes are those of these cells, and then the rest
pub record BeginsWith (bytes : List ℕ) (cells : List Kind) (rest : List ℕ) : Type 0 where
  pub spelled : bytes ≡ map byte_of cells ++ rest
  pub fed : All IsFed cells

-- a byte is not that of a cell
abbrev pub IsNoCell : ℕ → Type 0
IsNoCell byte = (kind : Kind) → IsFed kind → byte ≡ byte_of kind → ⊥

-- after some of its cells, a byte of row y within the width is not that of a cell
pub record HasBadCell (width y column : ℕ) (bytes : List ℕ) (row at : ℕ) : Type 0 where
  pub same_row : row ≡ y
  pub cells : List Kind
  pub byte : ℕ
  pub after : List ℕ
  pub begins : BeginsWith bytes cells (byte ∷ after)
  pub is_at : column + length cells ≡ at
  pub within : at < width
  pub wrong : IsNoCell byte

-- all bytes of row y are cells, and there are fewer than the width
pub record HasShortRow (width y column : ℕ) (bytes : List ℕ) (row : ℕ) : Type 0 where
  pub same_row : row ≡ y
  pub cells : List Kind
  pub are : BeginsWith bytes cells []
  pub few : column + length cells < width

-- row y has as many cells as the width, and then another byte
pub record HasLongRow (width y column : ℕ) (bytes : List ℕ) (row : ℕ) : Type 0 where
  pub same_row : row ≡ y
  pub cells : List Kind
  pub byte : ℕ
  pub after : List ℕ
  pub begins : BeginsWith bytes cells (byte ∷ after)
  pub whole : column + length cells ≡ width

-- what is wrong with these bytes of row y, after this many of its cells
abbrev pub IsCellFault : ℕ → ℕ → ℕ → List ℕ → WorldFault → Type 0
IsCellFault width y column bytes (BadCell row at) = HasBadCell width y column bytes row at
IsCellFault width y column bytes (ShortRow row) = HasShortRow width y column bytes row
IsCellFault width y column bytes (LongRow row) = HasLongRow width y column bytes row
IsCellFault width y column bytes _ = ⊥

-- there is a line for row y, and its bytes without separators are at fault
pub record IsLineFault (width y : ℕ) (lines : List (List ℕ)) (fault : WorldFault) : Type 0 where
  pub line : List ℕ
  pub after : List (List ℕ)
  pub are : lines ≡ line ∷ after
  pub wrong : IsCellFault width y 0 (spelled line) fault

-- there is no line for row y
pub record HasNoLine (y : ℕ) (lines : List (List ℕ)) (row : ℕ) : Type 0 where
  pub same_row : row ≡ y
  pub none : lines ≡ []

-- what is wrong with row y, if these lines are left
abbrev pub IsRowFault : ℕ → ℕ → List (List ℕ) → WorldFault → Type 0
IsRowFault width y lines (MissingRow row) = HasNoLine y lines row
IsRowFault width y lines (BadCell row column) = IsLineFault width y lines (BadCell row column)
IsRowFault width y lines (ShortRow row) = IsLineFault width y lines (ShortRow row)
IsRowFault width y lines (LongRow row) = IsLineFault width y lines (LongRow row)
IsRowFault width y lines _ = ⊥

-- the rows before one are whole, and it is at fault
pub record HasRowFault (text : List ℕ) (fault : WorldFault) : Type 0 where
  pub width : ℕ
  pub height : ℕ
  pub row : ℕ
  pub kinds : List Kind
  pub rest : List (List ℕ)
  pub rows : HasRows text width height row kinds rest
  pub within : row < height
  pub wrong : IsRowFault width row rest fault

-- all rows are whole, and a later line isn't blank
pub record HasExtraRow (text : List ℕ) : Type 0 where
  pub width : ℕ
  pub height : ℕ
  pub kinds : List Kind
  pub before : List (List ℕ)
  pub line : List ℕ
  pub after : List (List ℕ)
  pub rows : HasRows text width height height kinds (before ++ line ∷ after)
  pub wrong : is_blank line ≡ false

-- all rows are whole, of these sizes and kinds, and only blank lines follow them
pub record HasWholeRows (text : List ℕ) (width height : ℕ) (kinds : List Kind) : Type 0 where
  pub rest : List (List ℕ)
  pub rows : HasRows text width height height kinds rest
  pub blank : All (λ line. is_blank line ≡ true) rest

-- the cell at a position isn't on the rim, or it is rock
abbrev pub IsClosed : ℕ → ℕ → List Kind → Pos → Type 0
IsClosed width height kinds p = is_rock (kind_at width kinds p) ≡ false → IsInner width height p

-- the text is complete, a cell of the rim isn't rock, and all cells of the rim before it in row order are
pub record HasOpenRim (text : List ℕ) (p : Pos) : Type 0 where
  pub width : ℕ
  pub height : ℕ
  pub kinds : List Kind
  pub complete : HasWholeRows text width height kinds
  pub inside : IsInside width height p
  pub wrong : IsClosed width height kinds p → ⊥
  pub first : (q : Pos) → IsInside width height q → index_of width q < index_of width p → IsClosed width height kinds q

-- the text is complete, its rim is rock, and this number of its cells belong to a hill, which is more than a world may
-- have
pub record HasTooManyAnts (text : List ℕ) (count : ℕ) : Type 0 where
  pub width : ℕ
  pub height : ℕ
  pub kinds : List Kind
  pub complete : HasWholeRows text width height kinds
  pub rim : (p : Pos) → IsInside width height p → IsClosed width height kinds p
  pub is : count ≡ hill_count kinds
  pub wrong : most_ants < count

-- what is wrong with a text
abbrev pub IsWorldFault : List ℕ → WorldFault → Type 0
IsWorldFault text BadWidth = BeginsWithNoSize (lines_of text)
IsWorldFault text BadHeight = HasNoHeight text
IsWorldFault text (MissingRow row) = HasRowFault text (MissingRow row)
IsWorldFault text (BadCell row column) = HasRowFault text (BadCell row column)
IsWorldFault text (ShortRow row) = HasRowFault text (ShortRow row)
IsWorldFault text (LongRow row) = HasRowFault text (LongRow row)
IsWorldFault text ExtraRow = HasExtraRow text
IsWorldFault text (OpenRim x y) = HasOpenRim text (record { x = x; y = y })
IsWorldFault text (TooManyAnts count) = HasTooManyAnts text count
IsWorldFault text OutOfMemory = ⊥

-- the verdict on a text: the sizes and kinds of its world, or what is wrong with it
abbrev pub IsPlanVerdict : List ℕ → Result Plan WorldFault → Type 0
IsPlanVerdict text (Ok plan) = IsWorldText text plan.width plan.height plan.kinds
IsPlanVerdict text (Err fault) = IsWorldFault text fault
