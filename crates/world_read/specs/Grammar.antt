-- Which texts are worlds (the task's world files).
use Rattle.std.specs.Prelude.{◌≡◌, ℕ, true, List, [], ◌∷◌, ◌++◌, length, map, Some, All}
use Rattle.std.specs.List.{list_all}
use Rattle.ant_base.specs.Lines.{lines_of, is_separator, trimmed}
use Rattle.ant_base.specs.Number.{decimal_value}
use Rattle.cell_world.specs.declared.kind.Kind.{Kind}
use Rattle.cell_world.specs.Opening.{IsPlan}
use Rattle.world_read.specs.Bytes.{byte_of, spelled}

-- a world's sizes, and the kinds of its cells in row order
pub record Plan : Type 0 where
  pub width : ℕ
  pub height : ℕ
  pub kinds : List Kind

-- the lines of rows spell these kinds: the first line, without its separators, is the bytes of the first `width` kinds,
-- and the other lines spell the rest
abbrev pub AreRows : ℕ → List (List ℕ) → List Kind → Type 0
AreRows width [] kinds = kinds ≡ []
AreRows width (line ∷ lines) kinds =
    (row : List Kind) × (rest : List Kind) × (kinds ≡ row ++ rest) × (length row ≡ width)
    × (spelled line ≡ map byte_of row) × AreRows width lines rest

-- a text is that of the world of these sizes and kinds: a line with only the width, possibly between separators, then
-- one with the height, a line for each row, and then only blank lines; and the kinds are those of a world
pub record IsWorldText (text : List ℕ) (width height : ℕ) (kinds : List Kind) : Type 0 where
  pub first : List ℕ
  pub second : List ℕ
  pub rows : List (List ℕ)
  pub rest : List (List ℕ)
  pub lines : lines_of text ≡ first ∷ second ∷ (rows ++ rest)
  pub is_width : decimal_value (trimmed first) ≡ Some width
  pub is_height : decimal_value (trimmed second) ≡ Some height
  pub as_many : length rows ≡ height
  pub are_rows : AreRows width rows kinds
  pub blank : All (λ line. list_all is_separator line ≡ true) rest
  pub plan : IsPlan width height kinds
