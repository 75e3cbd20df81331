-- The canonical text of a world (this project's own).
use Rattle.std.specs.Prelude.{ℕ, ◌+◌, ◌*◌, ◌%◌, Bool, List, [], ◌∷◌, codes, decimal, if◌then◌else◌, ◌==◌, nat_lt, slice_index_or}
use Rattle.ant_base.specs.Layout.{numbered, ◌+++◌}
use Rattle.cell_world.specs.declared.kind.Kind.{Kind}
use Rattle.cell_world.specs.declared.kind.Kind.TheVariants.{Rock}
use Rattle.world_read.specs.Bytes.{byte_of}

-- a space, if there is to be one
abbrev pub space_if : Bool → List ℕ
space_if wanted = if wanted then codes " " else []

-- the byte of the cell in column x, with a space before it unless it is the row's first
unfoldable pub cell_text : ℕ → ℕ → List ℕ
cell_text x byte = space_if (nat_lt 0 x) +++ (byte ∷ [])

-- row y: a space if its number is odd, the cells with one space between them, and LF
unfoldable pub line_of_row : ℕ → List Kind → ℕ → List ℕ
line_of_row width kinds y =
    space_if (y % 2 == 1) +++ numbered (λ x. cell_text x (byte_of (slice_index_or kinds (y * width + x) Rock))) width
    +++ codes "\n"

-- the canonical text of a world of these sizes and kinds: the width, the height and the rows, each a line
unfoldable pub canonical_text : ℕ → ℕ → List Kind → List ℕ
canonical_text width height kinds =
    decimal width +++ codes "\n" +++ decimal height +++ codes "\n" +++ numbered (line_of_row width kinds) height
