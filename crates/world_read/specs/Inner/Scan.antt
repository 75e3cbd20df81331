-- How far a search of the rim has got.
use Rattle.std.specs.Prelude.{◌≡◌, ℕ, ◌+◌, ◌*◌, List, Option, None}
use Rattle.hex_geometry.specs.declared.position.Pos.{Pos}
use Rattle.cell_world.specs.declared.kind.Kind.{Kind}
use Rattle.cell_world.specs.World.{first_of}
use Rattle.world_read.specs.Inner.Reading.{is_open_at}

-- no cell before number n in row order is an open cell of the rim
abbrev pub IsClosedBefore : ℕ → ℕ → List Kind → ℕ → Type 0
IsClosedBefore width height kinds n = first_of width (is_open_at width height kinds) n ≡ None

-- the search of row y goes on if the rows above it have no open cell
abbrev pub SearchesRow : ℕ → ℕ → List Kind → ℕ → Option Pos → Type 0
SearchesRow width height kinds y found =
    IsClosedBefore width height kinds (y * width)
    → first_of width (is_open_at width height kinds) (y * width + width) ≡ found
