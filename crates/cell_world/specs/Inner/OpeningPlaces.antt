-- Where the ants of an opening world begin, by id.
use Rattle.std.specs.Prelude.{ℕ, ◌+◌, if◌then◌else◌, List, [], ◌∷◌, ◌++◌, Option, Some}
use Rattle.hex_geometry.specs.declared.position.Pos.{Pos}
use Rattle.cell_world.specs.declared.kind.Kind.{Kind}
use Rattle.hex_geometry.specs.RowOrder.{pos_at}
use Rattle.cell_world.specs.Opening.{is_hill}

-- the place of the ant that begins on a cell of this kind at p, if there is one
abbrev pub hill_places : Kind → Pos → List (Option Pos)
hill_places kind p = if is_hill kind then Some p ∷ [] else []

-- where the ants of these kinds begin, by id, if the first kind is that of the cell with number i in row order
abbrev pub opening_places : ℕ → ℕ → List Kind → List (Option Pos)
opening_places width i [] = []
opening_places width i (kind ∷ kinds) = hill_places kind (pos_at width i) ++ opening_places width (i + 1) kinds
