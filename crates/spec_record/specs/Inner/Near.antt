-- The cells near a cell, each with a mark that says whether it was noted.
use Rattle.std.specs.Prelude.{◌≡◌, ℕ, ◌+◌, ◌-◌, ◌*◌, ◌≤◌, Bool, false, ◌||◌, List, [], ◌∷◌, length, slice_index_or}
use Rattle.std.specs.List.{AllByRecursion}
use Rattle.hex_geometry.specs.declared.position.Pos.{Pos}
use Rattle.hex_geometry.specs.Position.{same_pos}
use Rattle.cell_world.specs.declared.ant.Colour.{Colour}
use Rattle.cell_world.specs.declared.part.Part.TheVariants as part
use Rattle.cell_world.specs.Cell.{is_ant_of}
use Rattle.cell_world.specs.Parts.{only, union}
use Rattle.spec_record.specs.Claims.{Sighting, seen_cell, seen_parts, seen_place}

-- at most n columns and n rows apart
pub record IsWithin (n : ℕ) (q r : Pos) : Type 0 where
  pub right : r.x ≤ q.x + n
  pub left : q.x ≤ r.x + n
  pub down : r.y ≤ q.y + n
  pub up : q.y ≤ r.y + n

-- the number of a position among the 25 that are at most two columns and rows from q, row by row
abbrev pub number_near : Pos → Pos → ℕ
number_near q r = (r.y + 2 - q.y) * 5 + (r.x + 2 - q.x)

-- whether a position is in the list
abbrev pub is_seen : Pos → List Sighting → Bool
is_seen p [] = false
is_seen p (old ∷ sightings) = same_pos (seen_place old) p || is_seen p sightings

-- the marks of the cells near q are those of the positions in the list, and for each of these the ant there is read
pub record AreSeen (q : Pos) (seen : List Bool) (list : List Sighting) : Type 0 where
  pub sized : length seen ≡ 25
  pub marks : (r : Pos) → IsWithin 2 q r → slice_index_or seen (number_near q r) false ≡ is_seen r list
  pub named : AllByRecursion (λ sighting. union (seen_parts sighting) (only part.Who) ≡ seen_parts sighting) list

-- no ant of a colour is on the cells in the list
abbrev pub AreNoneOf : Colour → List Sighting → Type 0
AreNoneOf colour list = AllByRecursion (λ sighting. is_ant_of colour (seen_cell sighting).ant ≡ false) list
