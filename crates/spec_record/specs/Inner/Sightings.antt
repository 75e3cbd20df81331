-- Sightings, joined one by one as a look does it.
use Rattle.std.specs.Prelude.{ℕ, zero, suc, if◌then◌else◌, List, [], ◌∷◌, map}
use Rattle.hex_geometry.specs.declared.position.Pos.{Pos}
use Rattle.hex_geometry.specs.Position.{same_pos}
use Rattle.cell_world.specs.declared.part.Parts.{Parts}
use Rattle.cell_world.specs.Parts.{union}
use Rattle.cell_world.specs.World.{Cells}
use Rattle.spec_record.specs.Claims.{Sighting, seen_cell, seen_parts, seen_place}

-- one more sighting: its parts are added to the entry of its position if there is one; otherwise it is added last
abbrev pub sighted : List Sighting → Sighting → List Sighting
sighted [] new = new ∷ []
sighted (old ∷ sightings) new =
    if same_pos (seen_place old) (seen_place new)
    then (seen_place old, union (seen_parts old) (seen_parts new), seen_cell old) ∷ sightings
    else old ∷ sighted sightings new

-- these sightings, and then more
abbrev pub all_sighted : List Sighting → List Sighting → List Sighting
all_sighted sightings [] = sightings
all_sighted sightings (new ∷ more) = all_sighted (sighted sightings new) more

-- the same parts of the cells at these positions
abbrev pub sightings_of : Cells → Parts → List Pos → List Sighting
sightings_of cells parts places = map (λ r. (r, parts, cells r)) places

-- the number of a position in the list, or the length of the list if it isn't there
abbrev pub seen_number : Pos → List Sighting → ℕ
seen_number p [] = zero
seen_number p (old ∷ sightings) = if same_pos (seen_place old) p then zero else suc (seen_number p sightings)
