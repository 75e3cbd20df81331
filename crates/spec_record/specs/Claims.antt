-- Positions, each with parts of its cell.
use Rattle.std.specs.Prelude.{◌≢◌, ⊤, if◌then◌else◌, List, [], ◌∷◌, map}
use Rattle.std.specs.List.{AllByRecursion}
use Rattle.hex_geometry.specs.declared.position.Pos.{Pos}
use Rattle.hex_geometry.specs.Position.{same_pos}
use Rattle.cell_world.specs.declared.cell.Cell.{Cell}
use Rattle.cell_world.specs.declared.part.Parts.{Parts}
use Rattle.cell_world.specs.Parts.{union}
use Rattle.cell_world.specs.World.{Cells}

-- a position, and parts of its cell, perhaps none
pub record Claim : Type 0 where
  pub at : Pos
  pub parts : Parts

abbrev pub claim : Pos → Parts → Claim
claim p parts = record { at = p; parts = parts }

-- one more claim: its parts are added to the entry of its position if there is one; otherwise it is added last
abbrev pub with_claim : List Claim → Claim → List Claim
with_claim [] new = new ∷ []
with_claim (old ∷ claims) new =
    if same_pos old.at new.at then claim old.at (union old.parts new.parts) ∷ claims else old ∷ with_claim claims new

-- these claims, and then more
abbrev pub merged_onto : List Claim → List Claim → List Claim
merged_onto claims [] = claims
merged_onto claims (new ∷ more) = merged_onto (with_claim claims new) more

-- each position once, in the order in which they are first claimed, with all parts that are claimed there
unfoldable pub merged : List Claim → List Claim
merged claims = merged_onto [] claims

-- a position, parts, and a cell that was read or left there
abbrev pub Sighting : Type 0
Sighting = Pos × Parts × Cell

-- each of the three by its name
abbrev pub seen_place : Sighting → Pos
seen_place sighting = sighting.0

abbrev pub seen_parts : Sighting → Parts
seen_parts sighting = sighting.1

abbrev pub seen_cell : Sighting → Cell
seen_cell sighting = sighting.2

-- the positions of sightings
abbrev pub seen_positions : List Sighting → List Pos
seen_positions sightings = map seen_place sightings

-- each position occurs once
abbrev pub EachOnce : List Pos → Type 0
EachOnce [] = ⊤
EachOnce (p ∷ places) = AllByRecursion (λ q. q ≢ p) places × EachOnce places

-- the claims, each with the cell at its position
abbrev pub with_cells_at : Cells → List Claim → List Sighting
with_cells_at cells claims = map (λ c. (c.at, c.parts, cells c.at)) claims
