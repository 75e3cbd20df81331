-- What a Move that goes reads, piece by piece.
use Rattle.std.proofs.Common.{◌≡◌, ℕ, ◌≤◌, true, false, not, List, length, Option, Some, None, refl, sym}
use Rattle.std.specs.List.{flat_map}
use Rattle.std.proofs.lemmas.Bool.{and_parts}
use Rattle.hex_geometry.specs.declared.position.Pos.{Pos}
use Rattle.hex_geometry.specs.Neighbourhood.{neighbours_of}
use Rattle.hex_geometry.specs.Position.{HasNeighbours, IsInner, same_pos}
use Rattle.cell_world.specs.declared.ant.Ant.{Ant}
use Rattle.cell_world.specs.declared.part.Parts.{Parts}
use Rattle.cell_world.specs.Valid.{Valid}
use Rattle.cell_world.specs.World.{Cells, World}
use Rattle.cell_world.proofs.Places.{ant-clear, clear_has_neighbours}
use Rattle.ant_turn.specs.Kills.{places_around}
use Rattle.ant_turn.specs.Turn.{has_ant}
use Rattle.spec_record.specs.Claims.{Sighting}
use Rattle.spec_record.specs.Inner.Moves.{beyond, fallen, fallen_at, is_manned, seen_from}
use Rattle.spec_record.specs.Inner.Sightings.{all_sighted, sighted, sightings_of}
use Rattle.spec_record.proofs.Sighting.{sightings_of-append, sightings_of-room}

-- an ant that is there
there : (o : Option Ant) → has_ant o ≡ true → (ant : Ant) × (o ≡ Some ant)
there None is = absurd (cc)
there (Some ant) is = (ant, refl)

-- a cell with an ant isn't on the rim
pub manned-clear : (w : World) (p r : Pos) → Valid w → is_manned w.cells p r ≡ true → (w.cells r).rocky ≡ false
manned-clear w p r valid is =
    let it : (ant : Ant) × ((w.cells r).ant ≡ Some ant) = there (w.cells r).ant (and_parts (not (same_pos r p)) (has_ant (w.cells r).ant) is).1 in
    ant-clear w r it.0 valid it.1

pub manned-inner : (w : World) (p r : Pos) → Valid w → is_manned w.cells p r ≡ true → IsInner w.width w.height r
manned-inner w p r valid is = valid.rim r (manned-clear w p r valid is)

pub manned-near : (w : World) (p r : Pos) → Valid w → is_manned w.cells p r ≡ true → HasNeighbours r
manned-near w p r valid is = clear_has_neighbours w r valid (manned-clear w p r valid is)

-- whose ants decide the checks: the position's, its neighbours', and those beyond
pub seen_from-parts : (list : List Sighting) (cells : Cells) (parts : Parts) (p q : Pos) →
    all_sighted list (sightings_of cells parts (seen_from cells p q))
    ≡ all_sighted (all_sighted (sighted list (q, parts, cells q)) (sightings_of cells parts (neighbours_of q))) (sightings_of cells parts (flat_map (beyond cells p) (neighbours_of q)))
unfolding places_around
seen_from-parts list cells parts p q =
    sightings_of-append (sighted list (q, parts, cells q)) cells parts (neighbours_of q) (flat_map (beyond cells p) (neighbours_of q))

-- there is room for the neighbours' if there is for all
pub seen_from-beside_room : (list : List Sighting) (cells : Cells) (parts : Parts) (p q : Pos) (n : ℕ) → length (all_sighted list (sightings_of cells parts (seen_from cells p q))) ≤ n →
    length (all_sighted (sighted list (q, parts, cells q)) (sightings_of cells parts (neighbours_of q))) ≤ n
seen_from-beside_room list cells parts p q n fits =
    sightings_of-room (all_sighted (sighted list (q, parts, cells q)) (sightings_of cells parts (neighbours_of q))) _ cells parts (flat_map (beyond cells p) (neighbours_of q)) n (sym (seen_from-parts list cells parts p q)) fits

-- and for the position's own
pub seen_from-own_room : (list : List Sighting) (cells : Cells) (parts : Parts) (p q : Pos) (n : ℕ) → length (all_sighted list (sightings_of cells parts (seen_from cells p q))) ≤ n →
    length (sighted list (q, parts, cells q)) ≤ n
seen_from-own_room list cells parts p q n fits =
    sightings_of-room (sighted list (q, parts, cells q)) _ cells parts (neighbours_of q) n refl (seen_from-beside_room list cells parts p q n fits)

-- the killed: on the position, and on its neighbours
pub fallen-parts : (list : List Sighting) (cells before last : Cells) (parts : Parts) (p q : Pos) →
    all_sighted list (sightings_of cells parts (fallen before last p q))
    ≡ all_sighted (all_sighted list (sightings_of cells parts (fallen_at before last p q q))) (sightings_of cells parts (flat_map (fallen_at before last p q) (neighbours_of q)))
unfolding places_around
fallen-parts list cells before last parts p q = sightings_of-append list cells parts (fallen_at before last p q q) (flat_map (fallen_at before last p q) (neighbours_of q))

-- there is room for the first if there is for all
pub fallen-own_room : (list : List Sighting) (cells before last : Cells) (parts : Parts) (p q : Pos) (n : ℕ) → length (all_sighted list (sightings_of cells parts (fallen before last p q))) ≤ n →
    length (all_sighted list (sightings_of cells parts (fallen_at before last p q q))) ≤ n
fallen-own_room list cells before last parts p q n fits =
    sightings_of-room (all_sighted list (sightings_of cells parts (fallen_at before last p q q))) _ cells parts (flat_map (fallen_at before last p q) (neighbours_of q)) n (sym (fallen-parts list cells before last parts p q)) fits
