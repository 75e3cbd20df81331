-- How many cells a Move that goes reads and writes at most.
use Rattle.std.proofs.Common.{◌≡◌, ◌≢◌, ◌≤◌, if◌then◌else◌, Bool, true, false, List, [], ◌∷◌, ◌++◌, length, refl, ◌∙◌, ap, subst, arith}
use Rattle.std.specs.List.{AllByRecursion, flat_map}
use Rattle.std.proofs.lemmas.Bool.{cond-false}
use Rattle.list_lemmas.proofs.AllElements.{AllByRecursion-append}
use Rattle.hex_geometry.specs.declared.position.Pos.{Pos}
use Rattle.hex_geometry.specs.Direction.{directions, opposite}
use Rattle.hex_geometry.specs.Neighbourhood.{adjacent_pos, neighbours_of}
use Rattle.hex_geometry.specs.Position.{IsInner, same_pos}
use Rattle.hex_geometry.specs.declared.direction.Dir.{Dir}
use Rattle.hex_geometry.specs.declared.direction.Dir.TheVariants.{East, SouthEast, SouthWest, West, NorthWest, NorthEast}
use Rattle.hex_geometry.proofs.Beside.{adjacent_pos_back}
use Rattle.hex_geometry.proofs.Places.{same_pos_apart}
use Rattle.cell_world.specs.declared.part.Part.TheVariants as part
use Rattle.cell_world.specs.Parts.{only, union}
use Rattle.cell_world.specs.Valid.{Valid}
use Rattle.cell_world.specs.World.{Cells, World}
use Rattle.ant_turn.specs.Kills.{places_around}
use Rattle.spec_record.specs.Claims.{Sighting, seen_place}
use Rattle.spec_record.specs.Reads.{ant_and_food, load_and_food, whole_ant}
use Rattle.spec_record.specs.Inner.Moves.{beyond, fallen, fallen_at, going_reads, going_writes, has_fallen, is_manned, seen_from}
use Rattle.spec_record.specs.Inner.Sightings.{all_sighted, sightings_of}
use Rattle.spec_record.proofs.MoveReads.{manned-inner}
use Rattle.spec_record.proofs.Ring.{among-beside, among-self, around-length, ring, ring-around, ring-beyond, ring-length}
use Rattle.spec_record.proofs.Sighting.{all_sighted-append, all_sighted-fits, among, sightings_of-all}

-- what holds of all that each brings holds of all that they bring
flat_map-all : (P : Pos → Type 0) (f : Pos → List Pos) (places : List Pos) → AllByRecursion (λ r. AllByRecursion P (f r)) places → AllByRecursion P (flat_map f places)
flat_map-all P f [] all = tt
flat_map-all P f (r ∷ places) all = AllByRecursion-append P (f r) (flat_map f places) all.0 (flat_map-all P f places all.1)

-- what holds of some positions, if these are taken or none
all-if : (P : Pos → Type 0) (b : Bool) (places : List Pos) → (b ≡ true → AllByRecursion P places) → AllByRecursion P (if b then places else [])
all-if P true places all = all refl
all-if P false places all = tt

-- of the position and of its neighbours
around-each : (P : Pos → Type 0) (q : Pos) → P q → AllByRecursion P (neighbours_of q) → AllByRecursion P (places_around q)
unfolding places_around
around-each P q own others = (own, others)

-- the cells that are checked are among themselves
around-all : (q : Pos) → AllByRecursion (λ r. among r (places_around q) ≡ true) (places_around q)
unfolding neighbours_of directions
around-all q = around-each (λ r. among r (places_around q) ≡ true) q (among-self q) (among-beside q East, (among-beside q SouthEast, (among-beside q SouthWest, (among-beside q West, (among-beside q NorthWest, (among-beside q NorthEast, tt))))))

-- and in the ring
around-ring : (q : Pos) → AllByRecursion (λ r. among r (ring q) ≡ true) (places_around q)
unfolding neighbours_of directions
around-ring q = around-each (λ r. among r (ring q) ≡ true) q (ring-around q q (among-self q)) (ring-around q (adjacent_pos q East) (among-beside q East), (ring-around q (adjacent_pos q SouthEast) (among-beside q SouthEast), (ring-around q (adjacent_pos q SouthWest) (among-beside q SouthWest), (ring-around q (adjacent_pos q West) (among-beside q West), (ring-around q (adjacent_pos q NorthWest) (among-beside q NorthWest), (ring-around q (adjacent_pos q NorthEast) (among-beside q NorthEast), tt))))))

-- the neighbours of an ant's cell beside are in the ring
beside-ring : (w : World) (p q : Pos) (d : Dir) → Valid w → 1 ≤ q.x → 1 ≤ q.y → is_manned w.cells p (adjacent_pos q d) ≡ true → AllByRecursion (λ r. among r (ring q) ≡ true) (neighbours_of (adjacent_pos q d))
unfolding neighbours_of directions
beside-ring w p q d valid left top manned =
    let inner : IsInner w.width w.height (adjacent_pos q d) = manned-inner w p (adjacent_pos q d) valid manned in
    (ring-beyond q d East left top inner.from_left inner.from_top, (ring-beyond q d SouthEast left top inner.from_left inner.from_top, (ring-beyond q d SouthWest left top inner.from_left inner.from_top, (ring-beyond q d West left top inner.from_left inner.from_top, (ring-beyond q d NorthWest left top inner.from_left inner.from_top, (ring-beyond q d NorthEast left top inner.from_left inner.from_top, tt))))))

beyond-ring : (w : World) (p q : Pos) (d : Dir) → Valid w → 1 ≤ q.x → 1 ≤ q.y → AllByRecursion (λ r. among r (ring q) ≡ true) (beyond w.cells p (adjacent_pos q d))
beyond-ring w p q d valid left top =
    all-if (λ r. among r (ring q) ≡ true) (is_manned w.cells p (adjacent_pos q d)) (neighbours_of (adjacent_pos q d)) (beside-ring w p q d valid left top)

beyond-all : (w : World) (p q : Pos) → Valid w → 1 ≤ q.x → 1 ≤ q.y → AllByRecursion (λ r. AllByRecursion (λ s. among s (ring q) ≡ true) (beyond w.cells p r)) (neighbours_of q)
unfolding neighbours_of directions
beyond-all w p q valid left top = (beyond-ring w p q East valid left top, (beyond-ring w p q SouthEast valid left top, (beyond-ring w p q SouthWest valid left top, (beyond-ring w p q West valid left top, (beyond-ring w p q NorthWest valid left top, (beyond-ring w p q NorthEast valid left top, tt))))))

-- whose ants decide the checks, they are in the ring
pub seen-ring : (w : World) (p q : Pos) → Valid w → 1 ≤ q.x → 1 ≤ q.y → AllByRecursion (λ r. among r (ring q) ≡ true) (seen_from w.cells p q)
seen-ring w p q valid left top =
    let In : Pos → Type 0 = λ r. among r (ring q) ≡ true in
    AllByRecursion-append In (places_around q) (flat_map (beyond w.cells p) (neighbours_of q)) (around-ring q) (flat_map-all In (beyond w.cells p) (neighbours_of q) (beyond-all w p q valid left top))

-- the killed are where the checks are
fallen_at-all : (P : Pos → Type 0) (cells last : Cells) (p q : Pos) (places : List Pos) → AllByRecursion P places → AllByRecursion (λ r. AllByRecursion P (fallen_at cells last p q r)) places
fallen_at-all P cells last p q [] all = tt
fallen_at-all P cells last p q (r ∷ places) all = (all-if P (has_fallen cells last p q r) (r ∷ []) (λ _. (all.0, tt)), fallen_at-all P cells last p q places all.1)

fallen-all : (P : Pos → Type 0) (cells last : Cells) (p q : Pos) → AllByRecursion P (places_around q) → AllByRecursion P (fallen cells last p q)
fallen-all P cells last p q all = flat_map-all P (fallen_at cells last p q) (places_around q) (fallen_at-all P cells last p q (places_around q) all)

-- the cell from which an ant goes is beside the one to which it goes
pub from-beside : (p q : Pos) (d : Dir) → 1 ≤ p.x → 1 ≤ p.y → q ≡ adjacent_pos p d → among p (places_around q) ≡ true
from-beside p q d left top ahead =
    let back : adjacent_pos q (opposite d) ≡ p = ap (λ r. adjacent_pos r (opposite d)) ahead ∙ adjacent_pos_back p d left top in
    subst (λ r. among r (places_around q) ≡ true) back (among-beside q (opposite d))

-- a Move that goes reads 19 cells at most
pub going_reads-fit : (w : World) (last : Cells) (p q : Pos) (d : Dir) → Valid w → 1 ≤ p.x → 1 ≤ p.y → 1 ≤ q.x → 1 ≤ q.y → q ≡ adjacent_pos p d → length (going_reads w.cells last p q) ≤ 19
going_reads-fit w last p q d valid p_left p_top left top ahead =
    let In : Pos → Type 0 = λ r. among r (ring q) ≡ true in
    let checks : List Sighting = sightings_of w.cells (only part.Who) (seen_from w.cells p q) in
    let corpses : List Sighting = sightings_of w.cells load_and_food (fallen w.cells last p q) in
    let own : among p (ring q) ≡ true = ring-around q p (from-beside p q d p_left p_top ahead) in
    let all : AllByRecursion (λ (s : Sighting). among (seen_place s) (ring q) ≡ true) ((p, whole_ant, w.cells p) ∷ (checks ++ corpses)) =
    (own, AllByRecursion-append (λ (s : Sighting). In (seen_place s)) checks corpses (sightings_of-all In w.cells (only part.Who) (seen_from w.cells p q) (seen-ring w p q valid left top)) (sightings_of-all In w.cells load_and_food (fallen w.cells last p q) (fallen-all In w.cells last p q (around-ring q)))) in
    let fits = all_sighted-fits ((p, whole_ant, w.cells p) ∷ (checks ++ corpses)) (ring q) all in
    let same = ap length (all_sighted-append ((p, whole_ant, w.cells p) ∷ []) checks corpses) in
    omega (arith, fits, same, ring-length q)

-- and writes 7 at most
pub going_writes-fit : (cells last : Cells) (p q : Pos) (d : Dir) → 1 ≤ p.x → 1 ≤ p.y → p ≢ q → q ≡ adjacent_pos p d → length (going_writes cells last p q) ≤ 7
going_writes-fit cells last p q d p_left p_top other ahead =
    let In : Pos → Type 0 = λ r. among r (places_around q) ≡ true in
    let corpses : List Sighting = sightings_of last ant_and_food (fallen cells last p q) in
    let all : AllByRecursion (λ (s : Sighting). among (seen_place s) (places_around q) ≡ true) ((p, whole_ant, last p) ∷ (q, whole_ant, last q) ∷ corpses) =
    (from-beside p q d p_left p_top ahead, (among-self q, sightings_of-all In last ant_and_food (fallen cells last p q) (fallen-all In cells last p q (around-all q)))) in
    let fits = all_sighted-fits ((p, whole_ant, last p) ∷ (q, whole_ant, last q) ∷ corpses) (places_around q) all in
    let same : length (all_sighted [] ((p, whole_ant, last p) ∷ (q, whole_ant, last q) ∷ corpses)) ≡ length (going_writes cells last p q) = ap (λ (list : List Sighting). length (all_sighted list corpses)) (cond-false (same_pos p q) ((p, union whole_ant whole_ant, last p) ∷ []) ((p, whole_ant, last p) ∷ (q, whole_ant, last q) ∷ []) (same_pos_apart p q other)) in
    omega (arith, fits, same, around-length q)
