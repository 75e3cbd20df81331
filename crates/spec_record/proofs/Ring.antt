-- The ring of 19 cells: a position, its neighbours and theirs.
use Rattle.std.proofs.Common.{◌≡◌, ◌≤◌, Bool, true, false, ◌||◌, List, [], ◌∷◌, ◌++◌, length, map, refl, sym, ◌∙◌, ap, subst, arith}
use Rattle.std.proofs.Math.Bool.{or-true}
use Rattle.hex_geometry.specs.declared.position.Pos.{Pos}
use Rattle.hex_geometry.specs.Direction.{directions, opposite, turned_by}
use Rattle.hex_geometry.specs.Neighbourhood.{adjacent_pos, neighbours_of}
use Rattle.hex_geometry.specs.Position.{same_pos}
use Rattle.hex_geometry.specs.declared.direction.Dir.{Dir}
use Rattle.hex_geometry.specs.declared.direction.Dir.TheVariants.{East}
use Rattle.hex_geometry.specs.declared.direction.Side.TheVariants.{Left, Right}
use Rattle.hex_geometry.proofs.Beside.{adjacent_pos_back}
use Rattle.hex_geometry.proofs.Places.{pos_same, same_pos_equal}
use Rattle.ant_turn.specs.Kills.{places_around}
use Rattle.spec_record.proofs.Sighting.{among}

-- the cells two steps on in one direction, and those between two of them
abbrev straight : Pos → Dir → Pos
straight q d = adjacent_pos (adjacent_pos q d) d

abbrev slanted : Pos → Dir → Pos
slanted q d = adjacent_pos (adjacent_pos q d) (turned_by d Right)

-- the ring
unfoldable pub ring : Pos → List Pos
ring q = places_around q ++ (map (straight q) directions ++ map (slanted q) directions)

-- it has 19 cells
pub ring-length : (q : Pos) → length (ring q) ≡ 19
unfolding ring places_around neighbours_of directions
ring-length q = refl

-- seven of them are checked
pub around-length : (q : Pos) → length (places_around q) ≡ 7
unfolding places_around neighbours_of directions
around-length q = refl

among-first : (p q : Pos) (places : List Pos) → q ≡ p → among p (q ∷ places) ≡ true
among-first p q places e = ap (λ b. b || among p places) (same_pos_equal q p e)

among-later : (p q : Pos) (places : List Pos) → among p places ≡ true → among p (q ∷ places) ≡ true
among-later p q places is = ap (λ b. same_pos q p || b) is ∙ or-true (same_pos q p)

among-split : (b c e : Bool) → (b || c) ≡ true → (c ≡ true → e ≡ true) → (b || e) ≡ true
among-split true c e either more = refl
among-split false c e either more = more either

pub among-left : (p : Pos) (some more : List Pos) → among p some ≡ true → among p (some ++ more) ≡ true
among-left p [] more is = absurd (cc)
among-left p (q ∷ some) more is = among-split (same_pos q p) (among p some) (among p (some ++ more)) is (among-left p some more)

among-right : (p : Pos) (some more : List Pos) → among p more ≡ true → among p (some ++ more) ≡ true
among-right p [] more is = is
among-right p (q ∷ some) more is = among-later p q (some ++ more) (among-right p some more is)

-- what each direction brings is among what all bring
among-map : (f : Dir → Pos) (d : Dir) → among (f d) (map f directions) ≡ true
unfolding directions
among-map f East = search (among-first, among-later)
among-map f d = search (among-first, among-later) depth 8

-- the neighbours of a position are among those that are checked around it
pub among-beside : (q : Pos) (d : Dir) → among (adjacent_pos q d) (places_around q) ≡ true
unfolding places_around neighbours_of
among-beside q d = among-later (adjacent_pos q d) q (map (adjacent_pos q) directions) (among-map (adjacent_pos q) d)

-- and so is it itself
pub among-self : (q : Pos) → among q (places_around q) ≡ true
unfolding places_around
among-self q = among-first q q (neighbours_of q) refl

-- these are in the ring
pub ring-around : (q p : Pos) → among p (places_around q) ≡ true → among p (ring q) ≡ true
unfolding ring
ring-around q p is = among-left p (places_around q) (map (straight q) directions ++ map (slanted q) directions) is

ring-straight : (q : Pos) (d : Dir) → among (straight q d) (ring q) ≡ true
unfolding ring
ring-straight q d = among-right (straight q d) (places_around q) (map (straight q) directions ++ map (slanted q) directions) (among-left (straight q d) (map (straight q) directions) (map (slanted q) directions) (among-map (straight q) d))

ring-slanted : (q : Pos) (d : Dir) → among (slanted q d) (ring q) ≡ true
unfolding ring
ring-slanted q d = among-right (slanted q d) (places_around q) (map (straight q) directions ++ map (slanted q) directions) (among-right (slanted q d) (map (straight q) directions) (map (slanted q) directions) (among-map (slanted q) d))

-- two steps, the second turned twice to the right, lead to a neighbour
right_twice : (q : Pos) (d : Dir) → 1 ≤ q.x → 1 ≤ q.y → 1 ≤ (adjacent_pos q d).x → 1 ≤ (adjacent_pos q d).y → adjacent_pos (adjacent_pos q d) (turned_by (turned_by d Right) Right) ≡ adjacent_pos q (turned_by d Right)
unfolding adjacent_pos turned_by
right_twice q East left top in_left in_top = pos_same (omega arith) (omega arith)
right_twice q d left top in_left in_top = pos_same (omega arith) (omega arith)

left_twice : (q : Pos) (d : Dir) → 1 ≤ q.x → 1 ≤ q.y → 1 ≤ (adjacent_pos q d).x → 1 ≤ (adjacent_pos q d).y → adjacent_pos (adjacent_pos q d) (turned_by (turned_by d Left) Left) ≡ adjacent_pos q (turned_by d Left)
unfolding adjacent_pos turned_by
left_twice q East left top in_left in_top = pos_same (omega arith) (omega arith)
left_twice q d left top in_left in_top = pos_same (omega arith) (omega arith)

-- two steps, the second turned to the left, lead where the same two lead in the other order
left_once : (q : Pos) (d : Dir) → 1 ≤ q.x → 1 ≤ q.y → 1 ≤ (adjacent_pos q d).x → 1 ≤ (adjacent_pos q d).y → adjacent_pos (adjacent_pos q d) (turned_by d Left) ≡ slanted q (turned_by d Left)
unfolding adjacent_pos turned_by
left_once q East left top in_left in_top = pos_same (omega arith) (omega arith)
left_once q d left top in_left in_top = pos_same (omega arith) (omega arith)

-- what holds of the six turns of a direction holds of every direction
each_turn : (P : Dir → Dir → Type 0) (d e : Dir) → P d d → P d (turned_by d Right) → P d (turned_by (turned_by d Right) Right) → P d (opposite d) → P d (turned_by (turned_by d Left) Left) → P d (turned_by d Left) → P d e
unfolding turned_by opposite
each_turn P East East a b c x y z = a
each_turn P d East a b c x y z = assumption
each_turn P d e a b c x y z = assumption

-- the neighbours of a neighbour that is not on the rim are in the ring
pub ring-beyond : (q : Pos) (d e : Dir) → 1 ≤ q.x → 1 ≤ q.y → 1 ≤ (adjacent_pos q d).x → 1 ≤ (adjacent_pos q d).y → among (adjacent_pos (adjacent_pos q d) e) (ring q) ≡ true
ring-beyond q d e left top in_left in_top =
    let In : Pos → Type 0 = λ r. among r (ring q) ≡ true in
    each_turn (λ c f. among (adjacent_pos (adjacent_pos q d) f) (ring q) ≡ true) d e
    (ring-straight q d)
    (ring-slanted q d)
    (subst In (sym (right_twice q d left top in_left in_top)) (ring-around q _ (among-beside q (turned_by d Right))))
    (subst In (sym (adjacent_pos_back q d left top)) (ring-around q q (among-self q)))
    (subst In (sym (left_twice q d left top in_left in_top)) (ring-around q _ (among-beside q (turned_by d Left))))
    (subst In (sym (left_once q d left top in_left in_top)) (ring-slanted q (turned_by d Left)))
