-- The laws of neighbourhood.
use Rattle.hex_geometry.proofs.Places.{inner_inside, pos_same}
use Rattle.hex_geometry.proofs.Turns.{dir_of_number_of, number_of_below, number_of_dir_of}
use Rattle.hex_geometry.specs.Direction.{dir_of, directions, number_of, opposite, turned_by}
use Rattle.hex_geometry.specs.Neighbourhood.{adjacent_point, adjacent_pos, beside_in_even, beside_in_odd, neighbours_of, sensed_pos}
use Rattle.hex_geometry.specs.Position.{IsInner, IsInside, Point, point_of}
use Rattle.hex_geometry.specs.declared.direction.Dir.{Dir}
use Rattle.hex_geometry.specs.declared.direction.Dir.TheVariants.{East, SouthEast, SouthWest, West, NorthWest, NorthEast}
use Rattle.hex_geometry.specs.declared.direction.Side.TheVariants.{Left, Right}
use Rattle.hex_geometry.specs.declared.neighbourhood.Sight.{Sight}
use Rattle.hex_geometry.specs.declared.neighbourhood.Sight.TheVariants.{Here, Ahead, LeftAhead, RightAhead}
use Rattle.hex_geometry.specs.declared.position.Pos.{Pos}
use Rattle.std.proofs.Common.{◌≡◌, ◌≢◌, ℕ, suc, ◌%◌, ◌≤◌, ◌<◌, length, refl, sym, ◌∙◌, ap, arith, subst}
use Rattle.std.proofs.lemmas.Bool.{cond_both, eqb-true, eqb-false}
use Rattle.std.proofs.lemmas.Int.{ints}
use Rattle.std.specs.Prelude.{ℤ, pos, ◌==◌, AllPairs, Contains, slice_get, slice_index_or, Some}

-- a pair of whole numbers
abbrev pair : ℤ → ℤ → Point
pair x y = record { x = x; y = y }

pair_same : {x u y v : ℤ} → x ≡ u → y ≡ v → pair x y ≡ pair u v
pair_same {x} {u} {y} {v} columns rows = ap (λ a. pair a y) columns ∙ ap (pair u) rows

-- if the row is even
even_row : (p : Pos) (d : Dir) → p.y % 2 ≡ 0 → 1 ≤ p.x → 1 ≤ p.y → point_of (adjacent_pos p d) ≡ beside_in_even (pos p.x) (pos p.y) d
unfolding adjacent_pos
even_row p East e hx hy = refl
even_row p SouthEast e hx hy = pair_same (ap pos (omega arith)) refl
even_row p NorthWest e hx hy = pair_same (omega (arith, ints)) (omega (arith, ints))
even_row p NorthEast e hx hy = pair_same (ap pos (omega arith)) (omega (arith, ints))
even_row p it e hx hy = pair_same (omega (arith, ints)) refl

-- if the row is odd
odd_row : (p : Pos) (d : Dir) → p.y % 2 ≡ 1 → 1 ≤ p.x → 1 ≤ p.y → point_of (adjacent_pos p d) ≡ beside_in_odd (pos p.x) (pos p.y) d
unfolding adjacent_pos
odd_row p East e hx hy = refl
odd_row p West e hx hy = pair_same (omega (arith, ints)) refl
odd_row p NorthWest e hx hy = pair_same (ap pos (omega arith)) (omega (arith, ints))
odd_row p NorthEast e hx hy = pair_same (ap pos (omega arith)) (omega (arith, ints))
odd_row p it e hx hy = pair_same (ap pos (omega arith)) refl

-- the neighbour of a position is what the table says of it as a pair of whole numbers
pub adjacent_pos_table : (p : Pos) (d : Dir) → 1 ≤ p.x → 1 ≤ p.y → point_of (adjacent_pos p d) ≡ adjacent_point (point_of p) d
unfolding adjacent_point
adjacent_pos_table p d hx hy =
    cond_both (p.y % 2 == 0) (beside_in_even (pos p.x) (pos p.y) d) (beside_in_odd (pos p.x) (pos p.y) d)
    (λ z. point_of (adjacent_pos p d) ≡ z)
    (λ even. even_row p d (eqb-true _ _ even) hx hy)
    (λ odd. let uneven : p.y % 2 ≢ 0 = eqb-false _ _ odd in odd_row p d (omega arith) hx hy)

-- the opposite direction leads back
pub adjacent_pos_back : (p : Pos) (d : Dir) → 1 ≤ p.x → 1 ≤ p.y → adjacent_pos (adjacent_pos p d) (opposite d) ≡ p
unfolding adjacent_pos opposite
adjacent_pos_back p East hx hy = pos_same (omega arith) refl
adjacent_pos_back p SouthEast hx hy = pos_same (omega arith) (omega arith)
adjacent_pos_back p West hx hy = pos_same (omega arith) refl
adjacent_pos_back p it hx hy = pos_same (omega arith) (omega arith)

-- a neighbour is another position
pub adjacent_pos_moves : (p : Pos) (d : Dir) → 1 ≤ p.x → 1 ≤ p.y → adjacent_pos p d ≢ p
unfolding adjacent_pos
adjacent_pos_moves p East hx hy e = let columns = ap (λ q. q.x) e in omega (arith, columns)
adjacent_pos_moves p SouthEast hx hy e = let rows = ap (λ q. q.y) e in omega (arith, rows)
adjacent_pos_moves p West hx hy e = let columns = ap (λ q. q.x) e in omega (arith, columns)
adjacent_pos_moves p it hx hy e = let rows = ap (λ q. q.y) e in omega (arith, rows)

-- the neighbours of a position that is not on the rim are inside
pub adjacent_pos_inside : {w h : ℕ} {p : Pos} (d : Dir) → IsInner w h p → IsInside w h (adjacent_pos p d)
unfolding adjacent_pos
adjacent_pos_inside East inner = record { column = omega (arith, inner); row = omega (arith, inner) }
adjacent_pos_inside it inner = record { column = omega (arith, inner); row = omega (arith, inner) }

-- neighbours in two directions are two positions
pub adjacent_pos_one : (p : Pos) (d e : Dir) → 1 ≤ p.x → 1 ≤ p.y → adjacent_pos p d ≡ adjacent_pos p e → d ≡ e
unfolding adjacent_pos
adjacent_pos_one p East East hx hy same = refl
adjacent_pos_one p SouthEast SouthEast hx hy same = refl
adjacent_pos_one p SouthWest SouthWest hx hy same = refl
adjacent_pos_one p West West hx hy same = refl
adjacent_pos_one p NorthWest NorthWest hx hy same = refl
adjacent_pos_one p NorthEast NorthEast hx hy same = refl
adjacent_pos_one p d e hx hy same = absurd (let columns = ap (λ q. q.x) same in let rows = ap (λ q. q.y) same in omega (arith, columns, rows))

-- what an ant that is not on the rim senses is inside
pub sensed_pos_inside : {w h : ℕ} {p : Pos} (d : Dir) (sight : Sight) → IsInner w h p → IsInside w h (sensed_pos p d sight)
unfolding sensed_pos
sensed_pos_inside d Here inner = inner_inside inner
sensed_pos_inside d Ahead inner = adjacent_pos_inside d inner
sensed_pos_inside d LeftAhead inner = adjacent_pos_inside (turned_by d Left) inner
sensed_pos_inside d RightAhead inner = adjacent_pos_inside (turned_by d Right) inner

-- there are six neighbours
pub neighbours_of_length : (p : Pos) → length (neighbours_of p) ≡ 6
unfolding neighbours_of directions
neighbours_of_length p = refl

-- the neighbour at a place of the list is the one in the direction of that number
pub neighbours_of_at : (p : Pos) (k : ℕ) (z : Pos) → k < 6 → slice_index_or (neighbours_of p) k z ≡ adjacent_pos p (dir_of k)
unfolding neighbours_of directions
neighbours_of_at p (suc (suc (suc (suc (suc (suc k)))))) z below = absurd (omega arith)
neighbours_of_at p it z below = refl

-- so the list has it at that place
pub neighbours_of_get : (p : Pos) (k : ℕ) → k < 6 → slice_get (neighbours_of p) k ≡ Some (adjacent_pos p (dir_of k))
unfolding neighbours_of directions
neighbours_of_get p (suc (suc (suc (suc (suc (suc k)))))) below = absurd (omega arith)
neighbours_of_get p it below = refl

-- the neighbour in each direction is among them
pub neighbours_of_contains : (p : Pos) (d : Dir) → Contains (neighbours_of p) (adjacent_pos p d)
neighbours_of_contains p d =
    let below = number_of_below d in
    let short : number_of d < length (neighbours_of p) = rw neighbours_of_length below in
    (number_of d, short, neighbours_of_at p (number_of d) (adjacent_pos p d) below ∙ ap (adjacent_pos p) (dir_of_number_of d))

-- and nothing else is
pub neighbours_of_only : (p q : Pos) → Contains (neighbours_of p) q → (d : Dir) × (adjacent_pos p d ≡ q)
neighbours_of_only p q found =
    let below : found.0 < 6 = omega (arith, found.1, neighbours_of_length p) in
    (dir_of found.0, sym (neighbours_of_at p found.0 q below) ∙ found.2)

-- a neighbour's neighbours have the position among them
pub neighbours_of_mutual : (p q : Pos) → 1 ≤ p.x → 1 ≤ p.y → Contains (neighbours_of p) q → Contains (neighbours_of q) p
neighbours_of_mutual p q hx hy found =
    let way = neighbours_of_only p q found in
    let back : adjacent_pos q (opposite way.0) ≡ p = subst (λ r. adjacent_pos r (opposite way.0) ≡ p) way.1 (adjacent_pos_back p way.0 hx hy) in
    subst (Contains (neighbours_of q)) back (neighbours_of_contains q (opposite way.0))

-- the six are pairwise two
pub neighbours_of_distinct : (p : Pos) → 1 ≤ p.x → 1 ≤ p.y → AllPairs ◌≢◌ (neighbours_of p)
neighbours_of_distinct p hx hy j k z before within same =
    let high : k < 6 = omega (arith, neighbours_of_length p) in
    let low : j < 6 = omega arith in
    let place : adjacent_pos p (dir_of j) ≡ adjacent_pos p (dir_of k) = sym (neighbours_of_at p j z low) ∙ same ∙ neighbours_of_at p k z high in
    let ways : dir_of j ≡ dir_of k = adjacent_pos_one p _ _ hx hy place in
    let places : j ≡ k = sym (number_of_dir_of j low) ∙ ap number_of ways ∙ number_of_dir_of k high in
    omega arith
