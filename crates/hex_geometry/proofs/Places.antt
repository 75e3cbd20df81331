-- The laws of positions.
use Rattle.hex_geometry.specs.Position.{HasNeighbours, IsInner, IsInside, same_pos}
use Rattle.hex_geometry.specs.declared.position.Pos.{Pos}
use Rattle.std.proofs.Common.{◌≡◌, ◌≢◌, ℕ, ◌≤◌, ◌==◌, true, false, refl, sym, ◌∙◌, ap, arith, subst}
use Rattle.std.proofs.lemmas.Bool.{and_parts, and_from, eqb-true, eq-eqb, false_from_ne_true, false≢true}

-- a position by its column and row
abbrev pub at : ℕ → ℕ → Pos
at x y = record { x = x; y = y }

-- positions with one column and one row are one
pub pos_same : {p q : Pos} → p.x ≡ q.x → p.y ≡ q.y → p ≡ q
pos_same {p} {q} columns rows = ap (λ x. at x p.y) columns ∙ ap (at q.x) rows

-- if the test holds, the positions are one
pub same_pos_true : (p q : Pos) → same_pos p q ≡ true → p ≡ q
unfolding same_pos
same_pos_true p q same =
    let both = and_parts (p.x == q.x) (p.y == q.y) same in
    pos_same (eqb-true p.x q.x both.0) (eqb-true p.y q.y both.1)

-- it holds of a position and itself
pub same_pos_self : (p : Pos) → same_pos p p ≡ true
unfolding same_pos
same_pos_self p = and_from _ _ (eq-eqb p.x p.x refl) (eq-eqb p.y p.y refl)

-- it holds of positions that are one
pub same_pos_equal : (p q : Pos) → p ≡ q → same_pos p q ≡ true
same_pos_equal p q e = subst (λ r. same_pos p r ≡ true) e (same_pos_self p)

-- if it does not hold, the positions are two
pub same_pos_false : (p q : Pos) → same_pos p q ≡ false → p ≢ q
same_pos_false p q apart e = false≢true (sym apart ∙ same_pos_equal p q e)

-- it does not hold of two positions
pub same_pos_apart : (p q : Pos) → p ≢ q → same_pos p q ≡ false
same_pos_apart p q apart = false_from_ne_true (same_pos p q) (λ same. apart (same_pos_true p q same))

-- a position that is not on the rim is inside
pub inner_inside : {w h : ℕ} {p : Pos} → IsInner w h p → IsInside w h p
inner_inside inner = record { column = omega (arith, inner); row = omega (arith, inner) }

-- and its neighbours are positions too, in a world of at most 65,536 columns and rows
pub inner_has_neighbours : {w h : ℕ} {p : Pos} → IsInner w h p → w ≤ 65536 → h ≤ 65536 → HasNeighbours p
inner_has_neighbours inner wide high =
    record { from_left = inner.from_left; to_right = omega (arith, inner); from_top = inner.from_top; to_bottom = omega (arith, inner) }
