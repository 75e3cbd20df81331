-- The rim of a world and the positions inside it.
use Rattle.std.proofs.Common.{◌≡◌, ℕ, ◌+◌, false, ◌||◌, ◌==◌, arith}
use Rattle.std.proofs.lemmas.Bool.{eqb-false, ne_eqb, or_from, or_parts}
use Rattle.hex_geometry.specs.Position.{IsInner, IsInside, is_on_rim}
use Rattle.hex_geometry.specs.declared.position.Pos.{Pos}

-- a position inside that isn't on the rim is an inner one
pub off_rim-inner : (width height : ℕ) (p : Pos) → IsInside width height p → is_on_rim width height p ≡ false → IsInner width height p
off_rim-inner width height p inside off =
    let bottom = or_parts (((p.x == 0) || (p.y == 0)) || (p.x + 1 == width)) (p.y + 1 == height) off in
    let right = or_parts ((p.x == 0) || (p.y == 0)) (p.x + 1 == width) bottom.0 in
    let both = or_parts (p.x == 0) (p.y == 0) right.0 in
    let x = eqb-false p.x 0 both.0 in
    let y = eqb-false p.y 0 both.1 in
    let r = eqb-false (p.x + 1) width right.1 in
    let b = eqb-false (p.y + 1) height bottom.1 in
    record { from_left = omega arith; to_right = omega (arith, inside.column); from_top = omega arith; to_bottom = omega (arith, inside.row) }

-- an inner position isn't on the rim
pub inner-off_rim : (width height : ℕ) (p : Pos) → IsInner width height p → is_on_rim width height p ≡ false
inner-off_rim width height p inner =
    let x = ne_eqb p.x 0 (λ e. omega (arith, inner.from_left)) in
    let y = ne_eqb p.y 0 (λ e. omega (arith, inner.from_top)) in
    let r = ne_eqb (p.x + 1) width (λ e. omega (arith, inner.to_right)) in
    let b = ne_eqb (p.y + 1) height (λ e. omega (arith, inner.to_bottom)) in
    or_from (((p.x == 0) || (p.y == 0)) || (p.x + 1 == width)) (p.y + 1 == height)
    (or_from ((p.x == 0) || (p.y == 0)) (p.x + 1 == width) (or_from (p.x == 0) (p.y == 0) x y) r) b
