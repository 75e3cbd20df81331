-- A rim of rock: what is on the rim is rock exactly if what isn't rock isn't on it.
use Rattle.std.proofs.Common.{◌≡◌, inl, inr, ℕ, ◌<◌, true, false, List, refl, sym, ◌∙◌, ap}
use Rattle.std.proofs.lemmas.Bool.{cases_Bool, false≢true}
use Rattle.hex_geometry.specs.declared.position.Pos.{Pos}
use Rattle.hex_geometry.specs.Position.{IsInner, IsInside, is_on_rim}
use Rattle.hex_geometry.proofs.Rim.{inner-off_rim, off_rim-inner}
use Rattle.cell_world.specs.declared.kind.Kind.{Kind}
use Rattle.cell_world.specs.declared.kind.Kind.TheVariants.{Rock, Clear, RedHill, BlackHill, Food}
use Rattle.cell_world.specs.Opening.{is_rock, kind_at}

rock_of : (kind : Kind) → (is_rock kind ≡ false → ⊥) → kind ≡ Rock
rock_of Rock never = refl
rock_of Clear never = absurd (never refl)
rock_of RedHill never = absurd (never refl)
rock_of BlackHill never = absurd (never refl)
rock_of (Food n) never = absurd (never refl)

module _ (width height : ℕ) (kinds : List Kind) where
  pub rim_rock : ((p : Pos) → IsInside width height p → is_rock (kind_at width kinds p) ≡ false → IsInner width height p)
      → (p : Pos) → p.x < width → p.y < height → is_on_rim width height p ≡ true → kind_at width kinds p ≡ Rock
  rim_rock inner p column row on = rock_of (kind_at width kinds p) λ clear.
      false≢true (sym (inner-off_rim width height p (inner p (record { column = column; row = row }) clear)) ∙ on)

  pub clear_inner : ((p : Pos) → p.x < width → p.y < height → is_on_rim width height p ≡ true → kind_at width kinds p ≡ Rock)
      → (p : Pos) → IsInside width height p → is_rock (kind_at width kinds p) ≡ false → IsInner width height p
  clear_inner rim p inside clear = elim (cases_Bool (is_on_rim width height p)) [
    | inl on ↦ absurd (false≢true (sym clear ∙ ap is_rock (rim p inside.column inside.row on)))
    | inr off ↦ off_rim-inner width height p inside off
  ]
