-- Elements placed one after another.
use Rattle.cell_world.specs.Cell.{one_if}
use Rattle.cell_world.specs.Opening.{IsFed, is_hill}
use Rattle.cell_world.specs.declared.ant.Colour.{Colour}
use Rattle.cell_world.specs.declared.ant.Colour.TheVariants.{Red, Black}
use Rattle.std.proofs.Common.{◌≡◌, ℕ, suc, ◌+◌, ◌*◌, ◌≤◌, min, List, [], ◌∷◌, ◌++◌, length, false, refl, sym, ◌∙◌, ap, arith, subst, inl, inr, append_assoc}
use Rattle.std.proofs.lemmas.Bool.{cond_both}
use Rattle.std.proofs.lemmas.List.{append-nil}
use Rattle.std.specs.Prelude.{nat_lt}
use Rattle.world_gen.specs.Elements.{element_of}
use Rattle.world_gen.specs.FreeSpots.{IsFreeSpot}
use Rattle.world_gen.specs.Generated.{paint_of}
use Rattle.world_gen.specs.Placing.{Follow, Goes, HasNone, IsFound, IsChosenSpot, after_begun, figure_begun, tried_figure}
use Rattle.world_gen.specs.declared.element.Element.{Element}
use Rattle.world_gen.specs.declared.element.Element.TheVariants as element
use Rattle.world_gen.specs.declared.shape.Shape.{Shape}
use Rattle.world_gen.specs.declared.spot.Figure.{Figure}
use Rattle.world_gen.specs.declared.spot.Figure.TheVariants.{Hill, Rock, Blob}
use Rattle.world_gen.specs.declared.spot.Spot.{Spot}

-- if one test holds exactly as another does, an element goes to the same spot
taken_as : (P Q : Spot → Type 0) (into : (s : Spot) → P s → Q s) (back : (s : Spot) → Q s → P s) (seed width height : ℕ) (figure : Figure) (g : ℕ) (spot : Spot) (after : ℕ)
    → IsChosenSpot P seed width height figure g spot after → IsChosenSpot Q seed width height figure g spot after
taken_as P Q into back seed width height figure g spot after t = record { try = t.try; below = t.below; is = t.is; fitting = into spot t.fitting; first = λ k h q. t.first k h (back _ q); drew = t.drew }

found_as : (P Q : Spot → Type 0) (into : (s : Spot) → P s → Q s) (back : (s : Spot) → Q s → P s) (seed width height : ℕ) (figure : Figure) (g : ℕ) (spot : Spot) (after : ℕ)
    → IsFound P seed width height figure g spot after → IsFound Q seed width height figure g spot after
found_as P Q into back seed width height figure g spot after f = record {
  no_try = λ k h q. f.no_try k h (back _ q);
  place = f.place;
  inside = f.inside;
  is = f.is;
  fitting = into spot f.fitting;
  first = λ p inside before q. f.first p inside before (back _ q);
  drew = f.drew;
}

pub goes_as : (P Q : Spot → Type 0) (into : (s : Spot) → P s → Q s) (back : (s : Spot) → Q s → P s) (seed width height : ℕ) (e : Element) (g : ℕ) (spot : Spot) (after : ℕ)
    → Goes P seed width height e g spot after → Goes Q seed width height e g spot after
goes_as P Q into back seed width height e g spot after goes =
    elim goes [
      | inl t ↦ inl (taken_as P Q into back seed width height (figure_begun seed g e) (after_begun g e) spot after t)
      | inr f ↦ inr (found_as P Q into back seed width height (figure_begun seed g e) (after_begun g e) spot after f)
    ]

pub none_as : (P Q : Spot → Type 0) (back : (s : Spot) → Q s → P s) (seed width height : ℕ) (e : Element) (g : ℕ) → HasNone P seed width height e g → HasNone Q seed width height e g
none_as P Q back seed width height e g none = record { no_try = λ k h q. none.no_try k h (back _ q); no_place = λ p inside q. none.no_place p inside (back _ q) }

-- it fits where it goes
pub goes_fits : (P : Spot → Type 0) (seed width height : ℕ) (e : Element) (g : ℕ) (spot : Spot) (after : ℕ) → Goes P seed width height e g spot after → P spot
goes_fits P seed width height e g spot after goes = elim goes [ inl t ↦ t.fitting | inr f ↦ f.fitting ]

-- one element after the others
pub follow_more : (seed : ℕ) (shape : Shape) (placed : List Spot) (g : ℕ) (rest : List Spot) (after : ℕ) (spot : Spot) (next : ℕ)
    → Follow seed shape placed g rest after → Goes (IsFreeSpot shape.width shape.height (placed ++ rest)) seed shape.width shape.height (element_of shape (length (placed ++ rest))) after spot next
    → Follow seed shape placed g (rest ++ spot ∷ []) next
follow_more seed shape placed g [] after spot next same goes =
    let here : Goes (IsFreeSpot shape.width shape.height placed) seed shape.width shape.height (element_of shape (length placed)) after spot next =
    subst (λ l. Goes (IsFreeSpot shape.width shape.height l) seed shape.width shape.height (element_of shape (length l)) after spot next) (append-nil placed) goes in
    (next, subst (λ n. Goes (IsFreeSpot shape.width shape.height placed) seed shape.width shape.height (element_of shape (length placed)) n spot next) (sym same) here, refl)
follow_more seed shape placed g (one ∷ rest) after spot next follow goes =
    let moved : Goes (IsFreeSpot shape.width shape.height ((placed ++ one ∷ []) ++ rest)) seed shape.width shape.height (element_of shape (length ((placed ++ one ∷ []) ++ rest))) after spot next =
    subst (λ l. Goes (IsFreeSpot shape.width shape.height l) seed shape.width shape.height (element_of shape (length l)) after spot next) (sym (append_assoc placed (one ∷ []) rest)) goes in
    (follow.0, follow.1, follow_more seed shape (placed ++ one ∷ []) follow.0 rest after spot next follow.2 moved)

-- the cells of each element are of a kind that a world may have
hill_fed : (colour : Colour) → IsFed (paint_of (Hill colour))
hill_fed Red = tt
hill_fed Black = tt

pub paint_fed : (figure : Figure) → IsFed (paint_of figure)
paint_fed (Hill colour) = hill_fed colour
paint_fed (Rock radius) = tt
paint_fed (Blob first) = (omega arith, omega arith)

-- only the first two elements are hills
tried_no_hill : (seed i g : ℕ) (e : Element) → is_hill (paint_of (figure_begun seed g e)) ≡ false → is_hill (paint_of (tried_figure seed i (figure_begun seed g e))) ≡ false
tried_no_hill seed i g (element.Hill colour) off = off
tried_no_hill seed i g it off = refl

late_no_hill : (seed g : ℕ) (shape : Shape) (n : ℕ) → is_hill (paint_of (figure_begun seed g (element_of shape (suc (suc n))))) ≡ false
late_no_hill seed g shape n =
    cond_both (nat_lt n shape.rocks) element.Rock element.Blob (λ (e : Element). is_hill (paint_of (figure_begun seed g e)) ≡ false) (λ h. refl) (λ h. refl)

goes_no_hill : (P : Spot → Type 0) (seed width height : ℕ) (e : Element) (g : ℕ) (spot : Spot) (after : ℕ) → Goes P seed width height e g spot after → is_hill (paint_of (figure_begun seed g e)) ≡ false
    → is_hill (paint_of spot.figure) ≡ false
goes_no_hill P seed width height e g spot after goes off =
    elim goes [
      | inl t ↦ ap (λ (s : Spot). is_hill (paint_of s.figure)) t.is ∙ tried_no_hill seed _ g e off
      | inr f ↦ ap (λ (s : Spot). is_hill (paint_of s.figure)) f.is ∙ off
    ]

-- so there are at most this many hill cells after n elements
pub hills_step : (P : Spot → Type 0) (seed : ℕ) (shape : Shape) (n g : ℕ) (spot : Spot) (after : ℕ) (old new cells : ℕ) → Goes P seed shape.width shape.height (element_of shape n) g spot after
    → old ≤ 127 * min n 2 → one_if (is_hill (paint_of spot.figure)) * cells ≤ 127 → new ≤ old + one_if (is_hill (paint_of spot.figure)) * cells → new ≤ 127 * min (n + 1) 2
hills_step P seed shape (suc (suc n)) g spot after old new cells goes few one more =
    let off : is_hill (paint_of spot.figure) ≡ false = goes_no_hill P seed shape.width shape.height (element_of shape (suc (suc n))) g spot after goes (late_no_hill seed g shape n) in
    let none : one_if (is_hill (paint_of spot.figure)) ≡ 0 = ap one_if off in
    let less : new ≤ old + 0 * cells = subst (λ t. new ≤ old + t * cells) none more in
    omega arith
hills_step it seed shape that g spot after old new cells goes few one more = omega arith
