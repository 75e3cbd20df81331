-- Tries, and the search after them.
use Rattle.hex_geometry.specs.Position.{IsInside}
use Rattle.std.proofs.Common.{◌≡◌, ℕ, ◌+◌, ◌*◌, sym, ◌∙◌, ap, arith, subst, inl, inr}
use Rattle.std.proofs.lemmas.Bool.{cases_lt}
use Rattle.std.specs.Prelude.{Option, Some, None}
use Rattle.world_gen.specs.Inner.Answers.{IsChosen, IsSearched, IsTried}
use Rattle.world_gen.specs.Placing.{NoTryFits, after_begun, figure_begun, draws_of, tried_at, try_of}
use Rattle.world_gen.specs.declared.element.Element.{Element}
use Rattle.world_gen.specs.declared.spot.Figure.{Figure}
use Rattle.world_gen.specs.declared.spot.Spot.{Spot}

-- one try more that doesn't fit
pub tries_more : (fits : Spot → Type 0) (seed seed_now width height : ℕ) (figure : Figure) (g g_now n : ℕ) (spot : Spot) → seed_now ≡ seed → g_now ≡ g + n * draws_of figure → spot ≡ tried_at seed_now width height figure g_now
    → NoTryFits fits seed width height figure g n → (fits spot → ⊥) → NoTryFits fits seed width height figure g (n + 1)
tries_more fits seed seed_now width height figure g g_now n spot same_seed place is before unfit k below fitting =
    let one : spot ≡ try_of seed width height figure g n = is ∙ ap (λ s. tried_at s width height figure g_now) same_seed ∙ ap (λ i. tried_at seed width height figure i) place in
    elim (cases_lt k n) [
      | inl h ↦ before k h fitting
      | inr h ↦ let same : k ≡ n = omega arith in unfit (subst fits (sym one) (subst (λ j. fits (try_of seed width height figure g j)) same fitting))
    ]

-- the grid was searched after 50 tries
searched : (fits : Spot → Type 0) (seed width height : ℕ) (e : Element) (g after : ℕ) (r : Option Spot) → NoTryFits fits seed width height (figure_begun seed g e) (after_begun g e) 50 → after ≡ after_begun g e + 50 * draws_of (figure_begun seed g e)
    → IsSearched fits (figure_begun seed g e) (IsInside width height) r → IsChosen fits seed width height e g r after
searched fits seed width height e g after (Some spot) none drew found =
    inr (record { no_try = none; place = found.place; inside = found.among; is = found.is; fitting = found.fitting; first = found.first; drew = drew })
searched fits seed width height e g after None none drew found = record { no_try = none; no_place = found }

pub search_chosen : (fits : Spot → Type 0) (seed seed_now width height : ℕ) (e : Element) (g g_now after : ℕ) (figure : Figure) (r : Option Spot) → seed_now ≡ seed → g_now ≡ after_begun g e → figure ≡ figure_begun seed g e
    → IsTried fits seed_now width height figure g_now None after → IsSearched fits figure (IsInside width height) r → IsChosen fits seed width height e g r after
search_chosen fits seed seed_now width height e g g_now after figure r same_seed place is tried found =
    let a : IsTried fits seed width height figure g_now None after = subst (λ s. IsTried fits s width height figure g_now None after) same_seed tried in
    let b : IsTried fits seed width height figure (after_begun g e) None after = subst (λ i. IsTried fits seed width height figure i None after) place a in
    let d : IsTried fits seed width height (figure_begun seed g e) (after_begun g e) None after = subst (λ (f : Figure). IsTried fits seed width height f (after_begun g e) None after) is b in
    searched fits seed width height e g after r d.0 d.1 (subst (λ (f : Figure). IsSearched fits f (IsInside width height) r) is found)
