-- What is found in cells that were set.
use Rattle.std.proofs.Common.{◌≡◌, inl, inr, ℕ, ◌+◌, ◌<◌, Bool, true, false, cond, [], ◌∷◌, ◌++◌, length, drop, slice_index_or, add-one, Option, Some, None, refl, sym, ap, ◌∙◌}
use Rattle.std.proofs.Math.Seq.{drop-cons}
use Rattle.std.proofs.lemmas.Bool.{cases_Bool, cond-true, cond-false, false_from_ne_true, both_ways}
use Rattle.hex_geometry.specs.declared.position.Pos.{Pos}
use Rattle.hex_geometry.specs.Position.{same_pos}
use Rattle.hex_geometry.proofs.Places.{same_pos_true}
use Rattle.cell_world.specs.declared.cell.Cell.{Cell}
use Rattle.cell_world.specs.Cell.{holds_id}
use Rattle.cell_world.specs.Grid.{world_of}
use Rattle.cell_world.specs.Valid.{Valid}
use Rattle.cell_world.specs.World.{Cells, place_in, put_cell}
use Rattle.cell_world.proofs.Places.{place_in-found, place_in-none, place_in-nowhere}
use Rattle.spec_record.specs.Trail.{Sets, TrailValue, laid, trail_world}
use Rattle.spec_record.specs.Inner.Laid.{first_held, found_holds, newest}

-- nothing is laid over cells by no sets
pub laid-nothing : (cells : Cells) → laid cells [] ≡ cells
unfolding laid
laid-nothing cells = refl

-- the last set comes last
pub laid-last : (cells : Cells) (sets : Sets) (p : Pos) (cell : Cell) → laid cells (sets ++ (p, cell) ∷ []) ≡ put_cell (laid cells sets) p cell
unfolding laid
laid-last cells [] p cell = refl
laid-last cells (new ∷ more) p cell = laid-last (put_cell cells new.0 new.1) more p cell

-- the cell that was found, or this one if none was
abbrev pub or_cell : Option Cell → Cell → Cell
or_cell None cell = cell
or_cell (Some found) cell = found

-- how far the search has got
or_cell-step : (base cells : Cells) (p : Pos) (found : Option Cell) (new : Pos × Cell) (same : Bool) → same_pos new.0 p ≡ same → or_cell found (base p) ≡ cells p →
    or_cell (cond same (Some new.1) found) (base p) ≡ cond same new.1 (cells p)
or_cell-step base cells p found new true at so_far = refl
or_cell-step base cells p found new false at so_far = so_far

-- the cell at a position is the last that was set there
pub laid-newest : (base cells : Cells) (p : Pos) (found : Option Cell) (sets : Sets) → or_cell found (base p) ≡ cells p → laid cells sets p ≡ or_cell (newest found p sets) (base p)
unfolding laid put_cell
laid-newest base cells p found [] so_far = sym so_far
laid-newest base cells p found (new ∷ more) so_far =
    laid-newest base (put_cell cells new.0 new.1) p (cond (same_pos new.0 p) (Some new.1) found) more
    (or_cell-step base cells p found new (same_pos new.0 p) refl so_far)

-- a found cell that holds an ant is the one there
found_holds-or : (cell : Cell) (t : ℕ) (found : Option Cell) → found_holds t found ≡ true → holds_id t (or_cell found cell) ≡ true
found_holds-or cell t None holds = absurd (cc)
found_holds-or cell t (Some other) holds = holds

found_holds-laid : (base : Cells) (t : ℕ) (p : Pos) (sets : Sets) → found_holds t (newest None p sets) ≡ true → holds_id t (laid base sets p) ≡ true
found_holds-laid base t p sets holds =
    ap (holds_id t) (laid-newest base base p None sets refl) ∙ found_holds-or (base p) t (newest None p sets) holds

-- if the search finds an ant, its cell holds it
pub first_held-holds : (base : Cells) (t : ℕ) (all sets : Sets) (p : Pos) → first_held all t sets ≡ Some p → holds_id t (laid base all p) ≡ true
first_held-holds base t all [] p found = absurd (cc)
first_held-holds base t all (new ∷ more) p found =
    elim (cases_Bool (found_holds t (newest None new.0 all))) [
      | inl here ↦ let one : Some new.0 ≡ Some p = sym (cond-true _ _ _ here) ∙ found in let same : new.0 ≡ p = cc in ap (λ q. holds_id t (laid base all q)) (sym same) ∙ found_holds-laid base t new.0 all here
      | inr there ↦ first_held-holds base t all more p (sym (cond-false _ _ _ there) ∙ found)
    ]

-- if it finds none, a position whose last cell holds it is none that was set
first_held-none : (t : ℕ) (all sets : Sets) (p : Pos) → first_held all t sets ≡ None → found_holds t (newest None p all) ≡ true → newest None p sets ≡ None
first_held-none t all [] p none holds = refl
first_held-none t all (new ∷ more) p none holds =
    elim (cases_Bool (found_holds t (newest None new.0 all))) [
      | inl here ↦ let wrong : Some new.0 ≡ None = sym (cond-true _ _ _ here) ∙ none in absurd (cc)
      | inr there ↦ elim (cases_Bool (same_pos new.0 p)) [
        | inl same ↦ let clash : true ≡ false = sym holds ∙ ap (λ q. found_holds t (newest None q all)) (sym (same_pos_true new.0 p same)) ∙ there in absurd (cc)
        | inr apart ↦ ap (λ o. newest o p more) (cond-false _ _ _ apart) ∙ first_held-none t all more p (sym (cond-false _ _ _ there) ∙ none) holds
      ]
    ]

-- an ant that is on no cell that was set is where it was, or nowhere
laid-kept : (base : Cells) (sets : Sets) (t : ℕ) (p : Pos) (found : Option Cell) → first_held sets t sets ≡ None → newest None p sets ≡ found → holds_id t (or_cell found (base p)) ≡ true → holds_id t (base p) ≡ true
laid-kept base sets t p None none is holds = holds
laid-kept base sets t p (Some cell) none is holds = let wrong : Some cell ≡ None = sym is ∙ first_held-none t sets sets p none (ap (found_holds t) is ∙ holds) in absurd (cc)

pub laid-stayed : (base : Cells) (sets : Sets) (t : ℕ) (p : Pos) → first_held sets t sets ≡ None → holds_id t (laid base sets p) ≡ true → holds_id t (base p) ≡ true
laid-stayed base sets t p none holds = laid-kept base sets t p (newest None p sets) none refl (ap (holds_id t) (sym (laid-newest base base p None sets refl)) ∙ holds)

-- the place of an ant of a trail: on the first cell that was set and holds it
pub place_in-set : (trail : TrailValue) (t : ℕ) (p : Pos) → Valid (trail_world trail) → first_held trail.sets t trail.sets ≡ Some p → place_in (trail_world trail) t ≡ Some p
place_in-set trail t p valid found = place_in-found (trail_world trail) t p valid (first_held-holds (world_of trail.base).cells t trail.sets trail.sets p found)

-- or else where it was
pub place_in-left : (trail : TrailValue) (t : ℕ) (p : Pos) → Valid (trail_world trail) → holds_id t ((trail_world trail).cells p) ≡ true → place_in (trail_world trail) t ≡ Some p
place_in-left trail t p valid holds = place_in-found (trail_world trail) t p valid holds

-- or else nowhere: it was dead
pub place_in-was_dead : (trail : TrailValue) (t : ℕ) → Valid (world_of trail.base) → first_held trail.sets t trail.sets ≡ None → place_in (world_of trail.base) t ≡ None → place_in (trail_world trail) t ≡ None
place_in-was_dead trail t valid none dead =
    place_in-nowhere (trail_world trail) t λ p. false_from_ne_true (holds_id t ((trail_world trail).cells p)) λ holds.
    both_ways (holds_id t ((world_of trail.base).cells p)) (place_in-none (world_of trail.base) t p valid dead) (laid-stayed (world_of trail.base).cells trail.sets t p none holds)

-- or its cell was set since
pub place_in-is_gone : (trail : TrailValue) (t : ℕ) (p : Pos) → Valid (world_of trail.base) → first_held trail.sets t trail.sets ≡ None → place_in (world_of trail.base) t ≡ Some p → holds_id t ((trail_world trail).cells p) ≡ false → place_in (trail_world trail) t ≡ None
place_in-is_gone trail t p valid none was gone =
    place_in-nowhere (trail_world trail) t λ q. false_from_ne_true (holds_id t ((trail_world trail).cells q)) λ holds.
    let there : place_in (world_of trail.base) t ≡ Some q = place_in-found (world_of trail.base) t q valid (laid-stayed (world_of trail.base).cells trail.sets t q none holds) in
    let one : Some q ≡ Some p = sym there ∙ was in
    let same : q ≡ p = cc in
    both_ways (holds_id t ((trail_world trail).cells p)) gone (ap (λ r. holds_id t ((trail_world trail).cells r)) (sym same) ∙ holds)

-- the search continues with the next set
pub newest-next : (found : Option Cell) (p : Pos) (sets : Sets) (k : ℕ) (z : Pos × Cell) → k < length sets →
    newest found p (drop k sets) ≡ newest (cond (same_pos (slice_index_or sets k z).0 p) (Some (slice_index_or sets k z).1) found) p (drop (k + 1) sets)
newest-next found p sets k z below =
    ap (newest found p) (drop-cons sets k z below)
    ∙ ap (λ n. newest (cond (same_pos (slice_index_or sets k z).0 p) (Some (slice_index_or sets k z).1) found) p (drop n sets)) (sym (add-one k))
