-- the search finds the cell that holds the ant
use Rattle.std.proofs.Common.{◌≡◌, IsSome, ℕ, true, Option, Some, None, refl, ap}
use Rattle.std.specs.Option.{is_some}
use Rattle.hex_geometry.specs.declared.position.Pos.{Pos}
use Rattle.cell_world.specs.Cell.{holds_id}
use Rattle.cell_world.specs.World.{World, place_in}
use Rattle.cell_world.proofs.Places.{holds_id-own, place_in-found, place_in-holds, place_in-none, place_in-nowhere}
use Rattle.cell_world.proofs.ground_laws.place_is_cell.Goals as goal

-- an ant with a place is held by the cell there
somewhere : (w : World) (t : ℕ) → IsSome (place_in w t) → (p : Pos) × (holds_id t (w.cells p) ≡ true)
somewhere w t some = go (place_in w t) refl some where
  go : (o : Option Pos) → place_in w t ≡ o → IsSome o → (p : Pos) × (holds_id t (w.cells p) ≡ true)
  go None is some = absurd (cc)
  go (Some p) is some = (p, place_in-holds w t p is)

pub returns : goal.returns
returns c = record {
  place = λ w t p valid. (place_in-holds w t p, place_in-found w t p valid);
  somewhere = λ w t valid. (somewhere w t, λ held. ap is_some (place_in-found w t held.0 valid held.1));
  one = λ w t p q valid. valid.once t p q;
  own = λ w p ant valid is. place_in-found w ant.id p valid (holds_id-own (w.cells p) ant is);
  nowhere = λ w t valid. (λ none p. place_in-none w t p valid none, place_in-nowhere w t);
}
