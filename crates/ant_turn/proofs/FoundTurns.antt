-- The turn of an id, by the ant that a search found.
use Rattle.std.proofs.Common.{◌≡◌, ℕ, false, [], Option, None, Some, sym, ◌∙◌, ap, arith}
use Rattle.std.specs.Prelude.{IfSome, option_map}
use Rattle.std.proofs.lemmas.Option.{same_Some}
use Rattle.cell_world.specs.declared.ant.Ant.{Ant}
use Rattle.cell_world.specs.declared.ant.PlacedAnt.{PlacedAnt}
use Rattle.cell_world.specs.Valid.{Valid}
use Rattle.cell_world.specs.World.{World, place_in}
use Rattle.cell_world.proofs.Places.{place_in-ant}
use Rattle.ant_random.specs.Stream.{SeedAndPlace}
use Rattle.ant_turn.specs.declared.turn.Deed.{Deed}
use Rattle.ant_turn.specs.Minds.{Minds, Fits}
use Rattle.ant_turn.specs.TakesTurn.{TakesTurn}
use Rattle.ant_turn.proofs.FoundAnts.{found-place, found-holds, stream-undrawn}
use Rattle.ant_turn.proofs.Turns.{turn-dead}

-- the ant that was found has the id
pub found-id : (w : World) (t : ℕ) (result : Option PlacedAnt) (it : PlacedAnt) → option_map (λ (s : PlacedAnt). s.place) result ≡ place_in w t
    → IfSome result (λ s. (w.cells s.place).ant ≡ Some s.ant) → result ≡ Some it → it.ant.id ≡ t
found-id w t result it told holds is =
    let held = place_in-ant w t it.place (found-place (place_in w t) result it told is) in
    ap (λ (a : Ant). a.id) (same_Some it.ant held.ant (sym (found-holds w result it holds is) ∙ held.is)) ∙ held.id

-- nothing happens if none was found
pub takes-none : {minds : Minds} {t : ℕ} {w after : World} {room left : ℕ} {s : SeedAndPlace} {deed : Deed} (result : Option PlacedAnt)
    → option_map (λ (s : PlacedAnt). s.place) result ≡ place_in w t → result ≡ None
    → Fits w minds → after ≡ w → left ≡ room → Valid after → deed.drew ≡ false → deed.killed.items ≡ []
    → TakesTurn minds t w after room left s s deed
takes-none {minds} {t} {w} {after} {room} {left} {s} {deed} result told none fit same kept valid drew killed =
    let dead = turn-dead minds s.seed w s.place t (sym told ∙ ap (option_map (λ (it : PlacedAnt). it.place)) none) in
    record {
      world = rw dead same;
      stream = rw dead (stream-undrawn s);
      drew = rw dead drew;
      killed = rw dead killed;
      room = omega (arith, kept);
      valid = valid;
      fit = rw same fit;
    }

-- a turn on the ground in which the ant was found is one on the ground before
pub takes-found : {minds : Minds} {t id : ℕ} {w read after : World} {room kept left : ℕ} {s s' : SeedAndPlace} {deed : Deed}
    → read ≡ w → kept ≡ room → id ≡ t → TakesTurn minds id read after kept left s s' deed → TakesTurn minds t w after room left s s' deed
takes-found {minds} {t} {id} {w} {read} {after} {room} {kept} {left} {s} {s'} {deed} same as_much it taken = rw (← same, ← as_much, ← it) taken
