-- What worlds keep, step after step.
use Rattle.std.proofs.Common.{◌≡◌, ◌<◌, ◌≤◌, false, Some, refl, ◌∙◌, arith}
use Rattle.std.proofs.lemmas.Bool.{both_ways, false_from_ne_true}
use Rattle.std.specs.Prelude.{length}
use Rattle.hex_geometry.specs.declared.position.Pos.{Pos}
use Rattle.cell_world.specs.declared.ant.Ant.{Ant}
use Rattle.cell_world.specs.declared.cell.Cell.{Cell}
use Rattle.cell_world.specs.Cell.{HasMarksOfSix, holds_id}
use Rattle.cell_world.specs.Valid.{Valid}
use Rattle.cell_world.specs.Inner.Replaces.{Replaces}
use Rattle.cell_world.specs.World.{World, put, weight}
use Rattle.cell_world.proofs.ValidLemmas.{put_cell-all, Valid-put, CanSet-replaces, weight-replaces}
use Rattle.ant_turn.specs.Keeps.{Keeps}
use Rattle.ant_turn.specs.Minds.{Minds, Fits, mind_of}

-- a world keeps its own
pub Keeps-self : (minds : Minds) (w : World) → Valid w → Fits w minds → Keeps minds w w
Keeps-self minds w valid fits = record {
  width = refl;
  height = refl;
  ids = refl;
  rocks = λ p. refl;
  hills = λ p. refl;
  dead = λ t dead. dead;
  valid = valid;
  fits = fits;
  no_heavier = omega arith;
}

-- what is kept twice is kept
pub Keeps-then : {minds : Minds} {u v w : World} → Keeps minds u v → Keeps minds v w → Keeps minds u w
Keeps-then {minds} {u} {v} {w} first second = record {
  width = second.width ∙ first.width;
  height = second.height ∙ first.height;
  ids = second.ids ∙ first.ids;
  rocks = λ p. second.rocks p ∙ first.rocks p;
  hills = λ p. second.hills p ∙ first.hills p;
  dead = λ t dead. second.dead t (first.dead t dead);
  valid = second.valid;
  fits = second.fits;
  no_heavier =
      let a : weight v ≤ weight u = first.no_heavier in
      let b : weight w ≤ weight v = second.no_heavier in
      omega arith;
}

-- the brains fit a world with one cell set where they fit that cell's ant
pub Fits-put : (minds : Minds) (w : World) (p : Pos) (cell : Cell) → Fits w minds → ((ant : Ant) → cell.ant ≡ Some ant → ant.state < length (mind_of minds ant.colour)) → Fits (put w p cell) minds
Fits-put minds w p cell fits new = record {
  below = put_cell-all w p cell (λ q c. (ant : Ant) → c.ant ≡ Some ant → ant.state < length (mind_of minds ant.colour)) new (λ q _. fits.below q);
}

-- a world with one cell replaced keeps what it had, if the brains fit the new cell's ant
pub Keeps-put : (minds : Minds) (w : World) (p : Pos) (cell : Cell) → Valid w → Fits w minds → (w.cells p).rocky ≡ false → Replaces (w.cells p) cell → HasMarksOfSix cell → ((ant : Ant) → cell.ant ≡ Some ant → ant.state < length (mind_of minds ant.colour)) → Keeps minds w (put w p cell)
Keeps-put minds w p cell valid fits clear replaces six new = record {
  width = refl;
  height = refl;
  ids = refl;
  rocks = put_cell-all w p cell (λ q c. c.rocky ≡ (w.cells q).rocky) replaces.same_kind (λ q _. refl);
  hills = put_cell-all w p cell (λ q c. c.hill ≡ (w.cells q).hill) replaces.same_hill (λ q _. refl);
  dead = λ t dead. put_cell-all w p cell (λ q c. holds_id t c ≡ false)
      (false_from_ne_true (holds_id t cell) (λ held. both_ways (holds_id t (w.cells p)) (dead p) (replaces.same_ant t held)))
      (λ q _. dead q);
  valid = Valid-put w 1 p cell valid (CanSet-replaces w 1 p cell valid (omega arith) clear replaces six);
  fits = Fits-put minds w p cell fits new;
  no_heavier = weight-replaces w p cell valid clear replaces;
}
