-- What holds where an ant is at its place.
use Rattle.std.proofs.Common.{◌≡◌, ℕ, ◌≤◌, false, Some, refl, sym, ◌∙◌, ap, ap₂, subst}
use Rattle.std.specs.Option.{IsSomeAnd}
use Rattle.hex_geometry.specs.declared.position.Pos.{Pos}
use Rattle.hex_geometry.proofs.Places.{inner_inside}
use Rattle.cell_world.specs.declared.ant.Ant.{Ant}
use Rattle.cell_world.specs.declared.cell.Cell.{Cell}
use Rattle.cell_world.specs.Cell.{HasMarksOfSix}
use Rattle.cell_world.specs.Limits.{most_weight}
use Rattle.cell_world.specs.Valid.{Valid, CanSet, CanThink, SameBody}
use Rattle.cell_world.specs.Inner.Replaces.{Replaces}
use Rattle.cell_world.specs.World.{World, with_cells, put}
use Rattle.cell_world.proofs.Places.{ant-clear, clear_has_neighbours}
use Rattle.cell_world.proofs.ValidLemmas.{CanSet-replaces}
use Rattle.cell_world.proofs.Weights.{food-light}
use Rattle.brain_read.specs.Soundness.{IsSound}
use Rattle.brain_read.specs.declared.instr.Instr.{Instr}
use Rattle.ant_turn.specs.Sheet.{Sheet}
use Rattle.ant_turn.specs.Inner.Stands.{StandsAt}
use Rattle.ant_turn.specs.Turn.{is_blocked, left_by_ant, with_ant, arrived, stepped}
use Rattle.ant_turn.proofs.OwnCells.{Stays, stays_replaces}
use Rattle.ant_turn.proofs.KeptByTurns.{HasMarksOfSix-left, Replaces-left_by_ant, CanSet-arrived}

-- an ant that a cell of a world holds is there
pub StandsAt-there : (w : World) (p : Pos) (cell : Cell) (ant : Ant) → Valid w → cell ≡ w.cells p → cell.ant ≡ Some ant → StandsAt w p cell ant
StandsAt-there w p cell ant valid here holds =
    let clear : (w.cells p).rocky ≡ false = ant-clear w p ant valid (ap (λ (c : Cell). c.ant) (sym here) ∙ holds) in
    record {
      valid = valid;
      here = here;
      holds = holds;
      clear = ap (λ (c : Cell). c.rocky) here ∙ clear;
      inner = valid.rim p clear;
      near = clear_has_neighbours w p valid clear;
      light = subst (λ (c : Cell). c.food ≤ most_weight) (sym here) (food-light w p valid);
    }

-- likewise on the world's own cell
pub StandsAt-at : (w : World) (p : Pos) (ant : Ant) → Valid w → (w.cells p).ant ≡ Some ant → StandsAt w p (w.cells p) ant
StandsAt-at w p ant valid holds = StandsAt-there w p (w.cells p) ant valid refl holds

-- it stands on the cell that was read
pub own_read : {w : World} {p : Pos} {ant : Ant} {cell : Cell} → StandsAt w p (w.cells p) ant → cell ≡ w.cells p → StandsAt w p cell ant
own_read {w} {p} {ant} stands is = subst (λ c. StandsAt w p c ant) (sym is) stands

module _ {w : World} {p : Pos} {cell : Cell} {ant : Ant} (stands : StandsAt w p cell ant) where
  -- the cell of an ant that stays may replace the one there
  pub own_replaces : {instruction : Instr} {kept : Cell} (new : Cell) → new ≡ kept → Stays instruction cell ant kept → Replaces (w.cells p) new
  own_replaces new is stays =
      subst (λ c. Replaces c new) stands.here (subst (Replaces cell) (sym is) (stays_replaces stays stands.holds))

  -- and its markers are of the six
  pub own_six : {instruction : Instr} {kept : Cell} (new : Cell) (n : ℕ) → new ≡ kept → IsSound n instruction → Stays instruction cell ant kept → HasMarksOfSix new
  own_six new n is sound stays = subst HasMarksOfSix (sym is) (stays.six n sound (subst HasMarksOfSix (sym stands.here) (stands.valid.six p)))

  -- the world's cell is clear
  pub stands_clear : (w.cells p).rocky ≡ false
  stands_clear = ap (λ (c : Cell). c.rocky) (sym stands.here) ∙ stands.clear

  -- the ant is on the world's cell
  pub stands_on : (w.cells p).ant ≡ Some ant
  stands_on = ap (λ (c : Cell). c.ant) (sym stands.here) ∙ stands.holds

  -- another state, rest and direction may be set
  pub own_thinks : (room : ℕ) (after : Ant) → 1 ≤ room → after.id ≡ ant.id → after.colour ≡ ant.colour → after.laden ≡ ant.laden → CanThink w room p after
  own_thinks room after left id colour load = record {
    room_left = left;
    inside = inner_inside stands.inner;
    stands = subst (λ o. IsSomeAnd o (SameBody after)) (sym stands_on) (record { same_id = id; same_colour = colour; same_load = load });
  }

  -- the cell may be set to what the ant leaves
  pub CanSet-left : (room : ℕ) → 1 ≤ room → CanSet w room p (left_by_ant cell)
  CanSet-left room left =
      subst (λ c. CanSet w room p (left_by_ant c)) (sym stands.here)
      (CanSet-replaces w room p (left_by_ant (w.cells p)) stands.valid left stands_clear (Replaces-left_by_ant (w.cells p)) (HasMarksOfSix-left (w.cells p) (stands.valid.six p)))

  -- and then the free cell ahead to what it finds
  pub CanSet-next : (sheet : Sheet) (q : Pos) (there : Cell) (next room : ℕ) → there ≡ w.cells q → is_blocked there ≡ false → 1 ≤ room → CanSet (put w p (left_by_ant cell)) room q (with_ant there (arrived sheet ant next))
  CanSet-next sheet q there next room at free left =
      subst (λ c. CanSet (put w p (left_by_ant c)) room q (with_ant there (arrived sheet ant next))) (sym stands.here)
      (subst (λ c. CanSet (put w p (left_by_ant (w.cells p))) room q (with_ant c (arrived sheet ant next))) (sym at)
      (CanSet-arrived sheet w p ant q next stands.valid stands_on (ap is_blocked (sym at) ∙ free) room left))

  -- which makes the step
  pub stepped-put : (sheet : Sheet) (q : Pos) (there : Cell) (next : ℕ) → there ≡ w.cells q → put (put w p (left_by_ant cell)) q (with_ant there (arrived sheet ant next)) ≡ with_cells w (stepped sheet w.cells p ant q next)
  unfolding stepped
  stepped-put sheet q there next at =
      ap₂ (λ (here : Cell) (c : Cell). put (put w p (left_by_ant here)) q (with_ant c (arrived sheet ant next))) stands.here at
