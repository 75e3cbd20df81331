-- What a turn keeps of a world.
use Rattle.std.proofs.Common.{◌≡◌, ◌≢◌, inl, inr, ℕ, ◌+◌, ◌<◌, ◌≤◌, false, Option, Some, None, List, length, refl, sym, ◌∙◌, ap, subst, arith}
use Rattle.std.proofs.lemmas.Bool.{false_from_ne_true, or_parts}
use Rattle.std.proofs.lemmas.Option.{slice_get-get_or}
use Rattle.hex_geometry.specs.declared.position.Pos.{Pos}
use Rattle.hex_geometry.specs.Neighbourhood.{adjacent_pos}
use Rattle.cell_world.specs.declared.ant.Ant.{Ant}
use Rattle.cell_world.specs.declared.ant.Colour.{Colour}
use Rattle.cell_world.specs.declared.ant.Colour.TheVariants.{Red, Black}
use Rattle.cell_world.specs.declared.cell.Cell.{Cell}
use Rattle.cell_world.specs.Cell.{HasMarksOfSix, holds_id, is_ant, cell_weight, ant_weight, one_if}
use Rattle.cell_world.specs.Valid.{Valid, CanSet}
use Rattle.cell_world.specs.Inner.Replaces.{Replaces}
use Rattle.cell_world.specs.Limits.{most_weight}
use Rattle.cell_world.specs.World.{Cells, World, with_cells, put, put_cell, weight}
use Rattle.cell_world.proofs.Places.{ant-clear, clear_inside, holds_id-own}
use Rattle.cell_world.proofs.Puts.{put_cell-other}
use Rattle.cell_world.proofs.ValidLemmas.{HasMarksOfSix-same, put_cell-all, Valid-put}
use Rattle.cell_world.proofs.Weights.{weight-put_two}
use Rattle.brain_read.specs.declared.instr.Instr.{Instr}
use Rattle.brain_read.specs.declared.instr.Instr.TheVariants.{Drop}
use Rattle.brain_read.specs.Soundness.{IsSound, IsBrain}
use Rattle.ant_turn.specs.Keeps.{Keeps}
use Rattle.ant_turn.specs.Kills.{check_all, check_around_at, places_around}
use Rattle.ant_turn.specs.Minds.{Minds, Fits, AreSound, mind_of}
use Rattle.ant_turn.specs.Sheet.{Sheet}
use Rattle.ant_turn.specs.Turn.{Outcome, arrived, execute, has_ant, instruction_at, is_blocked, left_by_ant, stepped, turn, with_ant}
use Rattle.ant_turn.proofs.KeptByChecks.{Outlives, check_all-outlives, check_all-holds_id, check_all-Valid, check_all-weight, check_all-Fits}
use Rattle.ant_turn.proofs.KeepsLemmas.{Keeps-self, Keeps-then, Keeps-put, Fits-put}
use Rattle.ant_turn.proofs.OwnCells.{Stays, stays_replaces}
use Rattle.ant_turn.proofs.TurnParts.{Does, execute_parts, turn_parts}

-- what holds no ant holds none
no_ant : (o : Option Ant) → has_ant o ≡ false → o ≡ None
no_ant None e = refl
no_ant (Some ant) e = absurd (cc)

-- a cell onto which an ant can move is clear
pub free_clear : (cell : Cell) → is_blocked cell ≡ false → cell.rocky ≡ false
free_clear cell free = (or_parts cell.rocky (has_ant cell.ant) free).0

-- and holds no ant
pub free_empty : (cell : Cell) → is_blocked cell ≡ false → cell.ant ≡ None
free_empty cell free = no_ant cell.ant (or_parts cell.rocky (has_ant cell.ant) free).1

-- so it isn't the cell of an ant
pub free_apart : (cells : Cells) (p : Pos) (ant : Ant) (q : Pos) → (cells p).ant ≡ Some ant → is_blocked (cells q) ≡ false → p ≢ q
free_apart cells p ant q is free one =
    let e : Some ant ≡ None = sym is ∙ ap (λ r. (cells r).ant) one ∙ free_empty (cells q) free in cc

-- the cell that an ant left may replace the cell before
pub Replaces-left_by_ant : (cell : Cell) → Replaces cell (left_by_ant cell)
unfolding cell_weight
Replaces-left_by_ant cell = record {
  same_kind = refl;
  same_hill = refl;
  same_ant = λ t held. absurd (cc);
  no_heavier = omega arith;
}

-- and has its markers
pub HasMarksOfSix-left : (cell : Cell) → HasMarksOfSix cell → HasMarksOfSix (left_by_ant cell)
HasMarksOfSix-left cell six = HasMarksOfSix-same cell (left_by_ant cell) refl refl six

-- a step of an ant from p to q, onto which it can move
module _ (sheet : Sheet) (w : World) (p : Pos) (ant : Ant) (q : Pos) (next : ℕ) (valid : Valid w) (is : (w.cells p).ant ≡ Some ant) (free : is_blocked (w.cells q) ≡ false) where
  -- no ant is heavier or lighter for it
  pub step_weight : weight (put (put w p (left_by_ant (w.cells p))) q (with_ant (w.cells q) (arrived sheet ant next))) ≡ weight w
  unfolding cell_weight
  step_weight =
      let here : Cell = left_by_ant (w.cells p) in
      let there : Cell = with_ant (w.cells q) (arrived sheet ant next) in
      let both : weight (put (put w p here) q there) + (cell_weight (w.cells p) + cell_weight (w.cells q)) ≡ weight w + (cell_weight here + cell_weight there) =
      weight-put_two w p here q there (free_apart w.cells p ant q is free) (clear_inside w p valid (ant-clear w p ant valid is)) (clear_inside w q valid (free_clear (w.cells q) free)) in
      let mine : ant_weight (w.cells p).ant ≡ 9 + one_if ant.laden = ap ant_weight is in
      let none : ant_weight (w.cells q).ant ≡ 0 = ap ant_weight (free_empty (w.cells q) free) in
      omega arith

  -- the ant is nowhere between the two
  left_nowhere : (r : Pos) → holds_id ant.id (put_cell w.cells p (left_by_ant (w.cells p)) r) ≡ false
  left_nowhere = put_cell-all w p (left_by_ant (w.cells p)) (λ r c. holds_id ant.id c ≡ false) refl
      (λ r apart. false_from_ne_true (holds_id ant.id (w.cells r)) (λ held. apart (valid.once ant.id p r (holds_id-own (w.cells p) ant is) held)))

  -- if it left its cell, it may be set on the other
  pub CanSet-arrived : (room : ℕ) → 1 ≤ room → CanSet (put w p (left_by_ant (w.cells p))) room q (with_ant (w.cells q) (arrived sheet ant next))
  CanSet-arrived room left =
      let clear : (w.cells q).rocky ≡ false = free_clear (w.cells q) free in
      let other : put_cell w.cells p (left_by_ant (w.cells p)) q ≡ w.cells q = put_cell-other w.cells p (left_by_ant (w.cells p)) q (free_apart w.cells p ant q is free) in
      record {
        room_left = left;
        inside = clear_inside w q valid clear;
        was_clear = ap (λ (c : Cell). c.rocky) other ∙ clear;
        is_clear = clear;
        same_hill = ap (λ (c : Cell). c.hill) (sym other);
        six = HasMarksOfSix-same (w.cells q) (with_ant (w.cells q) (arrived sheet ant next)) refl refl (valid.six q);
        ant_known = λ new one. let same : arrived sheet ant next ≡ new = cc in subst (λ (a : Ant). a.id < w.ids) same (valid.known p ant is);
        ant_nowhere_else = λ new one r _. let same : arrived sheet ant next ≡ new = cc in
            subst (λ (a : Ant). holds_id a.id (put_cell w.cells p (left_by_ant (w.cells p)) r) ≡ false) same (left_nowhere r);
        light_enough = subst (λ n. n ≤ most_weight) (sym step_weight) valid.light;
      }

-- what a step keeps
pub Keeps-stepped : (minds : Minds) (w : World) (p : Pos) (ant : Ant) (q : Pos) (next : ℕ) → Valid w → Fits w minds → (w.cells p).ant ≡ Some ant → is_blocked (w.cells q) ≡ false → next < length (mind_of minds ant.colour) → Keeps minds w (with_cells w (stepped minds.sheet w.cells p ant q next))
unfolding stepped
Keeps-stepped minds w p ant q next valid fits is free below =
    let here : Cell = left_by_ant (w.cells p) in
    let there : Cell = with_ant (w.cells q) (arrived minds.sheet ant next) in
    let first : Keeps minds w (put w p here) = Keeps-put minds w p here valid fits (ant-clear w p ant valid is) (Replaces-left_by_ant (w.cells p)) (HasMarksOfSix-left (w.cells p) (valid.six p)) (λ old none. absurd (cc)) in
    let same : weight (put (put w p here) q there) ≡ weight w = step_weight minds.sheet w p ant q next valid is free in
    record {
      width = refl;
      height = refl;
      ids = refl;
      rocks = put_cell-all (put w p here) q there (λ r c. c.rocky ≡ (w.cells r).rocky) refl (λ r _. first.rocks r);
      hills = put_cell-all (put w p here) q there (λ r c. c.hill ≡ (w.cells r).hill) refl (λ r _. first.hills r);
      dead = λ t dead. put_cell-all (put w p here) q there (λ r c. holds_id t c ≡ false) (sym (ap (is_ant t) is) ∙ dead p) (λ r _. first.dead t dead r);
      valid = Valid-put (put w p here) 1 q there first.valid (CanSet-arrived minds.sheet w p ant q next valid is free 1 (omega arith));
      fits = Fits-put minds (put w p here) q there first.fits
          (λ new one. let it : arrived minds.sheet ant next ≡ new = cc in subst (λ (a : Ant). a.state < length (mind_of minds a.colour)) it below);
      no_heavier = omega arith;
    }

-- what the checks of cells keep
pub Keeps-check_all : (minds : Minds) (w : World) (places : List Pos) → minds.sheet.corpse ≤ 9 → Valid w → Fits w minds → Keeps minds w (with_cells w (check_all minds.sheet w.cells places))
Keeps-check_all minds w places small valid fits =
    let after : (q : Pos) → Outlives (w.cells q) (check_all minds.sheet w.cells places q) = check_all-outlives minds.sheet places w.cells in
    record {
      width = refl;
      height = refl;
      ids = refl;
      rocks = λ q. (after q).same_kind;
      hills = λ q. (after q).same_hill;
      dead = λ t dead q. check_all-holds_id minds.sheet places w.cells t q (dead q);
      valid = check_all-Valid minds.sheet places w small valid;
      fits = check_all-Fits minds.sheet places w minds fits;
      no_heavier = check_all-weight minds.sheet places w small valid;
    }

-- what an ant that goes keeps
pub Keeps-goes : (minds : Minds) (w : World) (p : Pos) (ant : Ant) (q : Pos) (next : ℕ) → minds.sheet.corpse ≤ 9 → Valid w → Fits w minds → (w.cells p).ant ≡ Some ant → is_blocked (w.cells q) ≡ false → next < length (mind_of minds ant.colour) → Keeps minds w (with_cells w (check_around_at minds.sheet (stepped minds.sheet w.cells p ant q next) q))
Keeps-goes minds w p ant q next small valid fits is free below =
    let first : Keeps minds w (with_cells w (stepped minds.sheet w.cells p ant q next)) = Keeps-stepped minds w p ant q next valid fits is free below in
    Keeps-then first (Keeps-check_all minds (with_cells w (stepped minds.sheet w.cells p ant q next)) (places_around q) small first.valid first.fits)

-- what an ant that stays keeps
pub Keeps-stays : (minds : Minds) (w : World) (p : Pos) (ant : Ant) (instruction : Instr) (new : Cell) → Valid w → Fits w minds → (w.cells p).ant ≡ Some ant → IsSound (length (mind_of minds ant.colour)) instruction → Stays instruction (w.cells p) ant new → Keeps minds w (put w p new)
Keeps-stays minds w p ant instruction new valid fits is sound stays =
    let below : stays.after.state < length (mind_of minds ant.colour) = stays.state (length (mind_of minds ant.colour)) (fits.below p ant is) sound in
    Keeps-put minds w p new valid fits (ant-clear w p ant valid is) (stays_replaces stays is) (stays.six (length (mind_of minds ant.colour)) sound (valid.six p)) λ it one.
    let same : Some stays.after ≡ Some it = sym stays.holds ∙ one in
    let after : stays.after ≡ it = cc in
    subst (λ (a : Ant). a.state < length (mind_of minds a.colour)) after (subst (λ colour. stays.after.state < length (mind_of minds colour)) (sym stays.same_colour) below)

-- what an ant keeps that stays or goes
Keeps-does : (minds : Minds) (w : World) (p : Pos) (ant : Ant) (instruction : Instr) (outcome : Outcome) → minds.sheet.corpse ≤ 9 → Valid w → Fits w minds → (w.cells p).ant ≡ Some ant → IsSound (length (mind_of minds ant.colour)) instruction →
    Does instruction minds.sheet w.cells p ant outcome → Keeps minds w (with_cells w outcome.cells)
Keeps-does minds w p ant instruction outcome small valid fits is sound (inl stayed) =
    subst (λ cells. Keeps minds w (with_cells w cells)) (sym stayed.cells_after) (Keeps-stays minds w p ant instruction stayed.new valid fits is sound stayed.stays)
Keeps-does minds w p ant instruction outcome small valid fits is sound (inr went) =
    subst (λ (o : Outcome). Keeps minds w (with_cells w o.cells)) (sym went.is)
    (Keeps-goes minds w p ant (adjacent_pos p ant.facing) went.next small valid fits is went.free (went.state (length (mind_of minds ant.colour)) sound))

-- what a sound instruction keeps
pub Keeps-execute : (minds : Minds) (seed : ℕ) (w : World) (place : ℕ) (p : Pos) (ant : Ant) (instruction : Instr) → minds.sheet.corpse ≤ 9 → Valid w → Fits w minds → (w.cells p).ant ≡ Some ant → IsSound (length (mind_of minds ant.colour)) instruction →
    Keeps minds w (with_cells w (execute minds.sheet seed w.cells place p ant instruction).cells)
Keeps-execute minds seed w place p ant instruction small valid fits is sound =
    Keeps-does minds w p ant instruction (execute minds.sheet seed w.cells place p ant instruction) small valid fits is sound (execute_parts minds.sheet seed w.cells place p ant instruction)

-- each colour's brain is one
IsBrain-of : (minds : Minds) (colour : Colour) → AreSound minds → IsBrain (mind_of minds colour)
IsBrain-of minds Red sound = sound.red
IsBrain-of minds Black sound = sound.black

-- the instruction of an ant that fits is sound
pub sound_instruction : (minds : Minds) (w : World) (p : Pos) (ant : Ant) → AreSound minds → Fits w minds → (w.cells p).ant ≡ Some ant → IsSound (length (mind_of minds ant.colour)) (instruction_at (mind_of minds ant.colour) ant.state)
sound_instruction minds w p ant sound fits is =
    let brain : IsBrain (mind_of minds ant.colour) = IsBrain-of minds ant.colour sound in
    brain.sound ant.state (instruction_at (mind_of minds ant.colour) ant.state) (slice_get-get_or (mind_of minds ant.colour) ant.state (Drop 0) (fits.below p ant is))

-- what a turn keeps
pub Keeps-turn : (minds : Minds) (seed : ℕ) (w : World) (place t : ℕ) → AreSound minds → Valid w → Fits w minds → Keeps minds w (with_cells w (turn minds seed w place t).cells)
Keeps-turn minds seed w place t sound valid fits =
    elim (turn_parts minds seed w place t) [
      | inl nothing ↦ subst (λ (o : Outcome). Keeps minds w (with_cells w o.cells)) (sym nothing) (Keeps-self minds w valid fits)
      | inr acted ↦ Keeps-does minds w acted.p acted.ant (instruction_at (mind_of minds acted.ant.colour) acted.ant.state) (turn minds seed w place t) sound.corpse valid fits acted.is
          (sound_instruction minds w acted.p acted.ant sound fits acted.is) acted.does
    ]
