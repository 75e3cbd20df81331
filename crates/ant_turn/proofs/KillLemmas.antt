-- Who dies in a turn, and who stays where.
use Rattle.std.proofs.Common.{◌≡◌, ◌≢◌, ◌⊎◌, inl, inr, ℕ, ◌≤◌, true, false, List, [], Some, None, refl, sym, ◌∙◌, ap, subst, arith}
use Rattle.std.specs.List.{AllPairs, Contains}
use Rattle.std.specs.Prelude.{IsSome, nat_eq}
use Rattle.std.proofs.lemmas.Bool.{both_ways, cases_eq, false_from_ne_true, eqb-true, true_from_ne_false}
use Rattle.hex_geometry.specs.declared.position.Pos.{Pos}
use Rattle.hex_geometry.specs.Neighbourhood.{adjacent_pos}
use Rattle.cell_world.specs.declared.ant.Ant.{Ant}
use Rattle.cell_world.specs.declared.cell.Cell.{Cell}
use Rattle.cell_world.specs.Cell.{holds_id, is_ant}
use Rattle.cell_world.specs.Valid.{Valid}
use Rattle.cell_world.specs.World.{World, place_in, put, put_cell, with_cells}
use Rattle.cell_world.proofs.Places.{Holder, ant-clear, holds_id-own, place_in-ant, place_in-found, place_in-holds, place_in-put_new, place_in-put_other}
use Rattle.cell_world.proofs.Puts.{put_cell-other}
use Rattle.cell_world.proofs.ValidLemmas.{CanSet-replaces, Valid-put}
use Rattle.brain_read.specs.declared.instr.Instr.{Instr}
use Rattle.ant_turn.specs.FoodLaws.{killed_in, world_after_turn}
use Rattle.ant_turn.specs.KillLaws.{KillsAlone}
use Rattle.ant_turn.specs.Kills.{check_all, places_around}
use Rattle.ant_turn.specs.Minds.{Minds, mind_of}
use Rattle.ant_turn.specs.Sheet.{Sheet}
use Rattle.ant_turn.specs.Turn.{Outcome, acts, arrived, instruction_at, is_blocked, left_by_ant, stepped, turn, with_ant}
use Rattle.ant_turn.proofs.Deaths.{check_all-place_in, killed_all-alive, killed_all-differ, killed_all-gone}
use Rattle.ant_turn.proofs.KeptByTurns.{CanSet-arrived, HasMarksOfSix-left, Replaces-left_by_ant, free_apart, free_empty}
use Rattle.ant_turn.proofs.OwnCells.{Stays}
use Rattle.ant_turn.proofs.TurnParts.{Does, acts_parts, turn_parts}
use Rattle.ant_turn.proofs.KeptByChecks.{check_all-holds_id}
use Rattle.ant_turn.proofs.Turns.{turn-acts}

-- what an outcome does to who is alive, and where
record Spares (w : World) (t : ℕ) (now : World) (killed : List ℕ) : Type 0 where
  were_alive : (u : ℕ) → Contains killed u → IsSome (place_in w u)
  are_gone : (u : ℕ) → Contains killed u → place_in now u ≡ None
  differ : AllPairs ◌≢◌ killed
  others_stay : (u : ℕ) → u ≢ t → (Contains killed u → ⊥) → place_in now u ≡ place_in w u
  own_lives : (Contains killed t → ⊥) → IsSome (place_in w t) → IsSome (place_in now t)
  dead_stay : place_in w t ≡ None → place_in now t ≡ None

-- if no ant is killed, all others stay
Spares-all : (w : World) (t : ℕ) (now : World) → ((u : ℕ) → place_in now u ≡ place_in w u) → Spares w t now []
Spares-all w t now same = record {
  were_alive = λ u found. absurd (omega (arith, found.1));
  are_gone = λ u found. absurd (omega (arith, found.1));
  differ = λ i j d lt within. absurd (omega (arith, within));
  others_stay = λ u _ _. same u;
  own_lives = λ _ alive. subst IsSome (sym (same t)) alive;
  dead_stay = λ dead. same t ∙ dead;
}

-- the cell of an ant that stays holds whom it held
stays-holds_id : {instruction : Instr} {cell : Cell} {ant : Ant} {new : Cell} (u : ℕ) → Stays instruction cell ant new → cell.ant ≡ Some ant → holds_id u cell ≡ holds_id u new
stays-holds_id {instruction} {cell} {ant} {new} u stays is = ap (is_ant u) is ∙ ap (λ i. nat_eq i u) (sym stays.same_id) ∙ sym (ap (is_ant u) stays.holds)

-- a step of an ant from p to q, onto which it can move
module _ (sheet : Sheet) (w : World) (p : Pos) (ant : Ant) (q : Pos) (next : ℕ) (valid : Valid w) (is : (w.cells p).ant ≡ Some ant) (free : is_blocked (w.cells q) ≡ false) where
  -- the world between
  left_valid : Valid (put w p (left_by_ant (w.cells p)))
  left_valid = Valid-put w 1 p (left_by_ant (w.cells p)) valid (CanSet-replaces w 1 p (left_by_ant (w.cells p)) valid (omega arith) (ant-clear w p ant valid is) (Replaces-left_by_ant (w.cells p)) (HasMarksOfSix-left (w.cells p) (valid.six p)))

  -- makes a world
  step-Valid : Valid (with_cells w (stepped sheet w.cells p ant q next))
  unfolding stepped
  step-Valid = Valid-put (put w p (left_by_ant (w.cells p))) 1 q (with_ant (w.cells q) (arrived sheet ant next)) left_valid (CanSet-arrived sheet w p ant q next valid is free 1 (omega arith))

  -- the ant is on the other cell
  step-own : place_in (with_cells w (stepped sheet w.cells p ant q next)) ant.id ≡ Some q
  unfolding stepped
  step-own = place_in-put_new (put w p (left_by_ant (w.cells p))) 1 q (with_ant (w.cells q) (arrived sheet ant next)) ant.id (CanSet-arrived sheet w p ant q next valid is free 1 (omega arith))
      (holds_id-own (with_ant (w.cells q) (arrived sheet ant next)) (arrived sheet ant next) refl)

  -- and every other stays
  step-others : (u : ℕ) → u ≢ ant.id → place_in (with_cells w (stepped sheet w.cells p ant q next)) u ≡ place_in w u
  unfolding stepped
  step-others u other =
      let mine : nat_eq ant.id u ≡ false = false_from_ne_true (nat_eq ant.id u) (λ same. other (sym (eqb-true ant.id u same))) in
      let here : holds_id u (w.cells p) ≡ false = ap (is_ant u) is ∙ mine in
      let there : holds_id u (put_cell w.cells p (left_by_ant (w.cells p)) q) ≡ false =
      ap (holds_id u) (put_cell-other w.cells p (left_by_ant (w.cells p)) q (free_apart w.cells p ant q is free)) ∙ ap (is_ant u) (free_empty (w.cells q) free) in
      place_in-put_other (put w p (left_by_ant (w.cells p))) q (with_ant (w.cells q) (arrived sheet ant next)) u (there ∙ sym mine)
      ∙ place_in-put_other w p (left_by_ant (w.cells p)) u here

-- an ant that stays or goes
does-Spares : (sheet : Sheet) (w : World) (t : ℕ) (p : Pos) (ant : Ant) (instruction : Instr) (outcome : Outcome) → sheet.corpse ≤ 9 → Valid w → place_in w t ≡ Some p → (w.cells p).ant ≡ Some ant → ant.id ≡ t →
    Does instruction sheet w.cells p ant outcome → Spares w t (with_cells w outcome.cells) outcome.killed
does-Spares sheet w t p ant instruction outcome light valid found is id (inl stayed) =
    subst (λ cells. Spares w t (with_cells w cells) outcome.killed) (sym stayed.cells_after) (subst (Spares w t (put w p stayed.new)) (sym stayed.killed)
    (Spares-all w t (put w p stayed.new) (λ u. place_in-put_other w p stayed.new u (stays-holds_id u stayed.stays is))))
does-Spares sheet w t p ant instruction outcome light valid found is id (inr went) =
    let ahead : Pos = adjacent_pos p ant.facing in
    let there : World = with_cells w (stepped sheet w.cells p ant ahead went.next) in
    let places : List Pos = places_around ahead in
    let still : Valid there = step-Valid sheet w p ant ahead went.next valid is went.free in
    let own : place_in there t ≡ Some ahead = ap (place_in there) (sym id) ∙ step-own sheet w p ant ahead went.next valid is went.free in
    let others : (u : ℕ) → u ≢ t → place_in there u ≡ place_in w u = λ u other. step-others sheet w p ant ahead went.next valid is went.free u (λ e. other (e ∙ id)) in
    subst (λ (o : Outcome). Spares w t (with_cells w o.cells) o.killed) (sym went.is) (record {
      were_alive = λ u killed. elim (cases_eq u t) [
        | inl own ↦ subst (λ i. IsSome (place_in w i)) (sym own) (subst IsSome (sym found) refl)
        | inr other ↦ let at = killed_all-alive sheet places there u still killed in subst IsSome (sym at.1 ∙ others u other) refl
      ];
      are_gone = λ u killed. killed_all-gone sheet places there u light still killed;
      differ = killed_all-differ sheet places there light still;
      others_stay = λ u other spared. check_all-place_in sheet places there u spared ∙ others u other;
      own_lives = λ spared _. subst IsSome (sym (check_all-place_in sheet places there t spared ∙ own)) refl;
      dead_stay = λ dead. let both : None ≡ Some p = sym dead ∙ found in absurd (cc);
    })

-- the ant at its place is that ant
own_id : (w : World) (t : ℕ) (p : Pos) (ant : Ant) → place_in w t ≡ Some p → (w.cells p).ant ≡ Some ant → ant.id ≡ t
own_id w t p ant found is =
    let holder : Holder t (w.cells p).ant = place_in-ant w t p found in
    let one : Some ant ≡ Some holder.ant = sym is ∙ holder.is in
    let same : ant ≡ holder.ant = cc in
    ap (λ (a : Ant). a.id) same ∙ holder.id

-- who dies in a turn, and who stays where
pub turn-KillsAlone : (minds : Minds) (seed : ℕ) (w : World) (place t : ℕ) → minds.sheet.corpse ≤ 9 → Valid w → KillsAlone minds seed w place t
turn-KillsAlone minds seed w place t light valid =
    let it : Spares w t (world_after_turn minds seed w place t) (killed_in minds seed w place t) = elim (turn_parts minds seed w place t) [
      | inl nothing ↦ subst (λ (o : Outcome). Spares w t (with_cells w o.cells) o.killed) (sym nothing) (Spares-all w t w (λ _. refl))
      | inr acted ↦ does-Spares minds.sheet w t acted.p acted.ant (instruction_at (mind_of minds acted.ant.colour) acted.ant.state) (turn minds seed w place t) light valid acted.place acted.is (own_id w t acted.p acted.ant acted.place acted.is) acted.does
    ] in
    record { were_alive = it.were_alive; are_gone = it.are_gone; differ = it.differ; others_stay = it.others_stay; own_lives = it.own_lives; dead_stay = it.dead_stay }

-- an ant that lives on after checks is where it was
check_all-own : (sheet : Sheet) (places : List Pos) (w : World) (t : ℕ) (p q : Pos) → Valid w → place_in w t ≡ Some p → place_in (with_cells w (check_all sheet w.cells places)) t ≡ Some q → q ≡ p
check_all-own sheet places w t p q valid before after =
    let there : holds_id t (check_all sheet w.cells places q) ≡ true = place_in-holds (with_cells w (check_all sheet w.cells places)) t q after in
    let held : holds_id t (w.cells q) ≡ true = true_from_ne_false (holds_id t (w.cells q)) (λ free. both_ways (holds_id t (check_all sheet w.cells places q)) (check_all-holds_id sheet places w.cells t q free) there) in
    let one : Some q ≡ Some p = sym (place_in-found w t q valid held) ∙ before in cc

-- an ant that stays or goes is where it was, or ahead
does-own : (sheet : Sheet) (w : World) (t : ℕ) (p : Pos) (ant : Ant) (instruction : Instr) (outcome : Outcome) (q : Pos) → Valid w → place_in w t ≡ Some p → (w.cells p).ant ≡ Some ant → ant.id ≡ t →
    Does instruction sheet w.cells p ant outcome → place_in (with_cells w outcome.cells) t ≡ Some q → (q ≡ p) ⊎ (q ≡ adjacent_pos p ant.facing)
does-own sheet w t p ant instruction outcome q valid found is id (inl stayed) now =
    let there : place_in (put w p stayed.new) t ≡ Some q = subst (λ cells. place_in (with_cells w cells) t ≡ Some q) stayed.cells_after now in
    let one : Some q ≡ Some p = sym there ∙ place_in-put_other w p stayed.new t (stays-holds_id t stayed.stays is) ∙ found in
    inl (cc)
does-own sheet w t p ant instruction outcome q valid found is id (inr went) now =
    let ahead : Pos = adjacent_pos p ant.facing in
    let there : World = with_cells w (stepped sheet w.cells p ant ahead went.next) in
    let own : place_in there t ≡ Some ahead = ap (place_in there) (sym id) ∙ step-own sheet w p ant ahead went.next valid is went.free in
    inr (check_all-own sheet (places_around ahead) there t ahead q (step-Valid sheet w p ant ahead went.next valid is went.free) own (subst (λ (o : Outcome). place_in (with_cells w o.cells) t ≡ Some q) went.is now))

-- the place of an ant after its turn
pub turn-own : (minds : Minds) (seed : ℕ) (w : World) (place t : ℕ) (p : Pos) (ant : Ant) (q : Pos) → Valid w → place_in w t ≡ Some p → (w.cells p).ant ≡ Some ant → place_in (world_after_turn minds seed w place t) t ≡ Some q →
    (q ≡ p) ⊎ (q ≡ adjacent_pos p ant.facing)
turn-own minds seed w place t p ant q valid found is now =
    does-own minds.sheet w t p ant (instruction_at (mind_of minds ant.colour) ant.state) (acts ant.resting minds seed w.cells place p ant) q valid found is (own_id w t p ant found is)
    (acts_parts minds seed w.cells place p ant ant.resting)
    (subst (λ (o : Outcome). place_in (with_cells w o.cells) t ≡ Some q) (turn-acts minds seed w place t p ant found is) now)
