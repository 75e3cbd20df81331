-- No ant of a game rests for longer than the rules say.
use Rattle.std.proofs.Common.{◌≡◌, inl, inr, ℕ, zero, suc, ◌≤◌, Bool, true, false, List, Option, Some, None, refl, sym, ◌∙◌, subst, arith}
use Rattle.std.specs.Prelude.{◌||◌, ◌==◌, ◌-◌, if◌then◌else◌}
use Rattle.std.proofs.lemmas.Bool.{cond_both}
use Rattle.std.proofs.lemmas.Option.{same_Some}
use Rattle.hex_geometry.specs.declared.position.Pos.{Pos}
use Rattle.hex_geometry.specs.Neighbourhood.{adjacent_pos, sensed_pos}
use Rattle.cell_world.specs.declared.ant.Ant.{Ant}
use Rattle.cell_world.specs.declared.cell.Cell.{Cell}
use Rattle.cell_world.specs.World.{Cells, World, place_in, put_cell}
use Rattle.cell_world.proofs.Puts.{cases_pos, put_cell-other, put_cell-same}
use Rattle.brain_read.specs.declared.instr.Instr.{Instr}
use Rattle.brain_read.specs.declared.instr.Instr.TheVariants.{Sense, Mark, Unmark, PickUp, Drop, Move}
use Rattle.ant_turn.specs.Conditions.{meets}
use Rattle.ant_turn.specs.Kills.{check_all, places_around}
use Rattle.ant_turn.specs.Minds.{Minds, mind_of}
use Rattle.ant_turn.specs.Rounds.{Moment, after_round, after_rounds, after_turn, after_turns}
use Rattle.ant_turn.specs.Sheet.{Sheet}
use Rattle.ant_turn.specs.Turn.{Outcome, acts, arrived, execute, in_state, instruction_at, is_blocked, left_by_ant, marked, stepped, turn, turn_at, turn_from, unmarked, with_ant}
use Rattle.ant_turn.proofs.KeptByChecks.{check_all-ant}

module _ (most : ℕ) where
  -- the ant of a cell, if one is there, rests for this many turns at most
  Rests : Cell → Type 0
  Rests cell = (ant : Ant) → cell.ant ≡ Some ant → ant.resting ≤ most

  -- so does each ant
  pub record AllRest (cells : Cells) : Type 0 where
    pub each : (p : Pos) (ant : Ant) → (cells p).ant ≡ Some ant → ant.resting ≤ most

  rests : (cell : Cell) (ant : Ant) → cell.ant ≡ Some ant → ant.resting ≤ most → Rests cell
  unfolding Rests
  rests cell ant is low = λ other there. subst (λ (a : Ant). a.resting ≤ most) (same_Some ant other (sym is ∙ there)) low

  -- one cell is changed
  put_cell-rest : (cells : Cells) (p : Pos) (cell : Cell) → AllRest cells → Rests cell → AllRest (put_cell cells p cell)
  unfolding Rests
  put_cell-rest cells p cell all new = record {
    each = λ q. elim (cases_pos p q) [
      | inl one ↦ subst (λ r. Rests (put_cell cells p cell r)) one (subst Rests (sym (put_cell-same cells p cell)) new)
      | inr apart ↦ subst Rests (sym (put_cell-other cells p cell q apart)) (all.each q)
    ];
  }

  becomes : (cells : Cells) (p : Pos) (cell : Cell) (ant : Ant) → AllRest cells → cell.ant ≡ Some ant → ant.resting ≤ most → AllRest (put_cell cells p cell)
  becomes cells p cell ant all is low = put_cell-rest cells p cell all (rests cell ant is low)

  -- a step
  stepped-rest : (sheet : Sheet) (cells : Cells) (p : Pos) (ant : Ant) (q : Pos) (next : ℕ) → sheet.rest ≤ most → AllRest cells → AllRest (stepped sheet cells p ant q next)
  unfolding stepped Rests
  stepped-rest sheet cells p ant q next small all =
      becomes (put_cell cells p (left_by_ant (cells p))) q (with_ant (cells q) (arrived sheet ant next)) (arrived sheet ant next)
      (put_cell-rest cells p (left_by_ant (cells p)) all (λ other is. absurd (cc))) refl small

  -- the checks leave no new ant
  check_all-rest : (sheet : Sheet) (cells : Cells) (places : List Pos) → AllRest cells → AllRest (check_all sheet cells places)
  check_all-rest sheet cells places all = record { each = λ q ant is. all.each q ant (check_all-ant sheet places cells q ant is) }

  -- an instruction
  execute-rest : (sheet : Sheet) (seed : ℕ) (cells : Cells) (place : ℕ) (p : Pos) (ant : Ant) (instruction : Instr) → sheet.rest ≤ most → AllRest cells → ant.resting ≤ most → AllRest (execute sheet seed cells place p ant instruction).cells
  execute-rest sheet seed cells place p ant (Sense sight met unmet condition) small all low =
      let saw : Bool = meets (cells (sensed_pos p ant.facing sight)) condition ant.colour in
      becomes cells p (with_ant (cells p) (in_state ant (if saw then met else unmet))) (in_state ant (if saw then met else unmet)) all refl low
  execute-rest sheet seed cells place p ant (Mark i next) small all low = becomes cells p (with_ant (marked (cells p) ant.colour i) (in_state ant next)) (in_state ant next) all refl low
  execute-rest sheet seed cells place p ant (Unmark i next) small all low = becomes cells p (with_ant (unmarked (cells p) ant.colour i) (in_state ant next)) (in_state ant next) all refl low
  execute-rest sheet seed cells place p ant (PickUp met unmet) small all low =
      let kept : Cell = with_ant (cells p) (in_state ant unmet) in
      let laden : Ant = record ant { laden = true; state = met } in
      let taken : Cell = record (cells p) { food = (cells p).food - 1; ant = Some laden } in
      let barred : Bool = ant.laden || (cells p).food == 0 in
      put_cell-rest cells p (if barred then kept else taken) all (cond_both barred kept taken Rests (λ _. rests kept (in_state ant unmet) refl low) (λ _. rests taken laden refl low))
  execute-rest sheet seed cells place p ant (Drop next) small all low = becomes cells p _ (record ant { laden = false; state = next }) all refl low
  execute-rest sheet seed cells place p ant (Move met unmet) small all low =
      let ahead : Pos = adjacent_pos p ant.facing in
      cond_both (is_blocked (cells ahead)) _ _ (λ (outcome : Outcome). AllRest outcome.cells)
      (λ _. becomes cells p (with_ant (cells p) (in_state ant unmet)) (in_state ant unmet) all refl low)
      (λ _. check_all-rest sheet (stepped sheet cells p ant ahead met) (places_around ahead) (stepped-rest sheet cells p ant ahead met small all))
  execute-rest sheet seed cells place p ant it small all low = becomes cells p _ _ all refl low

  -- a turn
  acts-rest : (n : ℕ) (minds : Minds) (seed : ℕ) (cells : Cells) (place : ℕ) (p : Pos) (ant : Ant) → minds.sheet.rest ≤ most → AllRest cells → ant.resting ≤ most → n ≤ most → AllRest (acts n minds seed cells place p ant).cells
  acts-rest zero minds seed cells place p ant small all low few = execute-rest minds.sheet seed cells place p ant (instruction_at (mind_of minds ant.colour) ant.state) small all low
  acts-rest (suc left) minds seed cells place p ant small all low few = becomes cells p (with_ant (cells p) (record ant { resting = left })) (record ant { resting = left }) all refl (omega (arith, few))

  turn_at-rest : (minds : Minds) (seed : ℕ) (cells : Cells) (place : ℕ) (p : Pos) (o : Option Ant) → (cells p).ant ≡ o → minds.sheet.rest ≤ most → AllRest cells → AllRest (turn_at minds seed cells place p o).cells
  turn_at-rest minds seed cells place p None is small all = all
  turn_at-rest minds seed cells place p (Some ant) is small all = (let low = all.each p ant is in acts-rest ant.resting minds seed cells place p ant small all low low)

  turn_from-rest : (minds : Minds) (seed : ℕ) (cells : Cells) (place : ℕ) (o : Option Pos) → minds.sheet.rest ≤ most → AllRest cells → AllRest (turn_from minds seed cells place o).cells
  turn_from-rest minds seed cells place None small all = all
  turn_from-rest minds seed cells place (Some p) small all = turn_at-rest minds seed cells place p (cells p).ant refl small all

  turn-rest : (minds : Minds) (seed : ℕ) (w : World) (place t : ℕ) → minds.sheet.rest ≤ most → AllRest w.cells → AllRest (turn minds seed w place t).cells
  unfolding turn
  turn-rest minds seed w place t small all = turn_from-rest minds seed w.cells place (place_in w t) small all

  -- turns and rounds
  after_turns-rest : (minds : Minds) (seed : ℕ) (m : Moment) (from n : ℕ) → minds.sheet.rest ≤ most → AllRest m.world.cells → AllRest (after_turns minds seed m from n).world.cells
  unfolding after_turn
  after_turns-rest minds seed m from zero small all = all
  after_turns-rest minds seed m from (suc n) small all =
      let before : Moment = after_turns minds seed m from n in
      turn-rest minds seed before.world before.place _ small (after_turns-rest minds seed m from n small all)

  pub after_rounds-rest : (minds : Minds) (seed : ℕ) (m : Moment) (r : ℕ) → minds.sheet.rest ≤ most → AllRest m.world.cells → AllRest (after_rounds minds seed m r).world.cells
  unfolding after_round
  after_rounds-rest minds seed m zero small all = all
  after_rounds-rest minds seed m (suc r) small all =
      let before : Moment = after_rounds minds seed m r in
      after_turns-rest minds seed before 0 before.world.ids small (after_rounds-rest minds seed m r small all)
