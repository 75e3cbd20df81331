-- The state in which an instruction leaves its ant, and that it leaves all other ants unchanged.
use Rattle.std.proofs.Common.{◌≡◌, ◌≢◌, inl, inr, ℕ, ◌+◌, Bool, true, false, List, [], ◌∷◌, Some, refl, sym, ◌∙◌, subst}
use Rattle.std.specs.Prelude.{◌||◌, ◌==◌, ◌-◌, if◌then◌else◌}
use Rattle.std.proofs.lemmas.Bool.{cond_both, cond-true, cond-false}
use Rattle.std.proofs.lemmas.Option.{same_Some}
use Rattle.hex_geometry.specs.declared.position.Pos.{Pos}
use Rattle.hex_geometry.specs.Direction.{turned_by}
use Rattle.hex_geometry.specs.Neighbourhood.{adjacent_pos, sensed_pos}
use Rattle.cell_world.specs.declared.ant.Ant.{Ant}
use Rattle.cell_world.specs.declared.cell.Cell.{Cell}
use Rattle.cell_world.specs.Cell.{one_if}
use Rattle.cell_world.specs.World.{Cells, put_cell}
use Rattle.cell_world.proofs.Puts.{cases_pos, put_cell-other, put_cell-same}
use Rattle.brain_read.specs.declared.instr.Instr.{Instr}
use Rattle.brain_read.specs.declared.instr.Instr.TheVariants.{Sense, Mark, Unmark, PickUp, Drop, Turn, Move, Flip}
use Rattle.ant_random.specs.Stream.{drawn}
use Rattle.ant_turn.specs.Conditions.{meets}
use Rattle.ant_turn.specs.Kills.{after_kill, check_all, check_at, places_around}
use Rattle.ant_turn.specs.Sheet.{Sheet}
use Rattle.ant_turn.specs.Turn.{Outcome, arrived, execute, in_state, is_blocked, left_by_ant, marked, stepped, unmarked, with_ant}
use Rattle.ant_turn.proofs.Checks.{check_at-cases}

-- the state in which an instruction of the ant of p continues
abbrev pub state_taken : ℕ → Cells → ℕ → Pos → Ant → Instr → ℕ
state_taken seed cells place p ant (Sense sight met unmet condition) = if meets (cells (sensed_pos p ant.facing sight)) condition ant.colour then met else unmet
state_taken seed cells place p ant (Mark i next) = next
state_taken seed cells place p ant (Unmark i next) = next
state_taken seed cells place p ant (PickUp met unmet) = if ant.laden || (cells p).food == 0 then unmet else met
state_taken seed cells place p ant (Drop next) = next
state_taken seed cells place p ant (Turn side next) = next
state_taken seed cells place p ant (Move met unmet) = if is_blocked (cells (adjacent_pos p ant.facing)) then unmet else met
state_taken seed cells place p ant (Flip bound met unmet) = if drawn seed place bound == 0 then met else unmet

module _ (P : Ant → Type 0) where
  -- the fact holds of the cell's ant, if one is there
  abbrev pub OfAnt : Cell → Type 0
  OfAnt cell = (ant : Ant) → cell.ant ≡ Some ant → P ant

  -- of all ants
  abbrev pub OfAll : Cells → Type 0
  OfAll cells = (q : Pos) → OfAnt (cells q)

  -- of all but the one at p
  abbrev pub OfOthers : Cells → Pos → Type 0
  OfOthers cells p = (q : Pos) → p ≢ q → OfAnt (cells q)

  -- this ant's cell
  pub of_this : (cell : Cell) (ant : Ant) → cell.ant ≡ Some ant → P ant → OfAnt cell
  of_this cell ant is holds other there = subst P (same_Some ant other (sym is ∙ there)) holds

  -- if the cell of p is changed
  pub put_cell-of : (cells : Cells) (p : Pos) (cell : Cell) → OfOthers cells p → OfAnt cell → OfAll (put_cell cells p cell)
  put_cell-of cells p cell others new q = elim (cases_pos p q) [
    | inl one ↦ subst (λ r. OfAnt (put_cell cells p cell r)) one (subst OfAnt (sym (put_cell-same cells p cell)) new)
    | inr apart ↦ subst OfAnt (sym (put_cell-other cells p cell q apart)) (others q apart)
  ]

  -- a check leaves no new ant
  check_at-of : (sheet : Sheet) (cells : Cells) (p : Pos) → OfAll cells → OfAll (check_at sheet cells p)
  check_at-of sheet cells p all =
      check_at-cases sheet cells p (λ now _. OfAll now) all (λ _. put_cell-of cells p (after_kill sheet (cells p)) (λ q _. all q) (λ ant is. absurd (cc)))

  check_all-of : (sheet : Sheet) (cells : Cells) (places : List Pos) → OfAll cells → OfAll (check_all sheet cells places)
  check_all-of sheet cells [] all = all
  check_all-of sheet cells (p ∷ places) all = check_all-of sheet (check_at sheet cells p) places (check_at-of sheet cells p all)

  -- a step
  stepped-of : (sheet : Sheet) (cells : Cells) (p : Pos) (ant : Ant) (q : Pos) (next : ℕ) → OfOthers cells p → P (arrived sheet ant next) → OfAll (stepped sheet cells p ant q next)
  unfolding stepped
  stepped-of sheet cells p ant q next others holds =
      put_cell-of (put_cell cells p (left_by_ant (cells p))) q (with_ant (cells q) (arrived sheet ant next))
      (λ r _. put_cell-of cells p (left_by_ant (cells p)) others (λ other is. absurd (cc)) r)
      (of_this (with_ant (cells q) (arrived sheet ant next)) (arrived sheet ant next) refl holds)

  -- an ant that stays on its cell
  pub leaves : (cells : Cells) (p : Pos) (cell : Cell) (after : Ant) → OfOthers cells p → cell.ant ≡ Some after → P after → OfAll (put_cell cells p cell)
  leaves cells p cell after others is holds = put_cell-of cells p cell others (of_this cell after is holds)

  -- an instruction leaves the others, and its own ant in the state that it takes
  pub execute-of : (sheet : Sheet) (seed : ℕ) (cells : Cells) (place : ℕ) (p : Pos) (ant : Ant) (instruction : Instr) → OfOthers cells p →
      ((after : Ant) → after.id ≡ ant.id → after.colour ≡ ant.colour → after.state ≡ state_taken seed cells place p ant instruction → P after) →
      OfAll (execute sheet seed cells place p ant instruction).cells
  execute-of sheet seed cells place p ant (Sense sight met unmet condition) others own =
      let after : Ant = in_state ant (if meets (cells (sensed_pos p ant.facing sight)) condition ant.colour then met else unmet) in
      leaves cells p (with_ant (cells p) after) after others refl (own after refl refl refl)
  execute-of sheet seed cells place p ant (Mark i next) others own =
      leaves cells p (with_ant (marked (cells p) ant.colour i) (in_state ant next)) (in_state ant next) others refl (own (in_state ant next) refl refl refl)
  execute-of sheet seed cells place p ant (Unmark i next) others own =
      leaves cells p (with_ant (unmarked (cells p) ant.colour i) (in_state ant next)) (in_state ant next) others refl (own (in_state ant next) refl refl refl)
  execute-of sheet seed cells place p ant (PickUp met unmet) others own =
      let kept : Cell = with_ant (cells p) (in_state ant unmet) in
      let laden : Ant = record ant { laden = true; state = met } in
      let taken : Cell = record (cells p) { food = (cells p).food - 1; ant = Some laden } in
      let barred : Bool = ant.laden || (cells p).food == 0 in
      put_cell-of cells p (if barred then kept else taken) others
      (cond_both barred kept taken OfAnt
      (λ is_barred. of_this kept (in_state ant unmet) refl (own (in_state ant unmet) refl refl (sym (cond-true barred unmet met is_barred))))
      (λ not_barred. of_this taken laden refl (own laden refl refl (sym (cond-false barred unmet met not_barred)))))
  execute-of sheet seed cells place p ant (Drop next) others own =
      let after : Ant = record ant { laden = false; state = next } in
      leaves cells p (record (cells p) { food = (cells p).food + one_if ant.laden; ant = Some after }) after others refl (own after refl refl refl)
  execute-of sheet seed cells place p ant (Turn side next) others own =
      let after : Ant = record ant { facing = turned_by ant.facing side; state = next } in
      leaves cells p (with_ant (cells p) after) after others refl (own after refl refl refl)
  execute-of sheet seed cells place p ant (Move met unmet) others own =
      let ahead : Pos = adjacent_pos p ant.facing in
      cond_both (is_blocked (cells ahead)) _ _ (λ (outcome : Outcome). OfAll outcome.cells)
      (λ blocked. leaves cells p (with_ant (cells p) (in_state ant unmet)) (in_state ant unmet) others refl (own (in_state ant unmet) refl refl (sym (cond-true (is_blocked (cells ahead)) unmet met blocked))))
      (λ free. check_all-of sheet (stepped sheet cells p ant ahead met) (places_around ahead)
      (stepped-of sheet cells p ant ahead met others (own (arrived sheet ant met) refl refl (sym (cond-false (is_blocked (cells ahead)) unmet met free)))))
  execute-of sheet seed cells place p ant (Flip bound met unmet) others own =
      let after : Ant = in_state ant (if drawn seed place bound == 0 then met else unmet) in
      leaves cells p (with_ant (cells p) after) after others refl (own after refl refl refl)
