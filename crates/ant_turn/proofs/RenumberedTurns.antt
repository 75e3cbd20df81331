-- Turns and rounds under new numbers of a side's states.
use Rattle.std.proofs.Common.{◌≡◌, inl, inr, ℕ, zero, suc, ◌+◌, Bool, true, false, List, [], ◌∷◌, Option, Some, None, refl, sym, ap, ◌∙◌, subst}
use Rattle.std.specs.Prelude.{unwrap_or, IsSome, ◌||◌, ◌==◌, ◌-◌, if◌then◌else◌}
use Rattle.std.specs.List.{AllByRecursion}
use Rattle.std.proofs.lemmas.Bool.{cond_both}
use Rattle.std.proofs.lemmas.Option.{same_Some}
use Rattle.list_lemmas.proofs.AllElements.{AllByRecursion-weaker}
use Rattle.hex_geometry.specs.declared.position.Pos.{Pos}
use Rattle.hex_geometry.specs.Neighbourhood.{adjacent_pos, sensed_pos}
use Rattle.cell_world.specs.declared.ant.Ant.{Ant}
use Rattle.cell_world.specs.declared.ant.Colour.{Colour}
use Rattle.cell_world.specs.declared.ant.Colour.TheVariants.{Red, Black}
use Rattle.cell_world.specs.declared.cell.Cell.{Cell}
use Rattle.cell_world.specs.World.{Cells, World, place_in, put_cell, with_cells}
use Rattle.cell_world.proofs.Puts.{cases_pos, put_cell-other, put_cell-same}
use Rattle.brain_read.specs.declared.instr.Instr.{Instr}
use Rattle.brain_read.specs.declared.instr.Instr.TheVariants.{Sense, Mark, Unmark, PickUp, Drop, Turn, Move, Flip}
use Rattle.brain_read.specs.Grammar.{states_of}
use Rattle.ant_random.specs.Stream.{drawn}
use Rattle.ant_turn.specs.Conditions.{meets}
use Rattle.ant_turn.specs.Kills.{after_kill, check_all, check_at, places_around}
use Rattle.ant_turn.specs.Minds.{Minds, mind_of}
use Rattle.ant_turn.specs.Renumber.{Numbers, Carries, AreNumbered, state_number, redirected, renumbered, renumbered_moment, renumbered_outcome, side_states, with_mind}
use Rattle.ant_turn.specs.Rounds.{Moment, after_round, after_rounds, after_turn, after_turns, moment_after}
use Rattle.ant_turn.specs.Sheet.{Sheet}
use Rattle.ant_turn.specs.Turn.{Outcome, acts, arrived, execute, in_state, instruction_at, is_blocked, left_by_ant, marked, stepped, turn, turn_from, turn_at, unmarked, with_ant}
use Rattle.ant_turn.proofs.Checks.{check_at-cases}
pub use Rattle.ant_turn.proofs.RenumberLemmas.{turn-alike}

-- the ant, if one is there, has a state of which a fact holds
abbrev AntHas : (P : Colour → ℕ → Type 0) → Cell → Type 0
AntHas P cell = (ant : Ant) → cell.ant ≡ Some ant → P ant.colour ant.state

-- so has each ant
pub record AllHave (P : Colour → ℕ → Type 0) (cells : Cells) : Type 0 where
  pub each : (p : Pos) → AntHas P (cells p)

-- an ant in a state of which the fact holds
has : (P : Colour → ℕ → Type 0) (cell : Cell) (ant : Ant) → cell.ant ≡ Some ant → P ant.colour ant.state → AntHas P cell
has P cell ant is holds other there = subst (λ (a : Ant). P a.colour a.state) (same_Some ant other (sym is ∙ there)) holds

module _ (P : Colour → ℕ → Type 0) where
  -- one cell is changed
  put_cell-have : (cells : Cells) (p : Pos) (cell : Cell) → AllHave P cells → AntHas P cell → AllHave P (put_cell cells p cell)
  put_cell-have cells p cell all new = record {
    each = λ q. elim (cases_pos p q) [
      | inl one ↦ subst (λ r. AntHas P (put_cell cells p cell r)) one (subst (AntHas P) (sym (put_cell-same cells p cell)) new)
      | inr apart ↦ subst (AntHas P) (sym (put_cell-other cells p cell q apart)) (all.each q)
    ];
  }

  -- a check leaves no new ant
  check_at-have : (sheet : Sheet) (cells : Cells) (p : Pos) → AllHave P cells → AllHave P (check_at sheet cells p)
  check_at-have sheet cells p all =
      check_at-cases sheet cells p (λ now _. AllHave P now) all (λ _. put_cell-have cells p (after_kill sheet (cells p)) all (λ ant is. absurd (cc)))

  -- nor do checks
  check_all-have : (sheet : Sheet) (cells : Cells) (places : List Pos) → AllHave P cells → AllHave P (check_all sheet cells places)
  check_all-have sheet cells [] all = all
  check_all-have sheet cells (p ∷ places) all = check_all-have sheet (check_at sheet cells p) places (check_at-have sheet cells p all)

  -- a step
  stepped-have : (sheet : Sheet) (cells : Cells) (p : Pos) (ant : Ant) (q : Pos) (next : ℕ) → AllHave P cells → P ant.colour next → AllHave P (stepped sheet cells p ant q next)
  unfolding stepped
  stepped-have sheet cells p ant q next all holds =
      put_cell-have (put_cell cells p (left_by_ant (cells p))) q (with_ant (cells q) (arrived sheet ant next))
      (put_cell-have cells p (left_by_ant (cells p)) all (λ other is. absurd (cc)))
      (has P (with_ant (cells q) (arrived sheet ant next)) (arrived sheet ant next) refl holds)

  -- an ant that continues in this state
  goes_on : (cells : Cells) (p : Pos) (cell : Cell) (ant : Ant) → AllHave P cells → cell.ant ≡ Some ant → P ant.colour ant.state → AllHave P (put_cell cells p cell)
  goes_on cells p cell ant all is holds = put_cell-have cells p cell all (has P cell ant is holds)

  -- one of two states
  either : (colour : Colour) (b : Bool) (met unmet : ℕ) → P colour met → P colour unmet → P colour (if b then met else unmet)
  either colour b met unmet first second = cond_both b met unmet (P colour) (λ _. first) (λ _. second)

  -- an instruction leads to states of which the fact holds
  execute-have : (sheet : Sheet) (seed : ℕ) (cells : Cells) (place : ℕ) (p : Pos) (ant : Ant) (instruction : Instr) → AllHave P cells → AllByRecursion (P ant.colour) (states_of instruction) → AllHave P (execute sheet seed cells place p ant instruction).cells
  execute-have sheet seed cells place p ant (Sense sight met unmet condition) all holds =
      let saw : Bool = meets (cells (sensed_pos p ant.facing sight)) condition ant.colour in
      goes_on cells p (with_ant (cells p) (in_state ant (if saw then met else unmet))) (in_state ant (if saw then met else unmet)) all refl (either ant.colour saw met unmet holds.0 holds.1.0)
  execute-have sheet seed cells place p ant (Mark i next) all holds =
      goes_on cells p (with_ant (marked (cells p) ant.colour i) (in_state ant next)) (in_state ant next) all refl holds.0
  execute-have sheet seed cells place p ant (Unmark i next) all holds =
      goes_on cells p (with_ant (unmarked (cells p) ant.colour i) (in_state ant next)) (in_state ant next) all refl holds.0
  execute-have sheet seed cells place p ant (PickUp met unmet) all holds =
      let kept : Cell = with_ant (cells p) (in_state ant unmet) in
      let laden : Ant = record ant { laden = true; state = met } in
      let taken : Cell = record (cells p) { food = (cells p).food - 1; ant = Some laden } in
      let barred : Bool = ant.laden || (cells p).food == 0 in
      put_cell-have cells p (if barred then kept else taken) all
      (cond_both barred kept taken (AntHas P) (λ _. has P kept (in_state ant unmet) refl holds.1.0) (λ _. has P taken laden refl holds.0))
  execute-have sheet seed cells place p ant (Drop next) all holds = goes_on cells p _ (record ant { laden = false; state = next }) all refl holds.0
  execute-have sheet seed cells place p ant (Turn side next) all holds = goes_on cells p _ _ all refl holds.0
  execute-have sheet seed cells place p ant (Move met unmet) all holds =
      let ahead : Pos = adjacent_pos p ant.facing in
      cond_both (is_blocked (cells ahead)) _ _ (λ (outcome : Outcome). AllHave P outcome.cells)
      (λ _. goes_on cells p (with_ant (cells p) (in_state ant unmet)) (in_state ant unmet) all refl holds.1.0)
      (λ _. check_all-have sheet (stepped sheet cells p ant ahead met) (places_around ahead) (stepped-have sheet cells p ant ahead met all holds.0))
  execute-have sheet seed cells place p ant (Flip bound met unmet) all holds =
      let first : Bool = drawn seed place bound == 0 in
      goes_on cells p (with_ant (cells p) (in_state ant (if first then met else unmet))) (in_state ant (if first then met else unmet)) all refl (either ant.colour first met unmet holds.0 holds.1.0)

module _ (P : Colour → ℕ → Type 0) (minds : Minds) (onward : (colour : Colour) (state : ℕ) → P colour state → AllByRecursion (P colour) (states_of (instruction_at (mind_of minds colour) state))) where
  acts-have : (n seed : ℕ) (cells : Cells) (place : ℕ) (p : Pos) (ant : Ant) → AllHave P cells → P ant.colour ant.state → AllHave P (acts n minds seed cells place p ant).cells
  acts-have zero seed cells place p ant all holds = execute-have P minds.sheet seed cells place p ant (instruction_at (mind_of minds ant.colour) ant.state) all (onward ant.colour ant.state holds)
  acts-have (suc left) seed cells place p ant all holds = goes_on P cells p (with_ant (cells p) (record ant { resting = left })) (record ant { resting = left }) all refl holds

  turn_at-have : (seed : ℕ) (cells : Cells) (place : ℕ) (p : Pos) (o : Option Ant) → (cells p).ant ≡ o → AllHave P cells → AllHave P (turn_at minds seed cells place p o).cells
  turn_at-have seed cells place p None is all = all
  turn_at-have seed cells place p (Some ant) is all = acts-have ant.resting seed cells place p ant all (all.each p ant is)

  turn_from-have : (seed : ℕ) (cells : Cells) (place : ℕ) (o : Option Pos) → AllHave P cells → AllHave P (turn_from minds seed cells place o).cells
  turn_from-have seed cells place None all = all
  turn_from-have seed cells place (Some p) all = turn_at-have seed cells place p (cells p).ant refl all

  -- a turn
  turn-have : (seed : ℕ) (w : World) (place t : ℕ) → AllHave P w.cells → AllHave P (turn minds seed w place t).cells
  unfolding turn
  turn-have seed w place t all = turn_from-have seed w.cells place (place_in w t) all

-- what stays is no other instruction
pub redirected-self : (instruction : Instr) → redirected (λ state. state) instruction ≡ instruction
redirected-self (Sense sight met unmet condition) = refl
redirected-self it = refl

-- a state of this side has a number
abbrev HasNumber : Numbers → Colour → Colour → ℕ → Type 0
HasNumber numbers colour own state = own ≡ colour → IsSome (numbers state)

-- the number, if there is one
pub the_number : (o : Option ℕ) → IsSome o → (k : ℕ) × (o ≡ Some k)
the_number None none = absurd (cc)
the_number (Some k) some = (k, refl)

-- a state with a number is carried over
carried : (numbers : Numbers) (old new : List Instr) (state : ℕ) → Carries numbers old new → IsSome (numbers state) → instruction_at new (state_number numbers state) ≡ redirected (state_number numbers) (instruction_at old state)
carried numbers old new state carries some =
    let k : (k : ℕ) × (numbers state ≡ Some k) = the_number (numbers state) some in
    ap (λ (o : Option ℕ). instruction_at new (unwrap_or o state)) k.1 ∙ carries.acts state k.0 k.1

-- each ant's instruction is that of the other brain
carried_side : (numbers : Numbers) (colour own : Colour) (minds : Minds) (brain : List Instr) (state : ℕ) → Carries numbers (mind_of minds colour) brain → HasNumber numbers colour own state →
    instruction_at (mind_of (with_mind minds colour brain) own) (side_states numbers colour own state) ≡ redirected (side_states numbers colour own) (instruction_at (mind_of minds own) state)
carried_side numbers Red Red minds brain state carries some = carried numbers minds.red brain state carries (some refl)
carried_side numbers Red Black minds brain state carries some = sym (redirected-self (instruction_at minds.black state))
carried_side numbers Black Red minds brain state carries some = sym (redirected-self (instruction_at minds.red state))
carried_side numbers Black Black minds brain state carries some = carried numbers minds.black brain state carries (some refl)

-- if nothing is asked, it holds of all
AllByRecursion-any : {P : ℕ → Type 0} → ((n : ℕ) → P n) → (list : List ℕ) → AllByRecursion P list
AllByRecursion-any each [] = tt
AllByRecursion-any each (n ∷ list) = (each n, AllByRecursion-any each list)

-- the successors of a numbered state are numbered
onward_own : (numbers : Numbers) (old new : List Instr) (colour : Colour) (state : ℕ) → Carries numbers old new → IsSome (numbers state) → AllByRecursion (HasNumber numbers colour colour) (states_of (instruction_at old state))
onward_own numbers old new colour state carries some =
    let k : (k : ℕ) × (numbers state ≡ Some k) = the_number (numbers state) some in
    AllByRecursion-weaker _ _ (states_of (instruction_at old state)) (carries.onward state k.0 k.1) (λ n holds _. holds)

-- the successors of a state of a side are numbered where it's the side that matters
onward_side : (numbers : Numbers) (colour own : Colour) (minds : Minds) (brain : List Instr) (state : ℕ) → Carries numbers (mind_of minds colour) brain → HasNumber numbers colour own state → AllByRecursion (HasNumber numbers colour own) (states_of (instruction_at (mind_of minds own) state))
onward_side numbers Red Red minds brain state carries some = onward_own numbers minds.red brain Red state carries (some refl)
onward_side numbers Red Black minds brain state carries some = AllByRecursion-any (λ n is. absurd (cc)) (states_of (instruction_at minds.black state))
onward_side numbers Black Red minds brain state carries some = AllByRecursion-any (λ n is. absurd (cc)) (states_of (instruction_at minds.red state))
onward_side numbers Black Black minds brain state carries some = onward_own numbers minds.black brain Black state carries (some refl)

-- the premise in one form and the other
all_numbered : (numbers : Numbers) (colour : Colour) (w : World) → AreNumbered numbers colour w → AllHave (HasNumber numbers colour) w.cells
all_numbered numbers colour w numbered = record { each = numbered.each }

-- another brain of a side changes no rule
pub with_mind-sheet : (minds : Minds) (colour : Colour) (brain : List Instr) → (with_mind minds colour brain).sheet ≡ minds.sheet
with_mind-sheet minds Red brain = refl
with_mind-sheet minds Black brain = refl

-- a turn commutes with renumbering
pub turn-renumbered : (numbers : Numbers) (colour : Colour) (minds : Minds) (brain : List Instr) (seed : ℕ) (w : World) (place t : ℕ) → Carries numbers (mind_of minds colour) brain → AreNumbered numbers colour w →
    turn (with_mind minds colour brain) seed (renumbered numbers colour w) place t ≡ renumbered_outcome numbers colour (turn minds seed w place t)
turn-renumbered numbers colour minds brain seed w place t carries numbered =
    turn-alike (side_states numbers colour) minds (with_mind minds colour brain) (with_mind-sheet minds colour brain) seed w place t
    (λ p ant found is. carried_side numbers colour ant.colour minds brain ant.state carries (numbered.each p ant is))

-- and keeps the premise
pub turn-numbered : (numbers : Numbers) (colour : Colour) (minds : Minds) (brain : List Instr) (seed : ℕ) (w : World) (place t : ℕ) → Carries numbers (mind_of minds colour) brain → AreNumbered numbers colour w →
    AreNumbered numbers colour (with_cells w (turn minds seed w place t).cells)
turn-numbered numbers colour minds brain seed w place t carries numbered =
    let all : AllHave (HasNumber numbers colour) (turn minds seed w place t).cells =
    turn-have (HasNumber numbers colour) minds (λ own state. onward_side numbers colour own minds brain state carries) seed w place t (all_numbered numbers colour w numbered) in
    record { each = all.each }

-- the turn of an id
after_turn-renumbered : (numbers : Numbers) (colour : Colour) (minds : Minds) (brain : List Instr) (seed : ℕ) (m : Moment) (t : ℕ) → Carries numbers (mind_of minds colour) brain → AreNumbered numbers colour m.world →
    after_turn (with_mind minds colour brain) seed (renumbered_moment numbers colour m) t ≡ renumbered_moment numbers colour (after_turn minds seed m t)
unfolding after_turn
after_turn-renumbered numbers colour minds brain seed m t carries numbered =
    ap (moment_after (renumbered_moment numbers colour m)) (turn-renumbered numbers colour minds brain seed m.world m.place t carries numbered)

after_turn-numbered : (numbers : Numbers) (colour : Colour) (minds : Minds) (brain : List Instr) (seed : ℕ) (m : Moment) (t : ℕ) → Carries numbers (mind_of minds colour) brain → AreNumbered numbers colour m.world →
    AreNumbered numbers colour (after_turn minds seed m t).world
unfolding after_turn
after_turn-numbered numbers colour minds brain seed m t carries numbered = turn-numbered numbers colour minds brain seed m.world m.place t carries numbered

-- turns
after_turns-numbered : (numbers : Numbers) (colour : Colour) (minds : Minds) (brain : List Instr) (seed : ℕ) (m : Moment) (from n : ℕ) → Carries numbers (mind_of minds colour) brain → AreNumbered numbers colour m.world →
    AreNumbered numbers colour (after_turns minds seed m from n).world
after_turns-numbered numbers colour minds brain seed m from zero carries numbered = numbered
after_turns-numbered numbers colour minds brain seed m from (suc n) carries numbered =
    after_turn-numbered numbers colour minds brain seed (after_turns minds seed m from n) (from + n) carries (after_turns-numbered numbers colour minds brain seed m from n carries numbered)

after_turns-renumbered : (numbers : Numbers) (colour : Colour) (minds : Minds) (brain : List Instr) (seed : ℕ) (m : Moment) (from n : ℕ) → Carries numbers (mind_of minds colour) brain → AreNumbered numbers colour m.world →
    after_turns (with_mind minds colour brain) seed (renumbered_moment numbers colour m) from n ≡ renumbered_moment numbers colour (after_turns minds seed m from n)
after_turns-renumbered numbers colour minds brain seed m from zero carries numbered = refl
after_turns-renumbered numbers colour minds brain seed m from (suc n) carries numbered =
    ap (λ (now : Moment). after_turn (with_mind minds colour brain) seed now (from + n)) (after_turns-renumbered numbers colour minds brain seed m from n carries numbered)
    ∙ after_turn-renumbered numbers colour minds brain seed (after_turns minds seed m from n) (from + n) carries (after_turns-numbered numbers colour minds brain seed m from n carries numbered)

-- a round
after_round-renumbered : (numbers : Numbers) (colour : Colour) (minds : Minds) (brain : List Instr) (seed : ℕ) (m : Moment) → Carries numbers (mind_of minds colour) brain → AreNumbered numbers colour m.world →
    after_round (with_mind minds colour brain) seed (renumbered_moment numbers colour m) ≡ renumbered_moment numbers colour (after_round minds seed m)
unfolding after_round
after_round-renumbered numbers colour minds brain seed m carries numbered = after_turns-renumbered numbers colour minds brain seed m 0 m.world.ids carries numbered

after_round-numbered : (numbers : Numbers) (colour : Colour) (minds : Minds) (brain : List Instr) (seed : ℕ) (m : Moment) → Carries numbers (mind_of minds colour) brain → AreNumbered numbers colour m.world →
    AreNumbered numbers colour (after_round minds seed m).world
unfolding after_round
after_round-numbered numbers colour minds brain seed m carries numbered = after_turns-numbered numbers colour minds brain seed m 0 m.world.ids carries numbered

-- rounds
pub after_rounds-numbered : (numbers : Numbers) (colour : Colour) (minds : Minds) (brain : List Instr) (seed : ℕ) (m : Moment) (r : ℕ) → Carries numbers (mind_of minds colour) brain → AreNumbered numbers colour m.world →
    AreNumbered numbers colour (after_rounds minds seed m r).world
after_rounds-numbered numbers colour minds brain seed m zero carries numbered = numbered
after_rounds-numbered numbers colour minds brain seed m (suc r) carries numbered =
    after_round-numbered numbers colour minds brain seed (after_rounds minds seed m r) carries (after_rounds-numbered numbers colour minds brain seed m r carries numbered)

pub after_rounds-renumbered : (numbers : Numbers) (colour : Colour) (minds : Minds) (brain : List Instr) (seed : ℕ) (m : Moment) (r : ℕ) → Carries numbers (mind_of minds colour) brain → AreNumbered numbers colour m.world →
    after_rounds (with_mind minds colour brain) seed (renumbered_moment numbers colour m) r ≡ renumbered_moment numbers colour (after_rounds minds seed m r)
after_rounds-renumbered numbers colour minds brain seed m zero carries numbered = refl
after_rounds-renumbered numbers colour minds brain seed m (suc r) carries numbered =
    ap (after_round (with_mind minds colour brain) seed) (after_rounds-renumbered numbers colour minds brain seed m r carries numbered)
    ∙ after_round-renumbered numbers colour minds brain seed (after_rounds minds seed m r) carries (after_rounds-numbered numbers colour minds brain seed m r carries numbered)
