-- A turn after which an ant is left where it stood, on as much food, changes no break but those of states.
use Rattle.std.proofs.Common.{◌≡◌, inl, inr, ⊎_elim, ◌+◌, ℕ, Bool, true, false, nat_eq, nat_le, nat_lt, not, ◌&&◌, List, [], ◌∷◌, Option, Some, None, cond, refl, sym, ap, ◌∙◌, subst, eqb-true}
use Rattle.std.specs.Prelude.{◌==◌}
use Rattle.std.specs.List.{AllByRecursion}
use Rattle.std.specs.Option.{is_some}
use Rattle.std.proofs.lemmas.Bool.{and_parts, cond_both, false_from_ne_true}
use Rattle.hex_geometry.specs.declared.position.Pos.{Pos}
use Rattle.hex_geometry.specs.Neighbourhood.{adjacent_pos}
use Rattle.cell_world.specs.declared.ant.Ant.{Ant}
use Rattle.cell_world.specs.declared.ant.Colour.{Colour}
use Rattle.cell_world.specs.declared.cell.Cell.{Cell}
use Rattle.cell_world.specs.Cell.{is_ant, is_ant_of}
use Rattle.cell_world.specs.Colour.{same_colour}
use Rattle.cell_world.specs.World.{Cells, World, place_in, put, put_cell, with_cells}
use Rattle.cell_world.proofs.Places.{place_in-inside, place_in-put_other}
use Rattle.cell_world.proofs.Puts.{cases_pos, put_cell-other, put_cell-same}
use Rattle.brain_read.specs.declared.instr.Instr.{Instr}
use Rattle.ant_turn.specs.Kills.{places_around}
use Rattle.ant_turn.specs.Minds.{Minds, mind_of}
use Rattle.ant_turn.specs.Sheet.{Sheet}
use Rattle.ant_turn.specs.Turn.{Outcome, has_ant, instruction_at, stepped, turn}
use Rattle.ant_turn.proofs.KeptByTurns.{free_apart}
use Rattle.ant_turn.proofs.OwnCells.{Stays}
use Rattle.ant_turn.proofs.TurnParts.{Does, Stayed, turn_parts}
use Rattle.spec_record.proofs.QuietMoves.{stepped-from}
use Rattle.round_book.proofs.CountLemmas.{same_colour-true}
use Rattle.break_view.specs.declared.breaks.Break.{Break}
use Rattle.break_view.specs.declared.breaks.Break.TheVariants.{Round, State, Stand, Food, Killed, Score}
use Rattle.break_view.specs.Inner.CellScores.{cell_at}
use Rattle.break_view.specs.Met.{ant_at, clear_cell, first_met, has_ant_of, if_clear, is_fed, is_in_state, is_met}
use Rattle.break_view.specs.Inner.Changes.{IsNamed, IsQuietButStates, LooksSame, food_in, is_left, names, names_ant}
use Rattle.break_view.proofs.HillFood.{put-keeps, spared}

-- a test of a clear cell gives the same after a change of the cell that it doesn't tell
clear_same : (old new : Cell) (test : Option Cell → Bool) → new.rocky ≡ old.rocky → test (Some new) ≡ test (Some old) → test (if_clear new) ≡ test (if_clear old)
clear_same old new test rocky same = go old.rocky refl where
  go : (b : Bool) → old.rocky ≡ b → test (if_clear new) ≡ test (if_clear old)
  go true e = ap (λ (r : Bool). test (cond r None (Some new))) (rocky ∙ e) ∙ sym (ap (λ (r : Bool). test (cond r None (Some old))) e)
  go false e = ap (λ (r : Bool). test (cond r None (Some new))) (rocky ∙ e) ∙ same ∙ sym (ap (λ (r : Bool). test (cond r None (Some old))) e)

-- after a change of one cell that breaks see as before
put_sees : (w : World) (p : Pos) (new : Cell) (test : Option Cell → Bool) → new.rocky ≡ (w.cells p).rocky → test (Some new) ≡ test (Some (w.cells p)) → (x y : ℕ) → test (clear_cell (put w p new) x y) ≡ test (clear_cell w x y)
put_sees w p new test rocky same x y = elim (cases_pos p (record { x = x; y = y })) [
  | inl one ↦ subst (λ (q : Pos). test (if_clear (put_cell w.cells p new q)) ≡ test (if_clear (w.cells q))) one
      (ap (λ (c : Cell). test (if_clear c)) (put_cell-same w.cells p new) ∙ clear_same (w.cells p) new test rocky same)
  | inr apart ↦ ap (λ (c : Cell). test (if_clear c)) (put_cell-other w.cells p new (record { x = x; y = y }) apart)
]

-- an ant that stays on as much food
pub put_looks : {instruction : Instr} {ant : Ant} (w : World) (p : Pos) (t : ℕ) (new : Cell) → place_in w t ≡ Some p → (w.cells p).ant ≡ Some ant → Stays instruction (w.cells p) ant new → new.food ≡ (w.cells p).food → LooksSame w (put w p new)
put_looks w p t new found is stays food (Round round) r _ _ asks = refl
put_looks w p t new found is stays food (State colour state) r _ _ asks = absurd (let never : true ≡ false = asks in cc)
put_looks w p t new found is stays food (Stand colour x y) r _ _ asks =
    put_sees w p new (has_ant_of colour) stays.same_kind
    (ap (is_ant_of colour) stays.holds ∙ ap (same_colour colour) stays.same_colour ∙ sym (ap (is_ant_of colour) is)) x y
put_looks w p t new found is stays food (Food x y least) r _ _ asks = put_sees w p new (is_fed least) stays.same_kind (ap (λ (f : ℕ). nat_le least f) food) x y
put_looks w p t new found is stays food (Killed id) r _ _ asks =
    ap (λ (o : Option Pos). nat_lt id w.ids && not (is_some o))
    (place_in-put_other w p new id (ap (is_ant id) is ∙ ap (λ (i : ℕ). nat_eq i id) (sym stays.same_id) ∙ sym (ap (is_ant id) stays.holds)))
put_looks w p t new found is stays food (Score colour least) r _ _ asks = ap (nat_le least) (put-keeps w p new (place_in-inside w t p found) stays.same_hill food colour)

-- if an ant is left on its own cell and no ant was killed, it stayed
does_stay : (instruction : Instr) (sheet : Sheet) (cells : Cells) (p : Pos) (ant : Ant) (outcome : Outcome) → (cells p).ant ≡ Some ant → Does instruction sheet cells p ant outcome → outcome.killed ≡ [] → has_ant (outcome.cells p).ant ≡ true
    → Stayed instruction cells p ant outcome
does_stay instruction sheet cells p ant outcome is (inl stayed) none there = stayed
does_stay instruction sheet cells p ant outcome is (inr went) none there =
    let q : Pos = adjacent_pos p ant.facing in
    let spares = spared sheet (places_around q) (stepped sheet cells p ant q went.next) (ap (λ (o : Outcome). o.killed) (sym went.is) ∙ none) in
    let gone : has_ant (outcome.cells p).ant ≡ false =
    ap (λ (o : Outcome). has_ant (o.cells p).ant) went.is ∙ ap (λ (now : Cells). has_ant (now p).ant) spares
    ∙ ap (λ (c : Cell). has_ant c.ant) (stepped-from sheet cells p ant q went.next (free_apart cells p ant q is went.free)) in
    absurd (let both : false ≡ true = sym gone ∙ there in cc)

-- a world looks like itself
pub same_world : (w : World) → LooksSame w w
same_world w (Round round) r _ _ asks = refl
same_world w (State colour state) r _ _ asks = absurd (let never : true ≡ false = asks in cc)
same_world w (Stand colour x y) r _ _ asks = refl
same_world w (Food x y least) r _ _ asks = refl
same_world w (Killed id) r _ _ asks = refl
same_world w (Score colour least) r _ _ asks = refl

-- so its turn changes no break but those of states
turn_looks : (minds : Minds) (seed : ℕ) (w : World) (place t : ℕ) → (turn minds seed w place t).killed ≡ []
    → is_left (cell_at (with_cells w (turn minds seed w place t).cells) (place_in w t)) (food_in (cell_at w (place_in w t))) ≡ true
    → LooksSame w (with_cells w (turn minds seed w place t).cells)
turn_looks minds seed w place t none left = ⊎_elim
    (λ nothing. subst (λ (o : Outcome). LooksSame w (with_cells w o.cells)) (sym nothing) (same_world w))
    (λ acted.
    let now = turn minds seed w place t in
    let there : has_ant (now.cells acted.p).ant && ((now.cells acted.p).food == (w.cells acted.p).food) ≡ true =
    subst (λ (o : Option Pos). is_left (cell_at (with_cells w now.cells) o) (food_in (cell_at w o)) ≡ true) acted.place left in
    let parts = and_parts (has_ant (now.cells acted.p).ant) ((now.cells acted.p).food == (w.cells acted.p).food) there in
    let stayed = does_stay (instruction_at (mind_of minds acted.ant.colour) acted.ant.state) minds.sheet w.cells acted.p acted.ant now acted.is acted.does none parts.0 in
    let own : now.cells acted.p ≡ stayed.new = ap (λ (cells : Cells). cells acted.p) stayed.cells_after ∙ put_cell-same w.cells acted.p stayed.new in
    let food : stayed.new.food ≡ (w.cells acted.p).food = ap (λ (c : Cell). c.food) (sym own) ∙ eqb-true _ _ parts.1 in
    subst (λ (cells : Cells). LooksSame w (with_cells w cells)) (sym stayed.cells_after) (put_looks w acted.p t stayed.new acted.place acted.is stayed.stays food))
    (turn_parts minds seed w place t)

-- the same of what is known by equations
pub looks_same : (minds : Minds) (seed : ℕ) (w : World) (place t : ℕ) (o : Option Pos) (new : World) (before after : Option Cell) → (turn minds seed w place t).killed ≡ []
    → o ≡ place_in w t → before ≡ cell_at w o → new ≡ with_cells w (turn minds seed w place t).cells → after ≡ cell_at new o → is_left after (food_in before) ≡ true → LooksSame w new
looks_same minds seed w place t o new before after none is_place is_before is_new is_after left =
    subst (LooksSame w) (sym is_new)
    (turn_looks minds seed w place t none
    (subst (λ (v : World). is_left (cell_at v (place_in w t)) (food_in (cell_at w (place_in w t))) ≡ true) is_new
    (subst (λ (q : Option Pos). is_left (cell_at new q) (food_in (cell_at w q)) ≡ true) is_place
    (subst (λ (c : Option Cell). is_left c (food_in (cell_at w o)) ≡ true) is_after
    (subst (λ (c : Option Cell). is_left after (food_in c) ≡ true) is_before left)))))

-- an ant whose state no table names is in the state of no break
state_away : (red black : List Bool) (colour : Colour) (state : ℕ) (o : Option Ant) → names red black colour state ≡ true → names_ant red black o ≡ false → is_in_state colour state o ≡ false
state_away red black colour state None named away = refl
state_away red black colour state (Some ant) named away = false_from_ne_true (same_colour colour ant.colour && (ant.state == state)) λ both.
    let parts = and_parts (same_colour colour ant.colour) (ant.state == state) both in
    let here : names red black ant.colour ant.state ≡ names red black colour state =
    ap (names red black ant.colour) (eqb-true ant.state state parts.1) ∙ ap (λ (c : Colour). names red black c state) (sym (same_colour-true colour ant.colour parts.0)) in
    let never : false ≡ true = sym away ∙ here ∙ named in
    absurd (cc)

module _ (w v : World) (r t u : ℕ) (looks : LooksSame w v) (red black : List Bool) (away : names_ant red black (ant_at v (place_in v u)) ≡ false) where
  item_unmet : (item : Break) → IsNamed red black item → is_met item w r t ≡ false → is_met item v r u ≡ false
  item_unmet (State colour state) named unmet = state_away red black colour state (ant_at v (place_in v u)) named away
  item_unmet it named unmet = looks it r t u refl ∙ unmet

  list_unmet : (items : List Break) (number : ℕ) → AllByRecursion (IsNamed red black) items → first_met number items w r t ≡ None → first_met number items v r u ≡ None
  list_unmet [] number named none = refl
  list_unmet (item ∷ items) number named none = cond_both (is_met item w r t) (Some number) (first_met (number + 1) items w r t)
      (λ (o : Option ℕ). o ≡ None → first_met number (item ∷ items) v r u ≡ None)
      (λ _ never. absurd (cc))
      (λ unmet rest.
      ap (λ (b : Bool). cond b (Some number) (first_met (number + 1) items v r u)) (item_unmet item named.0 unmet) ∙ list_unmet items (number + 1) named.1 rest)
      none

-- if no break held after the turn before, and none but those of states can have changed, none holds unless one of a
-- state
pub still_quiet : (items : List Break) (w v : World) (r t u : ℕ) → LooksSame w v → first_met 1 items w r t ≡ None → IsQuietButStates items v r u
still_quiet items w v r t u looks none = λ red black named away. list_unmet w v r t u looks red black away items 1 named none
