-- What a turn does where ants are in other states and rest for longer or shorter: neither decides anything but what the
-- ant does whose turn it is.
use Rattle.std.proofs.Common.{◌≡◌, ℕ, zero, suc, ◌+◌, ◌-◌, Bool, true, false, cond, if◌then◌else◌, nat_le, List, [], ◌∷◌, ◌++◌, length, filter, Option, Some, None, refl, sym, ap, ap₂, ◌∙◌, ◌&&◌, ◌||◌}
use Rattle.std.specs.Prelude.{option_map, ◌==◌}
use Rattle.std.proofs.Math.Path.{fun_ext}
use Rattle.std.proofs.lemmas.Option.{same_Some}
use Rattle.hex_geometry.specs.declared.position.Pos.{Pos}
use Rattle.hex_geometry.specs.Direction.{turned_by}
use Rattle.hex_geometry.specs.Neighbourhood.{adjacent_pos, neighbours_of, sensed_pos}
use Rattle.hex_geometry.specs.Position.{same_pos}
use Rattle.cell_world.specs.declared.ant.Ant.{Ant}
use Rattle.cell_world.specs.declared.ant.Colour.{Colour}
use Rattle.cell_world.specs.declared.ant.Colour.TheVariants.{Red, Black}
use Rattle.cell_world.specs.declared.cell.Cell.{Cell}
use Rattle.cell_world.specs.Cell.{holds_id, is_ant, is_ant_of, one_if}
use Rattle.cell_world.specs.Colour.{foe_of}
use Rattle.cell_world.specs.World.{Cells, World, area, place_in, put_cell, with_cells}
use Rattle.cell_world.proofs.Places.{Holder, first_of-same, place_in-ant}
use Rattle.brain_read.specs.declared.instr.Cond.{Cond}
use Rattle.brain_read.specs.declared.instr.Cond.TheVariants.{Friend, Foe, FriendWithFood, FoeWithFood, Food, Rock, Marker, FoeMarker, Home, FoeHome}
use Rattle.brain_read.specs.declared.instr.Instr.{Instr}
use Rattle.brain_read.specs.declared.instr.Instr.TheVariants.{Sense, Mark, Unmark, PickUp, Drop, Turn, Move, Flip}
use Rattle.ant_random.specs.Stream.{drawn}
use Rattle.ant_turn.specs.Conditions.{clear_meets, is_laden, is_rock_condition, meets}
use Rattle.ant_turn.specs.Kills.{after_kill, ants_among, check_all, check_at, corpse_food, has_foes, id_of, is_surrounded, killed_all, killed_at, places_around}
use Rattle.ant_turn.specs.Minds.{Minds, mind_of}
use Rattle.ant_turn.specs.Renumber.{redirected, renumbered_ant}
use Rattle.ant_turn.specs.Sheet.{Sheet}
use Rattle.ant_turn.specs.Turn.{Outcome, acts, ant_becomes, arrived, cell_becomes, checked, execute, has_ant, in_state, instruction_at, is_blocked, left_by_ant, marked, stepped, turn, turn_at, turn_from, unmarked, with_ant}

-- a choice between two images is the image of the choice
cond-map : {A B : Type 0} (g : A → B) (b : Bool) (x y : A) → cond b (g x) (g y) ≡ g (cond b x y)
cond-map g true x y = refl
cond-map g false x y = refl

-- this ant acts alike: the other minds have, at the number of its state, its instruction with each state that it names
-- mapped
abbrev pub ActsAlike : (f : Colour → ℕ → ℕ) (minds other : Minds) → Ant → Type 0
ActsAlike f minds other ant = instruction_at (mind_of other ant.colour) (f ant.colour ant.state) ≡ redirected (f ant.colour) (instruction_at (mind_of minds ant.colour) ant.state)

-- so does the ant whose turn it is, if one is at a place
abbrev pub ActsAlikeAt : (f : Colour → ℕ → ℕ) (minds other : Minds) → Cells → Option Pos → Type 0
ActsAlikeAt f minds other cells place = (p : Pos) (ant : Ant) → place ≡ Some p → (cells p).ant ≡ Some ant → ActsAlike f minds other ant

-- each ant determines its other state and for how long it rests: no test on an ant asks for either
module _ (state rest : Ant → ℕ) where
  abbrev pub mapped_ant : Ant → Ant
  mapped_ant ant = record ant { state = state ant; resting = rest ant }

  abbrev pub mapped_cell : Cell → Cell
  mapped_cell cell = record cell { ant = option_map mapped_ant cell.ant }

  abbrev pub mapped_cells : Cells → Cells
  mapped_cells cells p = mapped_cell (cells p)

  is_ant_of-mapped : (colour : Colour) (o : Option Ant) → is_ant_of colour (option_map mapped_ant o) ≡ is_ant_of colour o
  is_ant_of-mapped colour None = refl
  is_ant_of-mapped colour (Some ant) = refl

  is_laden-mapped : (o : Option Ant) → is_laden (option_map mapped_ant o) ≡ is_laden o
  is_laden-mapped None = refl
  is_laden-mapped (Some ant) = refl

  pub has_ant-mapped : (o : Option Ant) → has_ant (option_map mapped_ant o) ≡ has_ant o
  has_ant-mapped None = refl
  has_ant-mapped (Some ant) = refl

  corpse_food-mapped : (sheet : Sheet) (o : Option Ant) → corpse_food sheet (option_map mapped_ant o) ≡ corpse_food sheet o
  corpse_food-mapped sheet None = refl
  corpse_food-mapped sheet (Some ant) = refl

  id_of-mapped : (o : Option Ant) → id_of (option_map mapped_ant o) ≡ id_of o
  id_of-mapped None = refl
  id_of-mapped (Some ant) = refl

  is_ant-mapped : (t : ℕ) (o : Option Ant) → is_ant t (option_map mapped_ant o) ≡ is_ant t o
  is_ant-mapped t None = refl
  is_ant-mapped t (Some ant) = refl

  -- each ant is where it was
  pub place_in-mapped : (w : World) (t : ℕ) → place_in (with_cells w (mapped_cells w.cells)) t ≡ place_in w t
  unfolding place_in
  place_in-mapped w t =
      first_of-same w.width (λ p. holds_id t (mapped_cell (w.cells p))) (λ p. holds_id t (w.cells p)) (area w) (λ p. is_ant-mapped t (w.cells p).ant)

  -- what is put is put mapped
  put_cell-mapped : (cells : Cells) (p : Pos) (cell : Cell) → put_cell (mapped_cells cells) p (mapped_cell cell) ≡ mapped_cells (put_cell cells p cell)
  unfolding put_cell
  put_cell-mapped cells p cell = fun_ext λ q. cond-map mapped_cell (same_pos p q) cell (cells q)

  -- clear cells meet what they met
  clear_meets-mapped : (cell : Cell) (condition : Cond) (colour : Colour) → clear_meets (mapped_cell cell) condition colour ≡ clear_meets cell condition colour
  clear_meets-mapped cell Friend colour = is_ant_of-mapped colour cell.ant
  clear_meets-mapped cell Foe colour = is_ant_of-mapped (foe_of colour) cell.ant
  clear_meets-mapped cell FriendWithFood colour = ap₂ ◌&&◌ (is_ant_of-mapped colour cell.ant) (is_laden-mapped cell.ant)
  clear_meets-mapped cell FoeWithFood colour = ap₂ ◌&&◌ (is_ant_of-mapped (foe_of colour) cell.ant) (is_laden-mapped cell.ant)
  clear_meets-mapped cell Food colour = refl
  clear_meets-mapped cell Rock colour = refl
  clear_meets-mapped cell (Marker i) Red = refl
  clear_meets-mapped cell (Marker i) Black = refl
  clear_meets-mapped cell FoeMarker Red = refl
  clear_meets-mapped cell FoeMarker Black = refl
  clear_meets-mapped cell Home colour = refl
  clear_meets-mapped cell FoeHome colour = refl

  -- so do all cells
  pub meets-mapped : (cell : Cell) (condition : Cond) (colour : Colour) → meets (mapped_cell cell) condition colour ≡ meets cell condition colour
  unfolding meets
  meets-mapped cell condition colour = ap (cond cell.rocky (is_rock_condition condition)) (clear_meets-mapped cell condition colour)

  -- a cell is blocked where it was
  is_blocked-mapped : (cell : Cell) → is_blocked (mapped_cell cell) ≡ is_blocked cell
  is_blocked-mapped cell = ap (λ b. cell.rocky || b) (has_ant-mapped cell.ant)

  -- as many ants of each colour are among some cells
  ants_among-mapped : (cells : Cells) (colour : Colour) (places : List Pos) → ants_among (mapped_cells cells) colour places ≡ ants_among cells colour places
  ants_among-mapped cells colour places = ap (λ (test : Pos → Bool). length (filter test places)) (fun_ext λ q. is_ant_of-mapped colour (cells q).ant)

  has_foes-mapped : (sheet : Sheet) (cells : Cells) (places : List Pos) (o : Option Ant) → has_foes sheet (mapped_cells cells) places (option_map mapped_ant o) ≡ has_foes sheet cells places o
  has_foes-mapped sheet cells places None = refl
  has_foes-mapped sheet cells places (Some ant) = ap (nat_le sheet.surround) (ants_among-mapped cells (foe_of ant.colour) places)

  -- the same ants are surrounded
  is_surrounded-mapped : (sheet : Sheet) (cells : Cells) (p : Pos) → is_surrounded sheet (mapped_cells cells) p ≡ is_surrounded sheet cells p
  unfolding is_surrounded
  is_surrounded-mapped sheet cells p = has_foes-mapped sheet cells (neighbours_of p) (cells p).ant

  -- a kill leaves the same
  after_kill-mapped : (sheet : Sheet) (cell : Cell) → after_kill sheet (mapped_cell cell) ≡ mapped_cell (after_kill sheet cell)
  after_kill-mapped sheet cell = ap (λ n. let after : Cell = record cell { food = cell.food + n; ant = None } in after) (corpse_food-mapped sheet cell.ant)

  -- a check
  check_at-mapped : (sheet : Sheet) (cells : Cells) (p : Pos) → check_at sheet (mapped_cells cells) p ≡ mapped_cells (check_at sheet cells p)
  unfolding check_at
  check_at-mapped sheet cells p =
      let killed : Cells = put_cell cells p (after_kill sheet (cells p)) in
      let same : put_cell (mapped_cells cells) p (after_kill sheet (mapped_cell (cells p))) ≡ mapped_cells killed =
      ap (put_cell (mapped_cells cells) p) (after_kill-mapped sheet (cells p)) ∙ put_cell-mapped cells p (after_kill sheet (cells p)) in
      ap₂ (λ (b : Bool) (struck : Cells). cond b struck (mapped_cells cells)) (is_surrounded-mapped sheet cells p) same
      ∙ cond-map (mapped_cells) (is_surrounded sheet cells p) killed cells

  -- whom it kills
  killed_at-mapped : (sheet : Sheet) (cells : Cells) (p : Pos) → killed_at sheet (mapped_cells cells) p ≡ killed_at sheet cells p
  unfolding killed_at
  killed_at-mapped sheet cells p =
      ap₂ (λ (b : Bool) (ids : List ℕ). cond b ids []) (is_surrounded-mapped sheet cells p) (id_of-mapped (cells p).ant)

  -- checks
  check_all-mapped : (sheet : Sheet) (cells : Cells) (places : List Pos) → check_all sheet (mapped_cells cells) places ≡ mapped_cells (check_all sheet cells places)
  check_all-mapped sheet cells [] = refl
  check_all-mapped sheet cells (p ∷ places) =
      ap (λ (now : Cells). check_all sheet now places) (check_at-mapped sheet cells p) ∙ check_all-mapped sheet (check_at sheet cells p) places

  -- whom they kill
  killed_all-mapped : (sheet : Sheet) (cells : Cells) (places : List Pos) → killed_all sheet (mapped_cells cells) places ≡ killed_all sheet cells places
  killed_all-mapped sheet cells [] = refl
  killed_all-mapped sheet cells (p ∷ places) =
      ap₂ ◌++◌ (killed_at-mapped sheet cells p) (ap (λ (now : Cells). killed_all sheet now places) (check_at-mapped sheet cells p) ∙ killed_all-mapped sheet (check_at sheet cells p) places)

  -- what a turn made, mapped
  abbrev pub after : Outcome → Outcome
  after outcome = record outcome { cells = mapped_cells outcome.cells }

  -- the checks around a cell
  checked-mapped : (sheet : Sheet) (cells : Cells) (q : Pos) → checked sheet (mapped_cells cells) q ≡ after (checked sheet cells q)
  checked-mapped sheet cells q =
      ap₂ (λ (now : Cells) (ids : List ℕ). let outcome : Outcome = record { cells = now; drew = false; killed = ids } in outcome)
      (check_all-mapped sheet cells (places_around q)) (killed_all-mapped sheet cells (places_around q))

  -- a marker that is set, and one that is cleared
  marked-mapped : (colour : Colour) (cell : Cell) (i : ℕ) (ant : Ant) → with_ant (marked (mapped_cell cell) colour i) ant ≡ with_ant (marked cell colour i) ant
  marked-mapped Red cell i ant = refl
  marked-mapped Black cell i ant = refl

  unmarked-mapped : (colour : Colour) (cell : Cell) (i : ℕ) (ant : Ant) → with_ant (unmarked (mapped_cell cell) colour i) ant ≡ with_ant (unmarked cell colour i) ant
  unmarked-mapped Red cell i ant = refl
  unmarked-mapped Black cell i ant = refl

  -- the ant whose turn it is rests as long as before, and its state has a number
  module _ (t : ℕ) (f : Colour → ℕ → ℕ) (own : (ant : Ant) → ant.id ≡ t → mapped_ant ant ≡ renumbered_ant f ant) where
    -- a cell with it
    own_cell : (cell : Cell) (ant : Ant) → ant.id ≡ t → with_ant cell (renumbered_ant f ant) ≡ mapped_cell (with_ant cell ant)
    own_cell cell ant same = ap (with_ant cell) (sym (own ant same))

    -- a changed cell, with a draw or without
    cell-mapped : (drew : Bool) (cells : Cells) (p : Pos) (cell other : Cell) → other ≡ mapped_cell cell →
        record { cells = put_cell (mapped_cells cells) p other; drew = drew; killed = [] } ≡ after (record { cells = put_cell cells p cell; drew = drew; killed = [] })
    cell-mapped drew cells p cell other same =
        ap (λ (now : Cells). let outcome : Outcome = record { cells = now; drew = drew; killed = [] } in outcome)
        (ap (put_cell (mapped_cells cells) p) same ∙ put_cell-mapped cells p cell)

    -- a cell with the ant
    ant-mapped : (drew : Bool) (cells : Cells) (p : Pos) (cell : Cell) (ant : Ant) → ant.id ≡ t →
        record { cells = put_cell (mapped_cells cells) p (with_ant cell (renumbered_ant f ant)); drew = drew; killed = [] } ≡ after (record { cells = put_cell cells p (with_ant cell ant); drew = drew; killed = [] })
    ant-mapped drew cells p cell ant same = cell-mapped drew cells p (with_ant cell ant) _ (own_cell cell ant same)

    -- an ant that continues in one of two states
    branches-mapped : (drew : Bool) (cells : Cells) (p : Pos) (ant : Ant) (b now : Bool) (met unmet : ℕ) → now ≡ b → ant.id ≡ t →
        record { cells = put_cell (mapped_cells cells) p (with_ant (cells p) (in_state ant (if now then f ant.colour met else f ant.colour unmet))); drew = drew; killed = [] }
        ≡ after (record { cells = put_cell cells p (with_ant (cells p) (in_state ant (if b then met else unmet))); drew = drew; killed = [] })
    branches-mapped drew cells p ant b now met unmet same is =
        ap (λ (n : ℕ). let outcome : Outcome = record { cells = put_cell (mapped_cells cells) p (with_ant (cells p) (in_state ant n)); drew = drew; killed = [] } in outcome)
        (ap (λ (test : Bool). cond test (f ant.colour met) (f ant.colour unmet)) same ∙ cond-map (f ant.colour) b met unmet)
        ∙ ant-mapped drew cells p (cells p) (in_state ant (if b then met else unmet)) is

    -- a step
    stepped-mapped : (sheet : Sheet) (cells : Cells) (p : Pos) (ant : Ant) (q : Pos) (next : ℕ) → ant.id ≡ t → stepped sheet (mapped_cells cells) p (renumbered_ant f ant) q (f ant.colour next) ≡ mapped_cells (stepped sheet cells p ant q next)
    unfolding stepped
    stepped-mapped sheet cells p ant q next same =
        let left : Cells = put_cell cells p (left_by_ant (cells p)) in
        let new : Ant = arrived sheet ant next in
        ap (λ (now : Cells). put_cell now q (with_ant (cells q) (renumbered_ant f new))) (put_cell-mapped cells p (left_by_ant (cells p)))
        ∙ ap (put_cell (mapped_cells left) q) (own_cell (cells q) new same)
        ∙ put_cell-mapped left q (with_ant (cells q) new)

    -- what an instruction does
    execute-mapped : (sheet : Sheet) (seed : ℕ) (cells : Cells) (place : ℕ) (p : Pos) (ant : Ant) (instruction : Instr) → ant.id ≡ t →
        execute sheet seed (mapped_cells cells) place p (renumbered_ant f ant) (redirected (f ant.colour) instruction) ≡ after (execute sheet seed cells place p ant instruction)
    execute-mapped sheet seed cells place p ant (Sense sight met unmet condition) same =
        let seen : Cell = cells (sensed_pos p ant.facing sight) in
        branches-mapped false cells p ant (meets seen condition ant.colour) (meets (mapped_cell seen) condition ant.colour) met unmet (meets-mapped seen condition ant.colour) same
    execute-mapped sheet seed cells place p ant (Mark i next) same =
        let new : Ant = in_state ant next in
        ap (cell_becomes (mapped_cells cells) p) (marked-mapped ant.colour (cells p) i (renumbered_ant f new)) ∙ ant-mapped false cells p (marked (cells p) ant.colour i) new same
    execute-mapped sheet seed cells place p ant (Unmark i next) same =
        let new : Ant = in_state ant next in
        ap (cell_becomes (mapped_cells cells) p) (unmarked-mapped ant.colour (cells p) i (renumbered_ant f new)) ∙ ant-mapped false cells p (unmarked (cells p) ant.colour i) new same
    execute-mapped sheet seed cells place p ant (PickUp met unmet) same =
        let barred : Bool = ant.laden || (cells p).food == 0 in
        let less : Cell = record (cells p) { food = (cells p).food - 1 } in
        let kept : Ant = in_state ant unmet in
        let laden : Ant = record ant { laden = true; state = met } in
        cell-mapped false cells p (if barred then with_ant (cells p) kept else with_ant less laden) _
        (ap₂ (λ (x y : Cell). cond barred x y) (own_cell (cells p) kept same) (own_cell less laden same) ∙ cond-map mapped_cell barred (with_ant (cells p) kept) (with_ant less laden))
    execute-mapped sheet seed cells place p ant (Drop next) same =
        let more : Cell = record (cells p) { food = (cells p).food + one_if ant.laden } in
        ant-mapped false cells p more (record ant { laden = false; state = next }) same
    execute-mapped sheet seed cells place p ant (Turn side next) same = ant-mapped false cells p (cells p) (record ant { facing = turned_by ant.facing side; state = next }) same
    execute-mapped sheet seed cells place p ant (Move met unmet) same =
        let ahead : Pos = adjacent_pos p ant.facing in
        let kept : Outcome = ant_becomes cells p (in_state ant unmet) in
        let gone : Outcome = checked sheet (stepped sheet cells p ant ahead met) ahead in
        let goes : checked sheet (stepped sheet (mapped_cells cells) p (renumbered_ant f ant) ahead (f ant.colour met)) ahead ≡ after gone =
        ap (λ (now : Cells). checked sheet now ahead) (stepped-mapped sheet cells p ant ahead met same) ∙ checked-mapped sheet (stepped sheet cells p ant ahead met) ahead in
        let stays : ant_becomes (mapped_cells cells) p (in_state ant (f ant.colour unmet)) ≡ after kept = ant-mapped false cells p (cells p) (in_state ant unmet) same in
        ap (λ (b : Bool). cond b (ant_becomes (mapped_cells cells) p (in_state ant (f ant.colour unmet))) (checked sheet (stepped sheet (mapped_cells cells) p (renumbered_ant f ant) ahead (f ant.colour met)) ahead)) (is_blocked-mapped (cells ahead))
        ∙ ap₂ (λ (x y : Outcome). cond (is_blocked (cells ahead)) x y) stays goes
        ∙ cond-map after (is_blocked (cells ahead)) kept gone
    execute-mapped sheet seed cells place p ant (Flip bound met unmet) same =
        branches-mapped true cells p ant (drawn seed place bound == 0) (drawn seed place bound == 0) met unmet refl same

    -- other minds under the same rules
    module _ (minds other : Minds) (rules : other.sheet ≡ minds.sheet) where
      acts-mapped : (n seed : ℕ) (cells : Cells) (place : ℕ) (p : Pos) (ant : Ant) → ActsAlike f minds other ant → ant.id ≡ t →
          acts n other seed (mapped_cells cells) place p (renumbered_ant f ant) ≡ after (acts n minds seed cells place p ant)
      acts-mapped zero seed cells place p ant alike same =
          ap₂ (λ sheet instruction. execute sheet seed (mapped_cells cells) place p (renumbered_ant f ant) instruction) rules alike
          ∙ execute-mapped minds.sheet seed cells place p ant (instruction_at (mind_of minds ant.colour) ant.state) same
      acts-mapped (suc left) seed cells place p ant alike same = ant-mapped false cells p (cells p) (record ant { resting = left }) same

      turn_at-mapped : (seed : ℕ) (cells : Cells) (place : ℕ) (p : Pos) (o : Option Ant) → ((ant : Ant) → o ≡ Some ant → ActsAlike f minds other ant) → ((ant : Ant) → o ≡ Some ant → ant.id ≡ t) →
          turn_at other seed (mapped_cells cells) place p (option_map mapped_ant o) ≡ after (turn_at minds seed cells place p o)
      turn_at-mapped seed cells place p None alike same = refl
      turn_at-mapped seed cells place p (Some ant) alike same =
          ap (λ (a : Ant). acts a.resting other seed (mapped_cells cells) place p a) (own ant (same ant refl)) ∙ acts-mapped ant.resting seed cells place p ant (alike ant refl) (same ant refl)

      turn_from-mapped : (seed : ℕ) (w : World) (place : ℕ) (o : Option Pos) → place_in w t ≡ o → ActsAlikeAt f minds other w.cells o →
          turn_from other seed (mapped_cells w.cells) place o ≡ after (turn_from minds seed w.cells place o)
      turn_from-mapped seed w place None found alike = refl
      turn_from-mapped seed w place (Some p) found alike =
          let it : Holder t (w.cells p).ant = place_in-ant w t p found in
          turn_at-mapped seed w.cells place p (w.cells p).ant (λ ant is. alike p ant refl is)
          (λ ant is. ap (λ (a : Ant). a.id) (same_Some ant it.ant (sym is ∙ it.is)) ∙ it.id)

      -- its turn does the same, if it acts alike
      pub turn-mapped : (seed : ℕ) (w : World) (place : ℕ) → ActsAlikeAt f minds other w.cells (place_in w t) → turn other seed (with_cells w (mapped_cells w.cells)) place t ≡ after (turn minds seed w place t)
      unfolding turn
      turn-mapped seed w place alike =
          ap (turn_from other seed (mapped_cells w.cells) place) (place_in-mapped w t) ∙ turn_from-mapped seed w place (place_in w t) refl alike
