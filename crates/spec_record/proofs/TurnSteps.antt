-- A turn of two worlds at once.
use Rattle.std.proofs.Common.{◌≡◌, ◌≢◌, ℕ, zero, suc, ◌+◌, ◌-◌, Bool, true, false, if◌then◌else◌, ◌||◌, ◌&&◌, nat_lt, Option, Some, None, option_map, List, [], ◌∷◌, ◌++◌, map, refl, sym, ◌∙◌, ap, ap₂, subst}
use Rattle.std.specs.Prelude.{◌==◌}
use Rattle.std.specs.List.{AllByRecursion, flat_map}
use Rattle.std.proofs.lemmas.Bool.{cond-true, eq-eqb}
use Rattle.list_lemmas.proofs.AllElements.{AllByRecursion-weaker}
use Rattle.hex_geometry.specs.declared.position.Pos.{Pos}
use Rattle.hex_geometry.specs.Direction.{turned_by}
use Rattle.hex_geometry.specs.Neighbourhood.{adjacent_pos, neighbours_of, sensed_pos}
use Rattle.hex_geometry.specs.Position.{IsInside}
use Rattle.cell_world.specs.declared.ant.Ant.{Ant}
use Rattle.cell_world.specs.declared.ant.Colour.{Colour}
use Rattle.cell_world.specs.declared.ant.Colour.TheVariants.{Red, Black}
use Rattle.cell_world.specs.declared.cell.Cell.{Cell}
use Rattle.cell_world.specs.declared.part.Part.TheVariants as part
use Rattle.cell_world.specs.Cell.{holds_id, is_ant, is_hill_of, marks_of, one_if}
use Rattle.cell_world.specs.Colour.{foe_of}
use Rattle.cell_world.specs.Marks.{has_any_mark, has_mark, with_mark, without_mark}
use Rattle.cell_world.specs.Parts.{Agree, Alike, identity_of, only, posture_of, union}
use Rattle.cell_world.specs.World.{Cells, World, place_in, put_cell}
use Rattle.cell_world.proofs.Patches.{same_parts_ant, some_one}
use Rattle.cell_world.proofs.Places.{Holder, place_in-ant, place_in-inside, place_in-only}
use Rattle.cell_world.proofs.Puts.{put_cell-other}
use Rattle.brain_read.specs.declared.instr.Cond.{Cond}
use Rattle.brain_read.specs.declared.instr.Cond.TheVariants.{Friend, Foe, FriendWithFood, FoeWithFood, Food, Rock, Marker, FoeMarker, Home, FoeHome}
use Rattle.brain_read.specs.declared.instr.Instr.{Instr}
use Rattle.brain_read.specs.declared.instr.Instr.TheVariants.{Sense, Mark, Unmark, PickUp, Drop, Turn, Move, Flip}
use Rattle.ant_random.specs.Stream.{drawn}
use Rattle.ant_turn.specs.Conditions.{clear_meets, is_laden, is_rock_condition, meets}
use Rattle.ant_turn.specs.Kills.{places_around}
use Rattle.ant_turn.specs.Minds.{Minds, mind_of}
use Rattle.ant_turn.specs.Sheet.{Sheet}
use Rattle.ant_turn.specs.Turn.{Outcome, acts, ant_becomes, arrived, checked, execute, in_state, instruction_at, is_blocked, left_by_ant, marked, stepped, turn, turn_from, turn_at, unmarked, with_ant}
use Rattle.ant_turn.proofs.KeptByTurns.{free_apart}
use Rattle.spec_record.specs.Claims.{Claim, claim}
use Rattle.spec_record.specs.Guess.{flips, flips_from, flips_now, is_flip}
use Rattle.spec_record.specs.Holds.{Holds}
use Rattle.spec_record.specs.Locality.{GoesOn}
use Rattle.spec_record.specs.Reads.{asked, emptied, load_and_food, marks_part, neighbours_if_manned, reads, reads_acting, reads_besides, reads_from, reads_going, reads_of, seen_around, whole_ant}
use Rattle.spec_record.specs.Writes.{writes_acting, writes_besides, writes_from, writes_going, writes_of}
use Rattle.spec_record.proofs.CheckSteps.{Checked, LeavesAlike, Sees, all_of_flat_map, all_split, check_steps, claims_emptied, has_ant-alike, is_ant_of-alike}
use Rattle.spec_record.proofs.ClaimLemmas.{AgreeInAll, AgreeInAll-merged, parts_at-both}
use Rattle.spec_record.proofs.OwnSteps.{arrived_step, black_step, food_step, left_step, mind_step, red_step}
use Rattle.spec_record.proofs.Steps.{CellStep, InStep, InStep-keeps, InStep-none, InStep-put, InStep-same, InStep-then}

-- the outcomes in two worlds: the same in what is claimed, and otherwise the worlds stay
pub record SameOutcome (claims : List Claim) (v w : Cells) (one other : Outcome) : Type 0 where
  pub step : InStep claims v w one.cells other.cells
  pub drew : one.drew ≡ other.drew
  pub killed : one.killed ≡ other.killed

-- whether an ant that may not be there carries food
is_laden-alike : (a b : Option Ant) → option_map (λ ant. ant.laden) a ≡ option_map (λ ant. ant.laden) b → is_laden a ≡ is_laden b
is_laden-alike None None load = refl
is_laden-alike (Some a) (Some b) load = some_one load
is_laden-alike it that load = absurd (cc)

marks_of-alike : (colour : Colour) (c d : Cell) → Agree (only (marks_part colour)) c d → marks_of colour c ≡ marks_of colour d
marks_of-alike Red c d agree = agree part.RedMarks refl
marks_of-alike Black c d agree = agree part.BlackMarks refl

-- a clear cell meets a condition by what it asks, and its hill
clear_meets-alike : (condition : Cond) (colour : Colour) (c d : Cell) → d.hill ≡ c.hill → Agree (asked condition colour) c d → clear_meets c condition colour ≡ clear_meets d condition colour
clear_meets-alike Friend colour c d hill agree = is_ant_of-alike colour c.ant d.ant (agree part.Who refl)
clear_meets-alike Foe colour c d hill agree = is_ant_of-alike (foe_of colour) c.ant d.ant (agree part.Who refl)
clear_meets-alike FriendWithFood colour c d hill agree = ap₂ (λ x y. x && y) (is_ant_of-alike colour c.ant d.ant (agree part.Who refl)) (is_laden-alike c.ant d.ant (agree part.Load refl))
clear_meets-alike FoeWithFood colour c d hill agree = ap₂ (λ x y. x && y) (is_ant_of-alike (foe_of colour) c.ant d.ant (agree part.Who refl)) (is_laden-alike c.ant d.ant (agree part.Load refl))
clear_meets-alike Food colour c d hill agree = ap (nat_lt 0) (agree part.Food refl)
clear_meets-alike Rock colour c d hill agree = refl
clear_meets-alike (Marker i) colour c d hill agree = ap (λ m. has_mark m i) (marks_of-alike colour c d agree)
clear_meets-alike FoeMarker colour c d hill agree = ap has_any_mark (marks_of-alike (foe_of colour) c d agree)
clear_meets-alike Home colour c d hill agree = ap (is_hill_of colour) (sym hill)
clear_meets-alike FoeHome colour c d hill agree = ap (is_hill_of (foe_of colour)) (sym hill)

meets-alike : (condition : Cond) (colour : Colour) (c d : Cell) → d.rocky ≡ c.rocky → d.hill ≡ c.hill → Agree (asked condition colour) c d → meets c condition colour ≡ meets d condition colour
unfolding meets
meets-alike condition colour c d rocky hill agree =
    ap₂ (λ (r : Bool) (m : Bool). if r then is_rock_condition condition else m) (sym rocky) (clear_meets-alike condition colour c d hill agree)

-- whether no ant can move onto a cell
is_blocked-alike : (c d : Cell) → d.rocky ≡ c.rocky → Alike part.Who c d → is_blocked d ≡ is_blocked c
is_blocked-alike c d rocky who = ap₂ (λ (r m : Bool). r || m) rocky (sym (has_ant-alike c.ant d.ant who))

-- what holds of all that a function gives
all_of_map : {A B : Type 0} (P : B → Type 0) (f : A → B) (xs : List A) → AllByRecursion P (map f xs) → AllByRecursion (λ x. P (f x)) xs
all_of_map {A} {B} P f [] all = tt
all_of_map {A} {B} P f (x ∷ xs) all = (all.0, all_of_map P f xs all.1)

pub all_both : {A : Type 0} (P Q R : A → Type 0) (xs : List A) → ((x : A) → P x → Q x → R x) → AllByRecursion P xs → AllByRecursion Q xs → AllByRecursion R xs
all_both {A} P Q R [] f first second = tt
all_both {A} P Q R (x ∷ xs) f first second = (f x first.0 second.0, all_both P Q R xs f first.1 second.1)

-- an ant that goes from p to q, the same in both worlds
module _ (sheet : Sheet) (v w : Cells) (p : Pos) (ant : Ant) (q : Pos) (next : ℕ) (apart : p ≢ q) where
  -- its step
  step_step : InStep (claim p (union (only part.Mind) whole_ant) ∷ claim q whole_ant ∷ []) v w (stepped sheet v p ant q next) (stepped sheet w p ant q next)
  unfolding stepped
  step_step =
      let v1 : Cells = put_cell v p (left_by_ant (v p)) in
      let w1 : Cells = put_cell w p (left_by_ant (w p)) in
      let first : InStep (claim p (union (only part.Mind) whole_ant) ∷ []) v w v1 w1 = InStep-put p (union (only part.Mind) whole_ant) v w (left_by_ant (v p)) (left_by_ant (w p)) (left_step (v p) (w p)) in
      let there : CellStep whole_ant (v1 q) (w1 q) (with_ant (v q) (arrived sheet ant next)) (with_ant (w q) (arrived sheet ant next)) =
      rw (put_cell-other v p (left_by_ant (v p)) q apart, put_cell-other w p (left_by_ant (w p)) q apart) (arrived_step (v q) (w q) (arrived sheet ant next)) in
      InStep-then first (InStep-put q whole_ant v1 w1 (with_ant (v q) (arrived sheet ant next)) (with_ant (w q) (arrived sheet ant next)) there)

  -- if those ants are alike that decide the checks, each place is seen alike
  seen_alike : (v1 w1 : Cells) → AllByRecursion (λ r. Alike part.Who (v1 r) (w1 r)) (seen_around v1 q) → AllByRecursion (Sees v1 w1) (places_around q)
  unfolding places_around
  seen_alike v1 w1 all =
      let Same : Pos → Type 0 = λ r. Alike part.Who (v1 r) (w1 r) in
      let both : AllByRecursion Same (places_around q) × AllByRecursion Same (flat_map (neighbours_if_manned v1) (neighbours_of q)) =
      all_split Same (places_around q) (flat_map (neighbours_if_manned v1) (neighbours_of q)) all in
      let beyond : AllByRecursion (λ n. AllByRecursion Same (neighbours_if_manned v1 n)) (neighbours_of q) = all_of_flat_map Same (neighbours_if_manned v1) (neighbours_of q) both.1 in (
        record { here = both.0.0; around = λ _. both.0.1 },
        all_both Same (λ n. AllByRecursion Same (neighbours_if_manned v1 n)) (Sees v1 w1) (neighbours_of q)
            (λ n here near. record { here = here; around = λ has. subst (AllByRecursion Same) (cond-true _ _ _ has) near }) both.0.1 beyond,
      )

  -- the step and its checks
  pub go_step : AgreeInAll v w (map (λ r. claim r (only part.Who)) (seen_around (stepped sheet v p ant q next) q) ++ map (λ r. claim r load_and_food) (emptied sheet (stepped sheet v p ant q next) (places_around q))) →
      SameOutcome (claim p (only part.Mind) ∷ writes_going sheet v p ant q next) v w (checked sheet (stepped sheet v p ant q next) q) (checked sheet (stepped sheet w p ant q next) q)
  go_step agree =
      let v1 : Cells = stepped sheet v p ant q next in
      let w1 : Cells = stepped sheet w p ant q next in
      let P : Claim → Type 0 = λ c. Agree c.parts (v c.at) (w c.at) in
      let seen : List Pos = seen_around v1 q in
      let gone : List Pos = emptied sheet v1 (places_around q) in
      let both : AllByRecursion P (map (λ r. claim r (only part.Who)) seen) × AllByRecursion P (map (λ r. claim r load_and_food) gone) =
      all_split P (map (λ r. claim r (only part.Who)) seen) (map (λ r. claim r load_and_food) gone) agree in
      let whos : AllByRecursion (λ r. Agree (only part.Who) (v r) (w r)) seen = all_of_map P (λ r. claim r (only part.Who)) seen both.0 in
      let loads : AllByRecursion (λ r. Agree load_and_food (v r) (w r)) gone = all_of_map P (λ r. claim r load_and_food) gone both.1 in
      let checks : Checked sheet v1 w1 (places_around q) = check_steps sheet (places_around q) v1 w1
      (seen_alike v1 w1 (AllByRecursion-weaker (λ r. Agree (only part.Who) (v r) (w r)) (λ r. Alike part.Who (v1 r) (w1 r)) seen whos (λ r who. InStep-keeps step_step r part.Who (who part.Who refl))))
      (AllByRecursion-weaker (λ r. Agree load_and_food (v r) (w r)) (LeavesAlike v1 w1) gone loads (λ r left. (InStep-keeps step_step r part.Load (left part.Load refl), InStep-keeps step_step r part.Food (left part.Food refl)))) in
      record {
        step = InStep-same (λ r. sym (parts_at-both p (only part.Mind) whole_ant (claim q whole_ant ∷ claims_emptied gone) r)) (InStep-then step_step checks.step);
        drew = refl;
        killed = checks.killed;
      }

-- whose ant stands on the cell ahead is read
first_seen : (sheet : Sheet) (v w : Cells) (p : Pos) (ant : Ant) (q : Pos) (next : ℕ) →
    AgreeInAll v w (map (λ r. claim r (only part.Who)) (seen_around (stepped sheet v p ant q next) q) ++ map (λ r. claim r load_and_food) (emptied sheet (stepped sheet v p ant q next) (places_around q))) → Alike part.Who (v q) (w q)
unfolding places_around
first_seen sheet v w p ant q next all = all.0 part.Who refl

-- the ant of p in the base, and the same in now but that it may carry what it didn't
module _ (sheet : Sheet) (seed : ℕ) (v w : Cells) (rocks : (r : Pos) → (w r).rocky ≡ (v r).rocky) (hills : (r : Pos) → (w r).hill ≡ (v r).hill) (place now_place : ℕ) (p : Pos) (a : Ant) (laden : Bool)
    (holds_v : (v p).ant ≡ Some a) (holds_w : (w p).ant ≡ Some (record a { laden = laden })) where
  -- that ant in now
  abbrev ant_now : Ant
  ant_now = record a { laden = laden }

  -- if only its posture changes
  mind_only : (a1 b1 : Ant) → identity_of a1 ≡ identity_of a → identity_of b1 ≡ identity_of a → a1.laden ≡ a.laden → b1.laden ≡ laden → posture_of a1 ≡ posture_of b1 →
      InStep (claim p (only part.Mind) ∷ []) v w (put_cell v p (with_ant (v p) a1)) (put_cell w p (with_ant (w p) b1))
  mind_only a1 b1 a_who b_who a_load b_load posture =
      InStep-put p (only part.Mind) v w (with_ant (v p) a1) (with_ant (w p) b1) (mind_step (v p) (w p) a ant_now a1 b1 holds_v holds_w refl a_who b_who posture a_load b_load)

  -- if it carries the same
  load_same : Alike part.Load (v p) (w p) → a.laden ≡ laden
  load_same alike = some_one (sym (ap (option_map (λ ant. ant.laden)) holds_v) ∙ alike ∙ ap (option_map (λ ant. ant.laden)) holds_w)

  -- a Mark
  mark_both : (colour : Colour) (i next : ℕ) → Agree (only (marks_part colour)) (v p) (w p) → InStep (claim p (only part.Mind) ∷ claim p (only (marks_part colour)) ∷ []) v w
      (put_cell v p (with_ant (marked (v p) colour i) (in_state a next))) (put_cell w p (with_ant (marked (w p) colour i) (in_state ant_now next)))
  mark_both Red i next agree = InStep-same (λ r. sym (parts_at-both p (only part.Mind) (only part.RedMarks) [] r))
      (InStep-put p (union (only part.Mind) (only part.RedMarks)) v w (with_ant (marked (v p) Red i) (in_state a next)) (with_ant (marked (w p) Red i) (in_state ant_now next))
      (red_step (v p) (w p) a ant_now (in_state a next) (in_state ant_now next) holds_v holds_w refl refl refl refl refl refl (with_mark (v p).red i) (with_mark (w p).red i) (ap (λ m. with_mark m i) (agree part.RedMarks refl))))
  mark_both Black i next agree = InStep-same (λ r. sym (parts_at-both p (only part.Mind) (only part.BlackMarks) [] r))
      (InStep-put p (union (only part.Mind) (only part.BlackMarks)) v w (with_ant (marked (v p) Black i) (in_state a next)) (with_ant (marked (w p) Black i) (in_state ant_now next))
      (black_step (v p) (w p) a ant_now (in_state a next) (in_state ant_now next) holds_v holds_w refl refl refl refl refl refl (with_mark (v p).black i) (with_mark (w p).black i) (ap (λ m. with_mark m i) (agree part.BlackMarks refl))))

  -- an Unmark
  unmark_both : (colour : Colour) (i next : ℕ) → Agree (only (marks_part colour)) (v p) (w p) → InStep (claim p (only part.Mind) ∷ claim p (only (marks_part colour)) ∷ []) v w
      (put_cell v p (with_ant (unmarked (v p) colour i) (in_state a next))) (put_cell w p (with_ant (unmarked (w p) colour i) (in_state ant_now next)))
  unmark_both Red i next agree = InStep-same (λ r. sym (parts_at-both p (only part.Mind) (only part.RedMarks) [] r))
      (InStep-put p (union (only part.Mind) (only part.RedMarks)) v w (with_ant (unmarked (v p) Red i) (in_state a next)) (with_ant (unmarked (w p) Red i) (in_state ant_now next))
      (red_step (v p) (w p) a ant_now (in_state a next) (in_state ant_now next) holds_v holds_w refl refl refl refl refl refl (without_mark (v p).red i) (without_mark (w p).red i) (ap (λ m. without_mark m i) (agree part.RedMarks refl))))
  unmark_both Black i next agree = InStep-same (λ r. sym (parts_at-both p (only part.Mind) (only part.BlackMarks) [] r))
      (InStep-put p (union (only part.Mind) (only part.BlackMarks)) v w (with_ant (unmarked (v p) Black i) (in_state a next)) (with_ant (unmarked (w p) Black i) (in_state ant_now next))
      (black_step (v p) (w p) a ant_now (in_state a next) (in_state ant_now next) holds_v holds_w refl refl refl refl refl refl (without_mark (v p).black i) (without_mark (w p).black i) (ap (λ m. without_mark m i) (agree part.BlackMarks refl))))

  -- if food may go from the cell to the ant or back
  food_both : (f g : ℕ) (a1 b1 : Ant) → f ≡ g → identity_of a1 ≡ identity_of a → identity_of b1 ≡ identity_of a → posture_of a1 ≡ posture_of b1 → a1.laden ≡ b1.laden →
      InStep (claim p (only part.Mind) ∷ claim p load_and_food ∷ []) v w (put_cell v p (record (v p) { food = f; ant = Some a1 })) (put_cell w p (record (w p) { food = g; ant = Some b1 }))
  food_both f g a1 b1 food a_who b_who posture load = InStep-same (λ r. sym (parts_at-both p (only part.Mind) load_and_food [] r))
      (InStep-put p (union (only part.Mind) load_and_food) v w (record (v p) { food = f; ant = Some a1 }) (record (w p) { food = g; ant = Some b1 })
      (food_step (v p) (w p) a ant_now a1 b1 holds_v holds_w refl a_who b_who posture f g food load))

  -- a PickUp, whether it is barred or not
  pick_up_both : (barred : Bool) (met unmet : ℕ) → (v p).food ≡ (w p).food → a.laden ≡ laden → InStep (claim p (only part.Mind) ∷ claim p load_and_food ∷ []) v w
      (put_cell v p (if barred then with_ant (v p) (in_state a unmet) else record (v p) { food = (v p).food - 1; ant = Some (record a { laden = true; state = met }) }))
      (put_cell w p (if barred then with_ant (w p) (in_state ant_now unmet) else record (w p) { food = (w p).food - 1; ant = Some (record ant_now { laden = true; state = met }) }))
  pick_up_both true met unmet food load = food_both (v p).food (w p).food (in_state a unmet) (in_state ant_now unmet) food refl refl refl load
  pick_up_both false met unmet food load = food_both ((v p).food - 1) ((w p).food - 1) (record a { laden = true; state = met }) (record ant_now { laden = true; state = met }) (ap (λ n. n - 1) food) refl refl refl refl

  -- a Move towards a cell that is blocked or not
  move_both : (met unmet : ℕ) (blocked : Bool) → is_blocked (v (adjacent_pos p a.facing)) ≡ blocked →
      AgreeInAll v w (if blocked then claim (adjacent_pos p a.facing) (only part.Who) ∷ [] else reads_going sheet v p a (adjacent_pos p a.facing) met) →
      SameOutcome (claim p (only part.Mind) ∷ (if blocked then [] else writes_going sheet v p a (adjacent_pos p a.facing) met)) v w
      (if blocked then ant_becomes v p (in_state a unmet) else checked sheet (stepped sheet v p a (adjacent_pos p a.facing) met) (adjacent_pos p a.facing))
      (if is_blocked (w (adjacent_pos p a.facing)) then ant_becomes w p (in_state ant_now unmet) else checked sheet (stepped sheet w p ant_now (adjacent_pos p a.facing) met) (adjacent_pos p a.facing))
  move_both met unmet true is agree =
      let ahead : Pos = adjacent_pos p a.facing in
      let too : is_blocked (w ahead) ≡ true = is_blocked-alike (v ahead) (w ahead) (rocks ahead) (agree.0 part.Who refl) ∙ is in
      rw too (record { step = mind_only (in_state a unmet) (in_state ant_now unmet) refl refl refl refl refl; drew = refl; killed = refl })
  move_both met unmet false is agree =
      let ahead : Pos = adjacent_pos p a.facing in
      let same : a ≡ ant_now = ap (λ l. record a { laden = l }) (load_same (agree.0 part.Load refl)) in
      let it = go_step sheet v w p a ahead met (free_apart v p a ahead holds_v is) agree.1 in
      let who : Alike part.Who (v ahead) (w ahead) = first_seen sheet v w p a ahead met agree.1 in
      let too : is_blocked (w ahead) ≡ false = is_blocked-alike (v ahead) (w ahead) (rocks ahead) who ∙ is in
      rw too (subst (λ b. SameOutcome (claim p (only part.Mind) ∷ writes_going sheet v p a ahead met) v w (checked sheet (stepped sheet v p a ahead met) ahead) (checked sheet (stepped sheet w p b ahead met) ahead)) same it)

  -- what an instruction comes to
  pub execute_both : (instruction : Instr) → AgreeInAll v w (reads_besides sheet v p a instruction) → (is_flip instruction ≡ true → now_place ≡ place) →
      SameOutcome (claim p (only part.Mind) ∷ writes_besides sheet v p a instruction) v w (execute sheet seed v place p a instruction) (execute sheet seed w now_place p ant_now instruction)
  execute_both (Sense sight met unmet condition) agree _ = record {
    step = mind_only (in_state a (if meets (v (sensed_pos p a.facing sight)) condition a.colour then met else unmet)) (in_state ant_now (if meets (w (sensed_pos p a.facing sight)) condition a.colour then met else unmet)) refl refl refl refl
        (ap (λ (t : Bool). posture_of (in_state a (if t then met else unmet))) (meets-alike condition a.colour (v (sensed_pos p a.facing sight)) (w (sensed_pos p a.facing sight)) (rocks (sensed_pos p a.facing sight)) (hills (sensed_pos p a.facing sight)) agree.0));
    drew = refl;
    killed = refl;
  }
  execute_both (Mark i next) agree _ = record { step = mark_both a.colour i next agree.0; drew = refl; killed = refl }
  execute_both (Unmark i next) agree _ = record { step = unmark_both a.colour i next agree.0; drew = refl; killed = refl }
  execute_both (PickUp met unmet) agree _ =
      let food : (v p).food ≡ (w p).food = agree.0 part.Food refl in
      let load : a.laden ≡ laden = load_same (agree.0 part.Load refl) in
      let barred : (a.laden || (v p).food == 0) ≡ (laden || (w p).food == 0) = ap₂ (λ (l : Bool) (n : ℕ). l || n == 0) load food in
      record {
        step = subst (λ (t : Bool). InStep (claim p (only part.Mind) ∷ claim p load_and_food ∷ []) v w
            (put_cell v p (if a.laden || (v p).food == 0 then with_ant (v p) (in_state a unmet) else record (v p) { food = (v p).food - 1; ant = Some (record a { laden = true; state = met }) }))
            (put_cell w p (if t then with_ant (w p) (in_state ant_now unmet) else record (w p) { food = (w p).food - 1; ant = Some (record ant_now { laden = true; state = met }) })))
            barred (pick_up_both (a.laden || (v p).food == 0) met unmet food load);
        drew = refl;
        killed = refl;
      }
  execute_both (Drop next) agree _ = record {
    step = food_both ((v p).food + one_if a.laden) ((w p).food + one_if laden) (record a { laden = false; state = next }) (record ant_now { laden = false; state = next })
        (ap₂ (λ n l. n + one_if l) (agree.0 part.Food refl) (load_same (agree.0 part.Load refl))) refl refl refl refl;
    drew = refl;
    killed = refl;
  }
  execute_both (Turn side next) agree _ = record {
    step = mind_only (record a { facing = turned_by a.facing side; state = next }) (record ant_now { facing = turned_by a.facing side; state = next }) refl refl refl refl refl;
    drew = refl;
    killed = refl;
  }
  execute_both (Move met unmet) agree _ = move_both met unmet (is_blocked (v (adjacent_pos p a.facing))) refl agree
  execute_both (Flip bound met unmet) agree guessed = record {
    step = mind_only (in_state a (if drawn seed place bound == 0 then met else unmet)) (in_state ant_now (if drawn seed now_place bound == 0 then met else unmet)) refl refl refl refl
        (ap (λ (t : ℕ). posture_of (in_state a (if drawn seed t bound == 0 then met else unmet))) (sym (guessed refl)));
    drew = refl;
    killed = refl;
  }

-- what an ant does that rests or acts
acts_both : (minds : Minds) (seed : ℕ) (v w : Cells) → ((r : Pos) → (w r).rocky ≡ (v r).rocky) → ((r : Pos) → (w r).hill ≡ (v r).hill) → (place now_place : ℕ) (p : Pos) (a : Ant) (laden : Bool) →
    (v p).ant ≡ Some a → (w p).ant ≡ Some (record a { laden = laden }) → (resting : ℕ) → AgreeInAll v w (reads_acting resting minds v p a) → (flips_now resting minds a ≡ true → now_place ≡ place) →
    SameOutcome (claim p (only part.Mind) ∷ writes_acting resting minds v p a) v w (acts resting minds seed v place p a) (acts resting minds seed w now_place p (record a { laden = laden }))
acts_both minds seed v w rocks hills place now_place p a laden holds_v holds_w zero agree guessed =
    execute_both minds.sheet seed v w rocks hills place now_place p a laden holds_v holds_w (instruction_at (mind_of minds a.colour) a.state) agree guessed
acts_both minds seed v w rocks hills place now_place p a laden holds_v holds_w (suc left) agree guessed = record {
  step = mind_only minds.sheet seed v w rocks hills place now_place p a laden holds_v holds_w (record a { resting = left }) (record (record a { laden = laden }) { resting = left }) refl refl refl refl refl;
  drew = refl;
  killed = refl;
}

-- an ant of one identity and posture is the same except for what it carries
same_but_load : (a : Ant) (o : Option Ant) → Some (identity_of a) ≡ option_map identity_of o → Some (posture_of a) ≡ option_map posture_of o → (laden : Bool) × (o ≡ Some (record a { laden = laden }))
same_but_load a None who mind = absurd (cc)
same_but_load a (Some b) who mind = (b.laden, ap Some (same_parts_ant b (record a { laden = b.laden }) (sym (some_one who)) (sym (some_one mind)) refl))

module _ (minds : Minds) (seed : ℕ) (base : World) (guess : ℕ) (now : World) (place t : ℕ) (goes : GoesOn base now t) where
  -- an ant that is at p in the base
  stands_both : (p : Pos) (a : Ant) → place_in base t ≡ Some p → (base.cells p).ant ≡ Some a → a.id ≡ t → AgreeInAll base.cells now.cells (reads_of minds base.cells p (Some a)) → (flips_now a.resting minds a ≡ true → place ≡ guess) →
      SameOutcome (writes_of minds base.cells p (Some a)) base.cells now.cells (turn_at minds seed base.cells guess p (Some a)) (turn minds seed now place t)
  unfolding turn
  stands_both p a found is id agree guessed =
      let it : (laden : Bool) × ((now.cells p).ant ≡ Some (record a { laden = laden })) = same_but_load a (now.cells p).ant
      (sym (ap (option_map identity_of) is) ∙ agree.0 part.Who refl) (sym (ap (option_map posture_of) is) ∙ agree.0 part.Mind refl) in
      let inside : IsInside base.width base.height p = place_in-inside base t p found in
      let held : holds_id t (now.cells p) ≡ true = ap (is_ant t) it.1 ∙ eq-eqb a.id t id in
      let there : place_in now t ≡ Some p = place_in-only now t p (record { column = rw goes.width inside.column; row = rw goes.height inside.row }) held (λ q also. goes.once q p also held) in
      rw (there, it.1) (acts_both minds seed base.cells now.cells goes.rocks goes.hills guess place p a it.0 is it.1 a.resting agree.1 guessed)

  -- the place of the ant in the base
  found_both : (o : Option Pos) → place_in base t ≡ o → AgreeInAll base.cells now.cells (reads_from minds base.cells o) → (flips_from minds base.cells o ≡ true → place ≡ guess) →
      SameOutcome (writes_from minds base.cells o) base.cells now.cells (turn_from minds seed base.cells guess o) (turn minds seed now place t)
  unfolding turn
  found_both None found agree guessed = rw (goes.dead found) (record { step = InStep-none base.cells now.cells; drew = refl; killed = refl })
  found_both (Some p) found agree guessed =
      let holder : Holder t (base.cells p).ant = place_in-ant base t p found in
      rw holder.is
      (stands_both p holder.ant found holder.is holder.id (rw holder.is at agree) (rw holder.is at guessed))

  -- if a look holds, its turn is a step of the base and of now at once
  pub turn_both : Holds minds base guess now place t → SameOutcome (writes_from minds base.cells (place_in base t)) base.cells now.cells (turn minds seed base guess t) (turn minds seed now place t)
  unfolding turn reads flips
  turn_both holds = found_both (place_in base t) refl (AgreeInAll-merged base.cells now.cells (reads_from minds base.cells (place_in base t)) holds.unchanged) holds.guessed
