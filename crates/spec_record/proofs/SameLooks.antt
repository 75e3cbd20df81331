-- Looks on two worlds that hold the same wherever the turn reads.
use Rattle.std.proofs.Common.{◌≡◌, inl, inr, ℕ, zero, suc, ◌+◌, ◌-◌, Bool, true, false, if◌then◌else◌, ◌||◌, cond, Option, Some, None, List, [], ◌∷◌, ◌++◌, map, refl, sym, ◌∙◌, ap, ap₂, subst}
use Rattle.std.specs.Prelude.{◌==◌}
use Rattle.std.specs.List.{AllByRecursion, flat_map}
use Rattle.std.proofs.lemmas.Bool.{cases_Bool, cond-true, cond-false}
use Rattle.list_lemmas.proofs.AllElements.{AllByRecursion-weaker}
use Rattle.hex_geometry.specs.declared.position.Pos.{Pos}
use Rattle.hex_geometry.specs.Direction.{turned_by}
use Rattle.hex_geometry.specs.Neighbourhood.{adjacent_pos, neighbours_of, sensed_pos}
use Rattle.hex_geometry.specs.Position.{same_pos}
use Rattle.hex_geometry.proofs.Places.{same_pos_true}
use Rattle.cell_world.specs.declared.ant.Ant.{Ant}
use Rattle.cell_world.specs.declared.cell.Cell.{Cell}
use Rattle.cell_world.specs.declared.part.Part.TheVariants as part
use Rattle.cell_world.specs.Cell.{holds_id, one_if}
use Rattle.cell_world.specs.declared.part.Parts.{Parts}
use Rattle.cell_world.specs.Parts.{Alike, only, part, union}
use Rattle.cell_world.specs.World.{Cells, World, place_in, put_cell}
use Rattle.cell_world.proofs.Places.{Holder, holds_id-own, place_in-ant, place_in-found}
use Rattle.brain_read.specs.declared.instr.Instr.{Instr}
use Rattle.brain_read.specs.declared.instr.Instr.TheVariants.{Sense, Mark, Unmark, PickUp, Drop, Turn, Move, Flip}
use Rattle.ant_random.specs.Stream.{drawn}
use Rattle.ant_turn.specs.Conditions.{meets}
use Rattle.ant_turn.specs.Kills.{after_kill, check_all, check_at, id_of, is_surrounded, killed_all, killed_at, places_around}
use Rattle.ant_turn.specs.Minds.{Minds, mind_of}
use Rattle.ant_turn.specs.Sheet.{Sheet}
use Rattle.ant_turn.specs.Turn.{Outcome, ant_becomes, arrived, checked, execute, has_ant, in_state, instruction_at, is_blocked, left_by_ant, marked, stepped, unmarked, with_ant}
use Rattle.ant_turn.proofs.Checks.{check_at-spared, check_at-struck}
use Rattle.spec_record.specs.Claims.{Claim, claim, merged, merged_onto, with_claim, with_cells_at}
use Rattle.spec_record.specs.Look.{LookValue, look_of, look_with}
use Rattle.spec_record.specs.Reads.{ant_and_food, emptied, load_and_food, neighbours_if_manned, reads, reads_acting, reads_besides, reads_from, reads_going, seen_around, who_and_mind, whole_ant}
use Rattle.spec_record.specs.Writes.{writes_besides, writes_going}
use Rattle.spec_record.specs.Inner.Stays.{rested_look}
use Rattle.spec_record.proofs.CheckSteps.{Sees, all_of_flat_map, all_split, is_surrounded-alike, no_new}
use Rattle.spec_record.proofs.ClaimLemmas.{positions, positions-merged}
use Rattle.spec_record.proofs.EmptiedCells.{flat_map-alike}
use Rattle.spec_record.proofs.LookLemmas.{look_by, look_of-dead, look_of-executes, look_of-rests}
use Rattle.spec_record.proofs.TurnSteps.{all_both}
use Rattle.spec_record.specs.SameLooks.{LooksAgree, SameAt, SameForLook}

-- if two worlds are the same at a place, they are so afterwards
abbrev KeepSame : Cells → Cells → Cells → Cells → Type 0
KeepSame v w v' w' = (r : Pos) → v r ≡ w r → v' r ≡ w' r

-- the same cell is put into both
KeepSame-put : (v w : Cells) (p : Pos) (c d : Cell) → c ≡ d → KeepSame v w (put_cell v p c) (put_cell w p d)
unfolding put_cell
KeepSame-put v w p c d one r same = ap₂ (λ (a b : Cell). cond (same_pos p r) a b) one same

-- what holds of the positions of merged claims holds of those of each
SameAt-with_claim : (v w : Cells) (claims : List Claim) (new : Claim) → SameAt v w (with_claim claims new) → SameAt v w claims × (v new.at ≡ w new.at)
SameAt-with_claim v w [] new all = (tt, all.0)
SameAt-with_claim v w (old ∷ claims) new all =
    elim (cases_Bool (same_pos old.at new.at)) [
      | inl one ↦
          let at : old.at ≡ new.at = same_pos_true old.at new.at one in
          let it : SameAt v w (claim old.at (union old.parts new.parts) ∷ claims) = subst (SameAt v w) (cond-true _ (claim old.at (union old.parts new.parts) ∷ claims) (old ∷ with_claim claims new) one) all in
          ((it.0, it.1), subst (λ q. v q ≡ w q) at it.0)
      | inr apart ↦
          let it : SameAt v w (old ∷ with_claim claims new) = subst (SameAt v w) (cond-false _ (claim old.at (union old.parts new.parts) ∷ claims) (old ∷ with_claim claims new) apart) all in
          let rest : SameAt v w claims × (v new.at ≡ w new.at) = SameAt-with_claim v w claims new it.1 in
          ((it.0, rest.0), rest.1)
    ]

SameAt-merged_onto : (v w : Cells) (more claims : List Claim) → SameAt v w (merged_onto claims more) → SameAt v w claims × SameAt v w more
SameAt-merged_onto v w [] claims all = (all, tt)
SameAt-merged_onto v w (new ∷ more) claims all =
    let front : SameAt v w (with_claim claims new) × SameAt v w more = SameAt-merged_onto v w more (with_claim claims new) all in
    let it : SameAt v w claims × (v new.at ≡ w new.at) = SameAt-with_claim v w claims new front.0 in
    (it.0, (it.1, front.1))

SameAt-merged : (v w : Cells) (claims : List Claim) → SameAt v w (merged claims) → SameAt v w claims
unfolding merged
SameAt-merged v w claims all = (SameAt-merged_onto v w claims [] all).1

-- claims with the same cells
with_cells_at-same : (v w : Cells) (claims : List Claim) → SameAt v w claims → with_cells_at v claims ≡ with_cells_at w claims
with_cells_at-same v w [] all = refl
with_cells_at-same v w (c ∷ claims) all = ap₂ (λ (cell : Cell) (l : List (Pos × _ × Cell)). (c.at, c.parts, cell) ∷ l) all.0 (with_cells_at-same v w claims all.1)

-- claims of the same parts at places
places-SameAt : (v w : Cells) (parts : Parts) (places : List Pos) → SameAt v w (map (λ r. claim r parts) places) → AllByRecursion (λ r. v r ≡ w r) places
places-SameAt v w parts [] all = tt
places-SameAt v w parts (r ∷ places) all = (all.0, places-SameAt v w parts places all.1)

SameAt-places : (v w : Cells) (parts : Parts) (places : List Pos) → AllByRecursion (λ r. v r ≡ w r) places → SameAt v w (map (λ r. claim r parts) places)
SameAt-places v w parts [] all = tt
SameAt-places v w parts (r ∷ places) all = (all.0, SameAt-places v w parts places all.1)

-- of two lists of claims
SameAt-append : (v w : Cells) (claims more : List Claim) → SameAt v w (claims ++ more) → SameAt v w claims × SameAt v w more
SameAt-append v w [] more all = (tt, all)
SameAt-append v w (c ∷ claims) more all = let rest : SameAt v w claims × SameAt v w more = SameAt-append v w claims more all.1 in ((all.0, rest.0), rest.1)

-- all that a check of a cell depends on is the same
record SeesSame (v w : Cells) (x : Pos) : Type 0 where
  pub here : v x ≡ w x
  pub around : has_ant (v x).ant ≡ true → AllByRecursion (λ n. v n ≡ w n) (neighbours_of x)

Sees-SeesSame : (v w : Cells) (x : Pos) → SeesSame v w x → Sees v w x
Sees-SeesSame v w x it = record {
  here = ap (part part.Who) it.here;
  around = λ has. AllByRecursion-weaker (λ n. v n ≡ w n) (λ n. Alike part.Who (v n) (w n)) (neighbours_of x) (it.around has) (λ n same. ap (part part.Who) same);
}

is_surrounded-same : (sheet : Sheet) (v w : Cells) (x : Pos) → SeesSame v w x → is_surrounded sheet v x ≡ is_surrounded sheet w x
is_surrounded-same sheet v w x it = is_surrounded-alike sheet v w x (Sees-SeesSame v w x it)

-- one check
check_at-same : (sheet : Sheet) (v w : Cells) (x : Pos) → SeesSame v w x → KeepSame v w (check_at sheet v x) (check_at sheet w x)
check_at-same sheet v w x it =
    elim (cases_Bool (is_surrounded sheet v x)) [
      | inl struck ↦ rw (check_at-struck sheet v x struck, check_at-struck sheet w x (sym (is_surrounded-same sheet v w x it) ∙ struck)) (KeepSame-put v w x (after_kill sheet (v x)) (after_kill sheet (w x)) (ap (after_kill sheet) it.here))
      | inr spared ↦ rw (check_at-spared sheet v x spared, check_at-spared sheet w x (sym (is_surrounded-same sheet v w x it) ∙ spared)) (λ r same. same)
    ]

killed_at-same : (sheet : Sheet) (v w : Cells) (x : Pos) → SeesSame v w x → killed_at sheet v x ≡ killed_at sheet w x
unfolding killed_at
killed_at-same sheet v w x it = ap₂ (λ (b : Bool) (ids : List ℕ). if b then ids else []) (is_surrounded-same sheet v w x it) (ap (λ (c : Cell). id_of c.ant) it.here)

SeesSame-kept : (sheet : Sheet) (v w : Cells) (x q : Pos) → KeepSame v w (check_at sheet v x) (check_at sheet w x) → SeesSame v w q → SeesSame (check_at sheet v x) (check_at sheet w x) q
SeesSame-kept sheet v w x q keeps it = record {
  here = keeps q it.here;
  around = λ has. AllByRecursion-weaker (λ n. v n ≡ w n) (λ n. check_at sheet v x n ≡ check_at sheet w x n) (neighbours_of q) (it.around (no_new sheet v x q has)) (λ n same. keeps n same);
}

-- checks of places that see the same
record ChecksSame (sheet : Sheet) (v w : Cells) (places : List Pos) : Type 0 where
  pub keeps : KeepSame v w (check_all sheet v places) (check_all sheet w places)
  pub killed : killed_all sheet v places ≡ killed_all sheet w places
  pub emptied : emptied sheet v places ≡ emptied sheet w places

check_all-same : (sheet : Sheet) (places : List Pos) (v w : Cells) → AllByRecursion (SeesSame v w) places → ChecksSame sheet v w places
check_all-same sheet [] v w all = record { keeps = λ r same. same; killed = refl; emptied = refl }
check_all-same sheet (x ∷ places) v w all =
    let first : KeepSame v w (check_at sheet v x) (check_at sheet w x) = check_at-same sheet v w x all.0 in
    let rest : ChecksSame sheet (check_at sheet v x) (check_at sheet w x) places =
    check_all-same sheet places (check_at sheet v x) (check_at sheet w x)
    (AllByRecursion-weaker (SeesSame v w) (SeesSame (check_at sheet v x) (check_at sheet w x)) places all.1 (λ q it. SeesSame-kept sheet v w x q first it)) in
    record {
      keeps = λ r same. rest.keeps r (first r same);
      killed = ap₂ (λ (l m : List ℕ). l ++ m) (killed_at-same sheet v w x all.0) rest.killed;
      emptied = ap₂ (λ (b : Bool) (m : List Pos). (if b then x ∷ [] else []) ++ m) (is_surrounded-same sheet v w x all.0) rest.emptied;
    }

-- two outcomes
record SameOutcome (v w : Cells) (one other : Outcome) : Type 0 where
  pub keeps : KeepSame v w one.cells other.cells
  pub drew : one.drew ≡ other.drew
  pub killed : one.killed ≡ other.killed

-- what is read and written, and what comes of it
record SameDeed (v w : Cells) (read read_other written written_other : List Claim) (one other : Outcome) : Type 0 where
  pub seen : read ≡ read_other
  pub left : written ≡ written_other
  pub within : SameAt v w written
  pub out : SameOutcome v w one other

-- an ant that goes from p to q
module _ (sheet : Sheet) (v w : Cells) (p : Pos) (ant : Ant) (q : Pos) (next : ℕ) (here : v p ≡ w p) where
  stepped-same : v q ≡ w q → KeepSame v w (stepped sheet v p ant q next) (stepped sheet w p ant q next)
  unfolding stepped
  stepped-same there r same =
      KeepSame-put (put_cell v p (left_by_ant (v p))) (put_cell w p (left_by_ant (w p))) q (with_ant (v q) (arrived sheet ant next)) (with_ant (w q) (arrived sheet ant next))
      (ap (λ (c : Cell). with_ant c (arrived sheet ant next)) there) r (KeepSame-put v w p (left_by_ant (v p)) (left_by_ant (w p)) (ap left_by_ant here) r same)

  -- if the cells around are the same, each place of the checks sees the same
  SeesSame-around : (v1 w1 : Cells) → AllByRecursion (λ r. v1 r ≡ w1 r) (seen_around v1 q) → AllByRecursion (SeesSame v1 w1) (places_around q)
  unfolding places_around
  SeesSame-around v1 w1 all =
      let Same : Pos → Type 0 = λ r. v1 r ≡ w1 r in
      let both : AllByRecursion Same (places_around q) × AllByRecursion Same (flat_map (neighbours_if_manned v1) (neighbours_of q)) =
      all_split Same (places_around q) (flat_map (neighbours_if_manned v1) (neighbours_of q)) all in
      let beyond : AllByRecursion (λ n. AllByRecursion Same (neighbours_if_manned v1 n)) (neighbours_of q) = all_of_flat_map Same (neighbours_if_manned v1) (neighbours_of q) both.1 in (
        record { here = both.0.0; around = λ _. both.0.1 },
        all_both Same (λ n. AllByRecursion Same (neighbours_if_manned v1 n)) (SeesSame v1 w1) (neighbours_of q)
            (λ n it near. record { here = it; around = λ has. subst (AllByRecursion Same) (cond-true _ _ _ has) near }) both.0.1 beyond,
      )

  seen_around-same : (v1 w1 : Cells) → AllByRecursion (λ r. v1 r ≡ w1 r) (places_around q) → seen_around v1 q ≡ seen_around w1 q
  unfolding places_around
  seen_around-same v1 w1 all =
      ap (λ (l : List Pos). places_around q ++ l)
      (flat_map-alike (neighbours_if_manned v1) (neighbours_if_manned w1) (neighbours_of q)
      (AllByRecursion-weaker (λ n. v1 n ≡ w1 n) (λ n. neighbours_if_manned v1 n ≡ neighbours_if_manned w1 n) (neighbours_of q) all.1 (λ n same. ap (λ (c : Cell). if has_ant c.ant then neighbours_of n else []) same)))

  first-same : (l : List Pos) → AllByRecursion (λ r. v r ≡ w r) (places_around q ++ l) → v q ≡ w q
  unfolding places_around
  first-same l all = all.0

  going-same : SameAt v w (reads_going sheet v p ant q next) →
      SameDeed v w (reads_going sheet v p ant q next) (reads_going sheet w p ant q next) (writes_going sheet v p ant q next) (writes_going sheet w p ant q next)
      (checked sheet (stepped sheet v p ant q next) q) (checked sheet (stepped sheet w p ant q next) q)
  going-same all =
      let v1 : Cells = stepped sheet v p ant q next in
      let w1 : Cells = stepped sheet w p ant q next in
      let whos : List Claim = map (λ r. claim r (only part.Who)) (seen_around v1 q) in
      let loads : List Claim = map (λ r. claim r load_and_food) (emptied sheet v1 (places_around q)) in
      let both : SameAt v w whos × SameAt v w loads = SameAt-append v w whos loads all.1 in
      let seen : AllByRecursion (λ r. v r ≡ w r) (seen_around v1 q) = places-SameAt v w (only part.Who) (seen_around v1 q) both.0 in
      let gone : AllByRecursion (λ r. v r ≡ w r) (emptied sheet v1 (places_around q)) = places-SameAt v w load_and_food (emptied sheet v1 (places_around q)) both.1 in
      let there : v q ≡ w q = first-same (flat_map (neighbours_if_manned v1) (neighbours_of q)) seen in
      let steps : KeepSame v w v1 w1 = stepped-same there in
      let after : AllByRecursion (λ r. v1 r ≡ w1 r) (seen_around v1 q) = AllByRecursion-weaker (λ r. v r ≡ w r) (λ r. v1 r ≡ w1 r) (seen_around v1 q) seen (λ r same. steps r same) in
      let near : AllByRecursion (λ r. v1 r ≡ w1 r) (places_around q) = (all_split (λ r. v1 r ≡ w1 r) (places_around q) (flat_map (neighbours_if_manned v1) (neighbours_of q)) after).0 in
      let checks : ChecksSame sheet v1 w1 (places_around q) = check_all-same sheet (places_around q) v1 w1 (SeesSame-around v1 w1 after) in
      record {
        seen = ap₂ (λ (s g : List Pos). claim p (only part.Load) ∷ map (λ r. claim r (only part.Who)) s ++ map (λ r. claim r load_and_food) g) (seen_around-same v1 w1 near) checks.emptied;
        left = ap (λ (g : List Pos). claim p whole_ant ∷ claim q whole_ant ∷ map (λ r. claim r ant_and_food) g) checks.emptied;
        within = (here, (there, SameAt-places v w ant_and_food (emptied sheet v1 (places_around q)) gone));
        out = record { keeps = λ r same. checks.keeps r (steps r same); drew = refl; killed = checks.killed };
      }

-- the ant of p, the same in both
module _ (sheet : Sheet) (seed : ℕ) (v w : Cells) (place : ℕ) (p : Pos) (a : Ant) (here : v p ≡ w p) where
  -- if only its own cell changes
  own-same : (f : Cell → Cell) → KeepSame v w (put_cell v p (f (v p))) (put_cell w p (f (w p)))
  own-same f = KeepSame-put v w p (f (v p)) (f (w p)) (ap f here)

  move-same : (met unmet : ℕ) (blocked : Bool) → is_blocked (v (adjacent_pos p a.facing)) ≡ blocked →
      SameAt v w (if blocked then claim (adjacent_pos p a.facing) (only part.Who) ∷ [] else reads_going sheet v p a (adjacent_pos p a.facing) met) →
      SameDeed v w
      (if blocked then claim (adjacent_pos p a.facing) (only part.Who) ∷ [] else reads_going sheet v p a (adjacent_pos p a.facing) met)
      (if is_blocked (w (adjacent_pos p a.facing)) then claim (adjacent_pos p a.facing) (only part.Who) ∷ [] else reads_going sheet w p a (adjacent_pos p a.facing) met)
      (if blocked then [] else writes_going sheet v p a (adjacent_pos p a.facing) met)
      (if is_blocked (w (adjacent_pos p a.facing)) then [] else writes_going sheet w p a (adjacent_pos p a.facing) met)
      (if blocked then ant_becomes v p (in_state a unmet) else checked sheet (stepped sheet v p a (adjacent_pos p a.facing) met) (adjacent_pos p a.facing))
      (if is_blocked (w (adjacent_pos p a.facing)) then ant_becomes w p (in_state a unmet) else checked sheet (stepped sheet w p a (adjacent_pos p a.facing) met) (adjacent_pos p a.facing))
  move-same met unmet true is all =
      let too : is_blocked (w (adjacent_pos p a.facing)) ≡ true = ap is_blocked (sym all.0) ∙ is in
      rw too (record { seen = refl; left = refl; within = tt; out = record { keeps = own-same (λ c. with_ant c (in_state a unmet)); drew = refl; killed = refl } })
  move-same met unmet false is all =
      let ahead : Pos = adjacent_pos p a.facing in
      let v1 : Cells = stepped sheet v p a ahead met in
      let whos : List Claim = map (λ r. claim r (only part.Who)) (seen_around v1 ahead) in
      let loads : List Claim = map (λ r. claim r load_and_food) (emptied sheet v1 (places_around ahead)) in
      let both : SameAt v w whos × SameAt v w loads = SameAt-append v w whos loads all.1 in
      let seen : AllByRecursion (λ r. v r ≡ w r) (seen_around v1 ahead) = places-SameAt v w (only part.Who) (seen_around v1 ahead) both.0 in
      let there : v ahead ≡ w ahead = first-same sheet v w p a ahead met here (flat_map (neighbours_if_manned v1) (neighbours_of ahead)) seen in
      let too : is_blocked (w ahead) ≡ false = ap is_blocked (sym there) ∙ is in
      rw too (going-same sheet v w p a ahead met here all)

  execute-same : (instruction : Instr) → SameAt v w (reads_besides sheet v p a instruction) →
      SameDeed v w (reads_besides sheet v p a instruction) (reads_besides sheet w p a instruction) (writes_besides sheet v p a instruction) (writes_besides sheet w p a instruction)
      (execute sheet seed v place p a instruction) (execute sheet seed w place p a instruction)
  execute-same (Sense sight met unmet condition) all = record {
    seen = refl;
    left = refl;
    within = tt;
    out = record {
      keeps = KeepSame-put v w p (with_ant (v p) (in_state a (if meets (v (sensed_pos p a.facing sight)) condition a.colour then met else unmet)))
          (with_ant (w p) (in_state a (if meets (w (sensed_pos p a.facing sight)) condition a.colour then met else unmet)))
          (ap₂ (λ (c d : Cell). with_ant c (in_state a (if meets d condition a.colour then met else unmet))) here all.0);
      drew = refl;
      killed = refl;
    };
  }
  execute-same (Mark i next) all = record { seen = refl; left = refl; within = (here, tt); out = record { keeps = own-same (λ c. with_ant (marked c a.colour i) (in_state a next)); drew = refl; killed = refl } }
  execute-same (Unmark i next) all = record { seen = refl; left = refl; within = (here, tt); out = record { keeps = own-same (λ c. with_ant (unmarked c a.colour i) (in_state a next)); drew = refl; killed = refl } }
  execute-same (PickUp met unmet) all = record {
    seen = refl;
    left = refl;
    within = (here, tt);
    out = record {
      keeps = own-same (λ c. if a.laden || c.food == 0 then with_ant c (in_state a unmet) else record c { food = c.food - 1; ant = Some (record a { laden = true; state = met }) });
      drew = refl;
      killed = refl;
    };
  }
  execute-same (Drop next) all = record {
    seen = refl;
    left = refl;
    within = (here, tt);
    out = record { keeps = own-same (λ c. record c { food = c.food + one_if a.laden; ant = Some (record a { laden = false; state = next }) }); drew = refl; killed = refl };
  }
  execute-same (Turn side next) all = record { seen = refl; left = refl; within = tt; out = record { keeps = own-same (λ c. with_ant c (record a { facing = turned_by a.facing side; state = next })); drew = refl; killed = refl } }
  execute-same (Move met unmet) all = move-same met unmet (is_blocked (v (adjacent_pos p a.facing))) refl all
  execute-same (Flip bound met unmet) all = record { seen = refl; left = refl; within = tt; out = record { keeps = own-same (λ c. with_ant c (in_state a (if drawn seed place bound == 0 then met else unmet))); drew = refl; killed = refl } }

-- the look of a deed
look_with-same : (v w : Cells) (t guess : ℕ) (seen seen_other left left_other : List Claim) (one other : Outcome) → SameAt v w (merged seen) → SameDeed v w seen seen_other left left_other one other → SameAt v w left →
    look_with t guess one (with_cells_at v (merged seen)) (with_cells_at one.cells (merged left)) ≡ look_with t guess other (with_cells_at w (merged seen_other)) (with_cells_at other.cells (merged left_other))
look_with-same v w t guess seen seen_other left left_other one other all deed within =
    let made : Bool → List ℕ → List (Pos × _ × Cell) → List (Pos × _ × Cell) → LookValue = λ drew killed read written. record { turn = t; guess = guess; drew = drew; reads = read; writes = written; killed = killed } in
    let read : with_cells_at v (merged seen) ≡ with_cells_at w (merged seen_other) = with_cells_at-same v w (merged seen) all ∙ ap (λ l. with_cells_at w (merged l)) deed.seen in
    let after : SameAt one.cells other.cells (merged left) = positions-merged (λ p. one.cells p ≡ other.cells p) left (AllByRecursion-weaker (λ p. v p ≡ w p) (λ p. one.cells p ≡ other.cells p) (positions left) within deed.out.keeps) in
    let written : with_cells_at one.cells (merged left) ≡ with_cells_at other.cells (merged left_other) = with_cells_at-same one.cells other.cells (merged left) after ∙ ap (λ l. with_cells_at other.cells (merged l)) deed.left in
    ap₂ (λ drew killed. made drew killed (with_cells_at v (merged seen)) (with_cells_at one.cells (merged left))) deed.out.drew deed.out.killed
    ∙ ap₂ (made other.drew other.killed) read written

-- with what an ant reads and writes in any case
SameDeed-posture : (v w : Cells) (p : Pos) (seen seen_other left left_other : List Claim) (one other : Outcome) → v p ≡ w p → SameDeed v w seen seen_other left left_other one other →
    SameDeed v w (claim p who_and_mind ∷ seen) (claim p who_and_mind ∷ seen_other) (claim p (only part.Mind) ∷ left) (claim p (only part.Mind) ∷ left_other) one other
SameDeed-posture v w p seen seen_other left left_other one other here deed = record {
  seen = ap (λ (l : List Claim). claim p who_and_mind ∷ l) deed.seen;
  left = ap (λ (l : List Claim). claim p (only part.Mind) ∷ l) deed.left;
  within = (here, deed.within);
  out = deed.out;
}

look_by-same : (sheet : Sheet) (seed : ℕ) (v w : Cells) (guess t : ℕ) (p : Pos) (ant : Ant) (instruction : Instr) → SameAt v w (merged (claim p who_and_mind ∷ reads_besides sheet v p ant instruction)) →
    look_by sheet seed v guess t p ant instruction ≡ look_by sheet seed w guess t p ant instruction
look_by-same sheet seed v w guess t p ant instruction all =
    let each : SameAt v w (claim p who_and_mind ∷ reads_besides sheet v p ant instruction) = SameAt-merged v w (claim p who_and_mind ∷ reads_besides sheet v p ant instruction) all in
    let deed = SameDeed-posture v w p _ _ _ _ _ _ each.0 (execute-same sheet seed v w guess p ant each.0 instruction each.1) in
    look_with-same v w t guess _ _ _ _ _ _ all deed deed.within

module _ (minds others : Minds) (seed : ℕ) (v w : World) (guess t : ℕ) (same : SameForLook minds others v w t) where
  -- an ant that is alive, and executes or rests
  acting-same : (p : Pos) (ant : Ant) → place_in v t ≡ Some p → (v.cells p).ant ≡ Some ant → v.cells p ≡ w.cells p → (w.cells p).ant ≡ Some ant → place_in w t ≡ Some p → (n : ℕ) → ant.resting ≡ n →
      SameAt v.cells w.cells (merged (claim p who_and_mind ∷ reads_acting n minds v.cells p ant)) → look_of minds seed v guess t ≡ look_of others seed w guess t
  acting-same p ant found is here is_too found_too zero resting all =
      let instruction : Instr = instruction_at (mind_of minds ant.colour) ant.state in
      look_of-executes minds seed v guess t p ant found is resting
      ∙ look_by-same minds.sheet seed v.cells w.cells guess t p ant instruction all
      ∙ ap₂ (λ sheet deed. look_by sheet seed w.cells guess t p ant deed) (sym same.sheet) (sym (same.instruction p ant found is))
      ∙ sym (look_of-executes others seed w guess t p ant found_too is_too resting)
  acting-same p ant found is here is_too found_too (suc left) resting all =
      look_of-rests minds seed v guess t p ant left found is resting
      ∙ ap (λ (c : Cell). rested_look t guess p c (record ant { resting = left })) here
      ∙ sym (look_of-rests others seed w guess t p ant left found_too is_too resting)

  alive-same : (p : Pos) (ant : Ant) → place_in v t ≡ Some p → (v.cells p).ant ≡ Some ant → ant.id ≡ t →
      SameAt v.cells w.cells (merged (claim p who_and_mind ∷ reads_acting ant.resting minds v.cells p ant)) → look_of minds seed v guess t ≡ look_of others seed w guess t
  alive-same p ant found is id all =
      let here : v.cells p ≡ w.cells p = (SameAt-merged v.cells w.cells (claim p who_and_mind ∷ reads_acting ant.resting minds v.cells p ant) all).0 in
      let is_too : (w.cells p).ant ≡ Some ant = ap (λ (c : Cell). c.ant) (sym here) ∙ is in
      let holds : holds_id t (w.cells p) ≡ true = ap (λ (i : ℕ). holds_id i (w.cells p)) (sym id) ∙ holds_id-own (w.cells p) ant is_too in
      acting-same p ant found is here is_too (place_in-found w t p same.valid holds) ant.resting refl all

  -- a dead ant, and one that is alive
  placed-same : (place : Option Pos) → place_in v t ≡ place → SameAt v.cells w.cells (merged (reads_from minds v.cells place)) → look_of minds seed v guess t ≡ look_of others seed w guess t
  placed-same None found all = look_of-dead minds seed v guess t found ∙ sym (look_of-dead others seed w guess t (same.dead found))
  placed-same (Some p) found all =
      let holder : Holder t (v.cells p).ant = place_in-ant v t p found in
      alive-same p holder.ant found holder.is holder.id (rw holder.is at all)

  look_of-same : look_of minds seed v guess t ≡ look_of others seed w guess t
  unfolding reads
  look_of-same = placed-same (place_in v t) refl same.cells

pub looks_agree : LooksAgree
looks_agree minds others seed v w guess t same = sym (look_of-same minds others seed v w guess t same)
