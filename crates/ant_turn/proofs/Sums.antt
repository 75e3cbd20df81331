-- What turns do to sums over the cells: food, weight and the number of the ants.
use Rattle.std.proofs.Common.{◌≡◌, inl, inr, false, ℕ, zero, suc, ◌+◌, ◌-◌, ◌*◌, ◌≤◌, List, [], ◌∷◌, ◌++◌, length, Some, None, refl, sym, ◌∙◌, ap, subst, arith, length-append}
use Rattle.std.proofs.Math.Nat.{mul-add}
use Rattle.hex_geometry.specs.declared.position.Pos.{Pos}
use Rattle.hex_geometry.specs.Neighbourhood.{adjacent_pos}
use Rattle.hex_geometry.specs.Position.{IsInside}
use Rattle.cell_world.specs.declared.ant.Ant.{Ant}
use Rattle.cell_world.specs.declared.ant.Colour.TheVariants.{Red, Black}
use Rattle.cell_world.specs.declared.cell.Cell.{Cell}
use Rattle.cell_world.specs.Cell.{ant_weight, carried, cell_weight, food_in, is_ant_of, one_if}
use Rattle.cell_world.specs.Score.{alive_in, alive_of, food_of}
use Rattle.cell_world.specs.Valid.{Valid}
use Rattle.cell_world.specs.World.{World, area, put, sum_over, total, weight, with_cells}
use Rattle.cell_world.proofs.AliveArePlaced.{of_one_colour}
use Rattle.cell_world.proofs.Places.{ant-clear, clear_inside}
use Rattle.cell_world.proofs.ValidLemmas.{put_cell-all}
use Rattle.cell_world.proofs.Totals.{total-put, total-put_two}
use Rattle.brain_read.specs.declared.instr.Instr.{Instr}
use Rattle.ant_turn.specs.FoodLaws.{killed_in, living_of, world_after_turn}
use Rattle.ant_turn.specs.Kills.{after_kill, check_all, check_at, corpse_food, killed_all, killed_at, places_around}
use Rattle.ant_turn.specs.Minds.{Minds, mind_of}
use Rattle.ant_turn.specs.Sheet.{Sheet}
use Rattle.ant_turn.specs.Turn.{Outcome, arrived, instruction_at, is_blocked, left_by_ant, stepped, turn, with_ant}
use Rattle.ant_turn.proofs.Checks.{check_at-cases}
use Rattle.ant_turn.proofs.KeptByChecks.{check_all-ant}
use Rattle.ant_turn.proofs.KeptByTurns.{free_apart, free_clear, free_empty}
use Rattle.ant_turn.proofs.OwnCells.{Stays, stays_weight}
use Rattle.ant_turn.proofs.TurnParts.{Does, turn_parts}

-- what is counted in each cell changes with kills alone: by this much up and this much down for each
pub record CountsKills (sheet : Sheet) (f : Cell → ℕ) (up down : ℕ) : Type 0 where
  pub kill : (cell : Cell) (ant : Ant) → cell.ant ≡ Some ant → f (after_kill sheet cell) + down ≡ f cell + up
  pub stay : (instruction : Instr) (cell : Cell) (ant : Ant) (new : Cell) → cell.ant ≡ Some ant → Stays instruction cell ant new → f new ≡ f cell
  pub step : (here there : Cell) (ant : Ant) (next : ℕ) → here.ant ≡ Some ant → there.ant ≡ None → f (left_by_ant here) + f (with_ant there (arrived sheet ant next)) ≡ f here + f there

-- ants are inside
abbrev AreInside : World → Type 0
AreInside w = (p : Pos) (ant : Ant) → (w.cells p).ant ≡ Some ant → IsInside w.width w.height p

-- the ants of a valid world are
inside : (w : World) → Valid w → AreInside w
inside w valid p ant is = clear_inside w p valid (ant-clear w p ant valid is)

-- the count after this many kills
abbrev Counted : (Cell → ℕ) → ℕ → ℕ → World → World → List ℕ → Type 0
Counted f up down w now killed = total f now + down * length killed ≡ total f w + up * length killed

module _ (sheet : Sheet) (f : Cell → ℕ) (up down : ℕ) (counts : CountsKills sheet f up down) where
  -- one check
  check_at-counted : (w : World) (p : Pos) → AreInside w → Counted f up down w (with_cells w (check_at sheet w.cells p)) (killed_at sheet w.cells p)
  check_at-counted w p inside =
      check_at-cases sheet w.cells p (λ now killed. Counted f up down w (with_cells w now) killed)
      (grind arith)
      (λ it.
      let change : total f (put w p (after_kill sheet (w.cells p))) + f (w.cells p) ≡ total f w + f (after_kill sheet (w.cells p)) = total-put f w p (after_kill sheet (w.cells p)) (inside p it.ant it.is) in
      let one : f (after_kill sheet (w.cells p)) + down ≡ f (w.cells p) + up = counts.kill (w.cells p) it.ant it.is in
      let ups : up * 1 ≡ up = grind arith in
      let downs : down * 1 ≡ down = grind arith in
      omega arith)

  -- checks of a list of places
  pub check_all-counted : (places : List Pos) (w : World) → AreInside w → Counted f up down w (with_cells w (check_all sheet w.cells places)) (killed_all sheet w.cells places)
  check_all-counted [] w inside = grind arith
  check_all-counted (p ∷ places) w inside =
      let next : World = with_cells w (check_at sheet w.cells p) in
      let first : List ℕ = killed_at sheet w.cells p in
      let then : List ℕ = killed_all sheet next.cells places in
      let one : Counted f up down w next first = check_at-counted w p inside in
      let rest : Counted f up down next (with_cells next (check_all sheet next.cells places)) then =
      check_all-counted places next (λ q ant is. inside q ant (check_all-ant sheet (p ∷ []) w.cells q ant is)) in
      let all : length (first ++ then) ≡ length first + length then = length-append first then in
      let ups : up * length (first ++ then) ≡ up * length first + up * length then = ap (λ n. up * n) all ∙ mul-add up (length first) (length then) in
      let downs : down * length (first ++ then) ≡ down * length first + down * length then = ap (λ n. down * n) all ∙ mul-add down (length first) (length then) in
      omega (arith, one, rest, ups, downs)

  -- a step
  step-counted : (w : World) (p : Pos) (ant : Ant) (q : Pos) (next : ℕ) → Valid w → (w.cells p).ant ≡ Some ant → is_blocked (w.cells q) ≡ false → total f (with_cells w (stepped sheet w.cells p ant q next)) ≡ total f w
  unfolding stepped
  step-counted w p ant q next valid is free =
      let both = total-put_two f w p (left_by_ant (w.cells p)) q (with_ant (w.cells q) (arrived sheet ant next)) (free_apart w.cells p ant q is free) (inside w valid p ant is) (clear_inside w q valid (free_clear (w.cells q) free)) in
      let same = counts.step (w.cells p) (w.cells q) ant next is (free_empty (w.cells q) free) in
      omega (arith, both, same)

  -- ants are inside after a step
  stepped_inside : (w : World) (p : Pos) (ant : Ant) (q : Pos) (next : ℕ) → Valid w → is_blocked (w.cells q) ≡ false → AreInside (with_cells w (stepped sheet w.cells p ant q next))
  unfolding stepped
  stepped_inside w p ant q next valid free =
      put_cell-all (put w p (left_by_ant (w.cells p))) q (with_ant (w.cells q) (arrived sheet ant next)) (λ r c. (a : Ant) → c.ant ≡ Some a → IsInside w.width w.height r)
      (λ _ _. clear_inside w q valid (free_clear (w.cells q) free))
      (λ r _. put_cell-all w p (left_by_ant (w.cells p)) (λ s c. (a : Ant) → c.ant ≡ Some a → IsInside w.width w.height s) (λ a none. absurd (cc)) (λ s _. inside w valid s) r)

  -- an ant that stays or goes
  does-counted : (w : World) (p : Pos) (ant : Ant) (instruction : Instr) (outcome : Outcome) → Valid w → (w.cells p).ant ≡ Some ant → Does instruction sheet w.cells p ant outcome → Counted f up down w (with_cells w outcome.cells) outcome.killed
  does-counted w p ant instruction outcome valid is (inl stayed) =
      let change = total-put f w p stayed.new (inside w valid p ant is) in
      let same : f stayed.new ≡ f (w.cells p) = counts.stay instruction (w.cells p) ant stayed.new is stayed.stays in
      let none : Counted f up down w (put w p stayed.new) [] = omega (arith, change, same) in
      subst (λ cells. Counted f up down w (with_cells w cells) outcome.killed) (sym stayed.cells_after) (subst (Counted f up down w (put w p stayed.new)) (sym stayed.killed) none)
  does-counted w p ant instruction outcome valid is (inr went) =
      let ahead : Pos = adjacent_pos p ant.facing in
      let there : World = with_cells w (stepped sheet w.cells p ant ahead went.next) in
      let same : total f there ≡ total f w = step-counted w p ant ahead went.next valid is went.free in
      let checks = check_all-counted (places_around ahead) there (stepped_inside w p ant ahead went.next valid went.free) in
      subst (λ (o : Outcome). Counted f up down w (with_cells w o.cells) o.killed) (sym went.is) (omega (arith, same, checks))

-- a turn
pub turn-counted : (minds : Minds) (seed : ℕ) (w : World) (place t : ℕ) (f : Cell → ℕ) (up down : ℕ) → CountsKills minds.sheet f up down → Valid w → Counted f up down w (world_after_turn minds seed w place t) (killed_in minds seed w place t)
turn-counted minds seed w place t f up down counts valid =
    elim (turn_parts minds seed w place t) [
      | inl nothing ↦ subst (λ (o : Outcome). Counted f up down w (with_cells w o.cells) o.killed) (sym nothing) (grind arith)
      | inr acted ↦ does-counted minds.sheet f up down counts w acted.p acted.ant (instruction_at (mind_of minds acted.ant.colour) acted.ant.state) (turn minds seed w place t) valid acted.is acted.does
    ]

-- a killed ant's load and its corpse are left
food-counts : (sheet : Sheet) → CountsKills sheet food_in sheet.corpse 0
food-counts sheet = record {
  kill = λ cell ant is.
      let left : corpse_food sheet cell.ant ≡ sheet.corpse + one_if ant.laden = ap (corpse_food sheet) is in
      let load : carried cell.ant ≡ one_if ant.laden = ap carried is in
      omega arith;
  stay = λ instruction cell ant new is stays.
      let before : carried cell.ant ≡ one_if ant.laden = ap carried is in
      let after : carried new.ant ≡ one_if stays.after.laden = ap carried stays.holds in
      let same = stays.same_food in
      omega arith;
  step = λ here there ant next is none.
      let before : carried here.ant ≡ one_if ant.laden = ap carried is in
      let empty : carried there.ant ≡ 0 = ap carried none in
      omega arith;
}

-- a corpse replaces an ant's nine
weight-counts : (sheet : Sheet) → sheet.corpse ≤ 9 → CountsKills sheet cell_weight 0 (9 - sheet.corpse)
unfolding cell_weight
weight-counts sheet small = record {
  kill = λ cell ant is.
      let left : corpse_food sheet cell.ant ≡ sheet.corpse + one_if ant.laden = ap (corpse_food sheet) is in
      let load : ant_weight cell.ant ≡ 9 + one_if ant.laden = ap ant_weight is in
      omega arith;
  stay = λ instruction cell ant new is stays. stays_weight stays is;
  step = λ here there ant next is none.
      let before : ant_weight here.ant ≡ 9 + one_if ant.laden = ap ant_weight is in
      let empty : ant_weight there.ant ≡ 0 = ap ant_weight none in
      omega arith;
}

-- the ants of both colours on a cell
living_in : Cell → ℕ
living_in cell = alive_in Red cell + alive_in Black cell

-- on a cell with an ant is one
living_in-some : (cell : Cell) (ant : Ant) → cell.ant ≡ Some ant → living_in cell ≡ 1
unfolding living_in
living_in-some cell ant is = ap (λ o. one_if (is_ant_of Red o) + one_if (is_ant_of Black o)) is ∙ of_one_colour ant.colour

-- and on one without there is none
living_in-none : (cell : Cell) → cell.ant ≡ None → living_in cell ≡ 0
unfolding living_in
living_in-none cell none = ap (λ o. one_if (is_ant_of Red o) + one_if (is_ant_of Black o)) none

-- each killed ant is one less
living-counts : (sheet : Sheet) → CountsKills sheet living_in 0 1
living-counts sheet = record {
  kill = λ cell ant is.
      let one : living_in cell ≡ 1 = living_in-some cell ant is in
      let gone : living_in (after_kill sheet cell) ≡ 0 = living_in-none (after_kill sheet cell) refl in
      omega arith;
  stay = λ instruction cell ant new is stays. living_in-some new stays.after stays.holds ∙ sym (living_in-some cell ant is);
  step = λ here there ant next is none.
      let before : living_in here ≡ 1 = living_in-some here ant is in
      let empty : living_in there ≡ 0 = living_in-none there none in
      let left : living_in (left_by_ant here) ≡ 0 = living_in-none (left_by_ant here) refl in
      let came : living_in (with_ant there (arrived sheet ant next)) ≡ 1 = living_in-some (with_ant there (arrived sheet ant next)) (arrived sheet ant next) refl in
      omega arith;
}

-- two sums together
sum_over-both : (width : ℕ) (f g : Pos → ℕ) (n : ℕ) → sum_over width f n + sum_over width g n ≡ sum_over width (λ p. f p + g p) n
sum_over-both width f g zero = refl
sum_over-both width f g (suc n) = let front = sum_over-both width f g n in omega (arith, front)

-- the ants of both colours are all
living_of-total : (w : World) → living_of w ≡ total living_in w
unfolding living_in alive_of
living_of-total w = sum_over-both w.width (λ p. alive_in Red (w.cells p)) (λ p. alive_in Black (w.cells p)) (area w)

-- the food after a turn
pub turn-food : (minds : Minds) (seed : ℕ) (w : World) (place t : ℕ) → Valid w → food_of (world_after_turn minds seed w place t) ≡ food_of w + minds.sheet.corpse * length (killed_in minds seed w place t)
unfolding food_of
turn-food minds seed w place t valid = let it = turn-counted minds seed w place t food_in minds.sheet.corpse 0 (food-counts minds.sheet) valid in omega (arith, it)

-- the weight after a turn
pub turn-weight : (minds : Minds) (seed : ℕ) (w : World) (place t : ℕ) → minds.sheet.corpse ≤ 9 → Valid w → weight (world_after_turn minds seed w place t) + (9 - minds.sheet.corpse) * length (killed_in minds seed w place t) ≡ weight w
unfolding weight
turn-weight minds seed w place t small valid = let it = turn-counted minds seed w place t cell_weight 0 (9 - minds.sheet.corpse) (weight-counts minds.sheet small) valid in omega (arith, it)

-- the ants after a turn
pub turn-living : (minds : Minds) (seed : ℕ) (w : World) (place t : ℕ) → Valid w → living_of (world_after_turn minds seed w place t) + length (killed_in minds seed w place t) ≡ living_of w
turn-living minds seed w place t valid =
    let it = turn-counted minds seed w place t living_in 0 1 (living-counts minds.sheet) valid in
    let now = living_of-total (world_after_turn minds seed w place t) in
    let then = living_of-total w in
    omega (arith, it, now, then)
