-- A turn without a kill changes the food on the hills by that of the ant's own cell alone.
use Rattle.std.proofs.Common.{◌≡◌, ◌≢◌, ◌+◌, ◌-◌, ◌≤◌, ℕ, zero, suc, Bool, true, false, List, [], ◌∷◌, Option, Some, None, cond, refl, sym, ap, ap₂, ◌∙◌, subst, arith}
use Rattle.list_lemmas.proofs.Elements.{append-empty}
use Rattle.hex_geometry.specs.declared.position.Pos.{Pos}
use Rattle.hex_geometry.specs.Position.{IsInside}
use Rattle.hex_geometry.specs.Neighbourhood.{adjacent_pos}
use Rattle.cell_world.specs.declared.ant.Ant.{Ant}
use Rattle.cell_world.specs.declared.ant.Colour.{Colour}
use Rattle.cell_world.specs.declared.ant.Colour.TheVariants.{Red, Black}
use Rattle.cell_world.specs.declared.cell.Cell.{Cell}
use Rattle.cell_world.specs.Cell.{is_hill_of}
use Rattle.cell_world.specs.declared.score.Score.{Score}
use Rattle.cell_world.specs.Grid.{Grid, IsWorld, world_of}
use Rattle.cell_world.specs.Limits.{most_weight}
use Rattle.cell_world.specs.Score.{hill_food_in, hill_food_of, score_of}
use Rattle.cell_world.specs.Valid.{Valid}
use Rattle.cell_world.specs.World.{World, Cells, put, put_cell, place_in, with_cells}
use Rattle.cell_world.proofs.Places.{clear_inside, place_in-inside}
use Rattle.cell_world.proofs.Puts.{put_cell-same, put_cell-other}
use Rattle.cell_world.proofs.Tallies.{hill_food_of-put}
use Rattle.cell_world.proofs.GridSums.{hill_food_of-list, hill_food_in-light, hill_food_in-le-cell_weight}
use Rattle.cell_world.proofs.Weights.{cell_weight-light}
use Rattle.brain_read.specs.declared.instr.Instr.{Instr}
use Rattle.brain_read.specs.declared.instr.Instr.TheVariants.{Move}
use Rattle.ant_turn.specs.Kills.{check_at, check_all, killed_at, killed_all, places_around}
use Rattle.ant_turn.specs.Minds.{Minds, mind_of}
use Rattle.ant_turn.specs.Sheet.{Sheet}
use Rattle.ant_turn.specs.Turn.{acts, ant_becomes, arrived, checked, execute, in_state, instruction_at, is_blocked, left_by_ant, stepped, turn, turn_from, turn_at, with_ant}
use Rattle.ant_turn.proofs.Checks.{check_at-cases}
use Rattle.ant_turn.proofs.KeptByTurns.{free_apart, free_clear}
use Rattle.spec_record.proofs.QuietMoves.{stepped-from}
use Rattle.break_view.specs.Inner.CellScores.{cell_at, score_in_any, IsCounted, CanCount}

-- the food that the cell at a position gives, if there is a position
abbrev pub score_at : World → Option Pos → Score
score_at w o = score_in_any (cell_at w o)

-- these cells have the food of a world on its hills, except for what the cell at p gives
abbrev CountsAt : World → Pos → Cells → Type 0
CountsAt w p cells = (colour : Colour) → hill_food_of (with_cells w cells) colour + hill_food_in colour (w.cells p) ≡ hill_food_of w colour + hill_food_in colour (cells p)

-- a cell is put
put-counts : (w : World) (p : Pos) (cell : Cell) → IsInside w.width w.height p → CountsAt w p (put_cell w.cells p cell)
put-counts w p cell inside colour =
    hill_food_of-put w colour p cell inside ∙ ap (λ c. hill_food_of w colour + hill_food_in colour c) (sym (put_cell-same w.cells p cell))

-- a cell of the same hill and food is put
pub put-keeps : (w : World) (p : Pos) (cell : Cell) → IsInside w.width w.height p → cell.hill ≡ (w.cells p).hill → cell.food ≡ (w.cells p).food → (colour : Colour) → hill_food_of (put w p cell) colour ≡ hill_food_of w colour
put-keeps w p cell inside hill food colour =
    let counted = hill_food_of-put w colour p cell inside in
    let same : hill_food_in colour cell ≡ hill_food_in colour (w.cells p) = ap₂ (λ (h : Option Colour) (f : ℕ). cond (is_hill_of colour h) f 0) hill food in
    omega (arith, counted, same)

-- an ant steps to another cell
step-counts : (sheet : Sheet) (w : World) (p : Pos) (ant : Ant) (q : Pos) (next : ℕ) → IsInside w.width w.height p → IsInside w.width w.height q → p ≢ q → CountsAt w p (stepped sheet w.cells p ant q next)
unfolding stepped
step-counts sheet w p ant q next inside beyond apart colour =
    let left = put_cell w.cells p (left_by_ant (w.cells p)) in
    let there : left q ≡ w.cells q = put_cell-other w.cells p (left_by_ant (w.cells p)) q apart in
    let second = put-keeps (put w p (left_by_ant (w.cells p))) q (with_ant (w.cells q) (arrived sheet ant next)) beyond (ap (λ (c : Cell). c.hill) (sym there)) (ap (λ (c : Cell). c.food) (sym there)) colour in
    let first = put-keeps w p (left_by_ant (w.cells p)) inside refl refl colour in
    let own : hill_food_in colour (put_cell left q (with_ant (w.cells q) (arrived sheet ant next)) p) ≡ hill_food_in colour (w.cells p) = ap (hill_food_in colour) (stepped-from sheet w.cells p ant q next apart) in
    omega (arith, first, second, own)

-- checks that kill no ant change nothing
pub spared : (sheet : Sheet) (places : List Pos) (cells : Cells) → killed_all sheet cells places ≡ [] → check_all sheet cells places ≡ cells
spared sheet [] cells none = refl
spared sheet (p ∷ places) cells none =
    let parts = append-empty (killed_at sheet cells p) (killed_all sheet (check_at sheet cells p) places) none in
    let here : check_at sheet cells p ≡ cells = check_at-cases sheet cells p (λ now killed. killed ≡ [] → now ≡ cells) (λ _. refl) (λ it e. (let never : it.ant.id ∷ [] ≡ [] = e in absurd (cc))) parts.0 in
    spared sheet places (check_at sheet cells p) parts.1 ∙ here

module _ (w : World) (valid : Valid w) (p : Pos) (ant : Ant) (here : (w.cells p).ant ≡ Some ant) (inside : IsInside w.width w.height p) where
  -- an ant that goes, or stays where it is blocked
  move-counts : (sheet : Sheet) (q : Pos) (met unmet : ℕ) (b : Bool) → is_blocked (w.cells q) ≡ b
      → (cond b (ant_becomes w.cells p (in_state ant unmet)) (checked sheet (stepped sheet w.cells p ant q met) q)).killed ≡ []
      → CountsAt w p (cond b (ant_becomes w.cells p (in_state ant unmet)) (checked sheet (stepped sheet w.cells p ant q met) q)).cells
  move-counts sheet q met unmet true blocked none = put-counts w p _ inside
  move-counts sheet q met unmet false free none =
      subst (CountsAt w p) (sym (spared sheet (places_around q) (stepped sheet w.cells p ant q met) none))
      (step-counts sheet w p ant q met inside (clear_inside w q valid (free_clear (w.cells q) free)) (free_apart w.cells p ant q here free))

  execute-counts : (sheet : Sheet) (seed place : ℕ) (instruction : Instr) → (execute sheet seed w.cells place p ant instruction).killed ≡ [] → CountsAt w p (execute sheet seed w.cells place p ant instruction).cells
  execute-counts sheet seed place (Move met unmet) none = move-counts sheet (adjacent_pos p ant.facing) met unmet (is_blocked (w.cells (adjacent_pos p ant.facing))) refl none
  execute-counts sheet seed place it none = put-counts w p _ inside

  acts-counts : (minds : Minds) (seed place n : ℕ) → (acts n minds seed w.cells place p ant).killed ≡ [] → CountsAt w p (acts n minds seed w.cells place p ant).cells
  acts-counts minds seed place zero none = execute-counts minds.sheet seed place (instruction_at (mind_of minds ant.colour) ant.state) none
  acts-counts minds seed place (suc left) none = put-counts w p _ inside

module _ (minds : Minds) (seed place : ℕ) (w : World) (valid : Valid w) where
  turn_at-counts : (p : Pos) → IsInside w.width w.height p → (o : Option Ant) → (w.cells p).ant ≡ o → (turn_at minds seed w.cells place p o).killed ≡ [] → CountsAt w p (turn_at minds seed w.cells place p o).cells
  turn_at-counts p inside None here none = λ colour. refl
  turn_at-counts p inside (Some ant) here none = acts-counts w valid p ant here inside minds seed place ant.resting none

  turn_from-counts : (t : ℕ) (o : Option Pos) → place_in w t ≡ o → (turn_from minds seed w.cells place o).killed ≡ []
      → IsCounted (score_of w) (score_at w o) (score_of (with_cells w (turn_from minds seed w.cells place o).cells)) (score_at (with_cells w (turn_from minds seed w.cells place o).cells) o)
  unfolding score_of
  turn_from-counts t None found none = record { red = refl; black = refl }
  turn_from-counts t (Some p) found none =
      let counts = turn_at-counts p (place_in-inside w t p found) (w.cells p).ant refl none in
      record { red = counts Red; black = counts Black }

-- after a turn without a kill the score is another one by the ant's own cell alone
turn-counts : (minds : Minds) (seed : ℕ) (w : World) (place t : ℕ) → Valid w → (turn minds seed w place t).killed ≡ []
    → IsCounted (score_of w) (score_at w (place_in w t)) (score_of (with_cells w (turn minds seed w place t).cells)) (score_at (with_cells w (turn minds seed w place t).cells) (place_in w t))
unfolding turn
turn-counts minds seed w place t valid none = turn_from-counts minds seed place w valid t (place_in w t) refl none

-- the same of what is known by equations
pub turn-recounted : (minds : Minds) (seed : ℕ) (w : World) (place t : ℕ) → Valid w → (turn minds seed w place t).killed ≡ [] → (o : Option Pos) (new : World) (score before after : Score)
    → score ≡ score_of w → o ≡ place_in w t → before ≡ score_at w o → new ≡ with_cells w (turn minds seed w place t).cells → after ≡ score_at new o → IsCounted score before (score_of new) after
turn-recounted minds seed w place t valid none o new score before after is_score is_place is_before is_new is_after =
    subst (λ s. IsCounted s before (score_of new) after) (sym is_score)
    (subst (λ b. IsCounted (score_of w) b (score_of new) after) (sym (is_before ∙ ap (score_at w) is_place))
    (subst (λ a. IsCounted (score_of w) (score_at w (place_in w t)) (score_of new) a) (sym (is_after ∙ ap (score_at new) is_place))
    (subst (λ v. IsCounted (score_of w) (score_at w (place_in w t)) (score_of v) (score_at v (place_in w t))) (sym is_new) (turn-counts minds seed w place t valid none))))

-- the food on each hill is at most what a world weighs
pub record IsLight (score : Score) : Type 0 where
  pub red : score.red ≤ most_weight
  pub black : score.black ≤ most_weight

pub score_of-light : (g : Grid) → IsWorld g → IsLight (score_of (world_of g))
unfolding score_of
score_of-light g world = record {
  red = omega (arith, hill_food_of-list g Red world.full, hill_food_in-light g Red world);
  black = omega (arith, hill_food_of-list g Black world.full, hill_food_in-light g Black world);
}

pub score_at-light : (w : World) (o : Option Pos) → Valid w → IsLight (score_at w o)
score_at-light w None valid = record { red = omega arith; black = omega arith }
score_at-light w (Some p) valid = record {
  red = omega (arith, hill_food_in-le-cell_weight Red (w.cells p), cell_weight-light w p valid);
  black = omega (arith, hill_food_in-le-cell_weight Black (w.cells p), cell_weight-light w p valid);
}

-- so the score can be counted on
pub counted-can : (old before new after : Score) → IsCounted old before new after → IsLight old → IsLight after → CanCount old before after
counted-can old before new after counted light now = record {
  red = omega (arith, counted.red);
  black = omega (arith, counted.black);
  few_red = omega (arith, light.red, now.red);
  few_black = omega (arith, light.black, now.black);
}

-- and is the score then
pub counted-is : (old before new after made : Score) → IsCounted old before new after → made.red ≡ old.red + after.red - before.red → made.black ≡ old.black + after.black - before.black → made ≡ new
counted-is old before new after made counted red black =
    let same_red : made.red ≡ new.red = omega (arith, counted.red, red) in
    let same_black : made.black ≡ new.black = omega (arith, counted.black, black) in
    ap₂ (λ (r : ℕ) (b : ℕ). record { red = r; black = b }) same_red same_black
