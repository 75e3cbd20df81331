-- What an ant that stays makes of its own cell.
use Rattle.std.proofs.Common.{◌≡◌, ℕ, ◌+◌, ◌-◌, ◌<◌, ◌≤◌, Bool, true, false, if◌then◌else◌, ◌||◌, Some, refl, sym, ◌∙◌, ap, ap₂, subst, arith}
use Rattle.std.specs.Prelude.{◌==◌}
use Rattle.hex_geometry.specs.Direction.{turned_by}
use Rattle.hex_geometry.specs.declared.direction.Side.{Side}
use Rattle.hex_geometry.specs.declared.neighbourhood.Sight.{Sight}
use Rattle.cell_world.specs.declared.ant.Ant.{Ant}
use Rattle.cell_world.specs.declared.ant.Colour.{Colour}
use Rattle.cell_world.specs.declared.ant.Colour.TheVariants.{Red, Black}
use Rattle.cell_world.specs.declared.cell.Cell.{Cell}
use Rattle.cell_world.specs.Cell.{HasMarksOfSix, is_ant, cell_weight, ant_weight, marks_of, one_if}
use Rattle.cell_world.specs.Colour.{foe_of}
use Rattle.cell_world.specs.Inner.Replaces.{Replaces}
use Rattle.cell_world.proofs.MarksLemmas.{IsOfSix-with, IsOfSix-without}
use Rattle.cell_world.proofs.ValidLemmas.{HasMarksOfSix-same}
use Rattle.brain_read.specs.declared.instr.Cond.{Cond}
use Rattle.brain_read.specs.declared.instr.Instr.{Instr}
use Rattle.brain_read.specs.declared.instr.Instr.TheVariants.{Sense, Mark, Unmark, PickUp, Drop, Turn, Move, Flip}
use Rattle.brain_read.specs.Soundness.{IsSound}
use Rattle.ant_turn.specs.Turn.{in_state, with_ant, marked, unmarked}

-- a cell with the same markers of both colours has the same of each
pub same_marks : (colour : Colour) (old new : Cell) → new.red ≡ old.red → new.black ≡ old.black → marks_of colour new ≡ marks_of colour old
same_marks Red old new red black = red
same_marks Black old new red black = black

-- the new cell of an ant that stayed in a turn with this instruction: the ground, the hill and the ant are the same,
-- the particles that lay there or were carried do so still, the foe's markers are the same, and the ant's state is its
-- old one or one that the instruction names
pub record Stays (instruction : Instr) (cell : Cell) (ant : Ant) (new : Cell) : Type 0 where
  pub after : Ant
  pub holds : new.ant ≡ Some after
  pub same_kind : new.rocky ≡ cell.rocky
  pub same_hill : new.hill ≡ cell.hill
  pub same_id : after.id ≡ ant.id
  pub same_colour : after.colour ≡ ant.colour
  pub foe_marks : marks_of (foe_of ant.colour) new ≡ marks_of (foe_of ant.colour) cell
  pub six : (n : ℕ) → IsSound n instruction → HasMarksOfSix cell → HasMarksOfSix new
  pub same_food : new.food + one_if after.laden ≡ cell.food + one_if ant.laden
  pub state : (n : ℕ) → ant.state < n → IsSound n instruction → after.state < n

-- both branches are below n
either_below : (b : Bool) (met unmet n : ℕ) → met < n → unmet < n → (if b then met else unmet) < n
either_below true met unmet n first second = first
either_below false met unmet n first second = second

-- an ant that carries what it carried, on a cell of which at most the markers are others
stays_alike : (instruction : Instr) (cell alike : Cell) (ant after : Ant) → alike.rocky ≡ cell.rocky → alike.hill ≡ cell.hill → alike.food ≡ cell.food → ((n : ℕ) → IsSound n instruction → HasMarksOfSix cell → HasMarksOfSix alike) → marks_of (foe_of ant.colour) alike ≡ marks_of (foe_of ant.colour) cell → after.id ≡ ant.id → after.colour ≡ ant.colour → after.laden ≡ ant.laden →
    ((n : ℕ) → ant.state < n → IsSound n instruction → after.state < n) → Stays instruction cell ant (with_ant alike after)
stays_alike instruction cell alike ant after kind hill food six marks id colour laden state = record {
  after = after;
  holds = refl;
  same_kind = kind;
  same_hill = hill;
  same_id = id;
  same_colour = colour;
  foe_marks = same_marks (foe_of ant.colour) alike (with_ant alike after) refl refl ∙ marks;
  six = λ n sound kept. HasMarksOfSix-same alike (with_ant alike after) refl refl (six n sound kept);
  same_food = ap₂ (λ lying carried. lying + one_if carried) food laden;
  state = state;
}

-- an ant that continues in a state that its instruction names
stays_in_state : (instruction : Instr) (cell : Cell) (ant : Ant) (state : ℕ) → ((n : ℕ) → IsSound n instruction → state < n) → Stays instruction cell ant (with_ant cell (in_state ant state))
stays_in_state instruction cell ant state named = stays_alike instruction cell cell ant (in_state ant state) refl refl refl (λ _ _ kept. kept) refl refl refl refl (λ n _. named n)

-- an ant that rests
pub rest_stays : (instruction : Instr) (cell : Cell) (ant : Ant) (left : ℕ) → Stays instruction cell ant (with_ant cell (record ant { resting = left }))
rest_stays instruction cell ant left = stays_alike instruction cell cell ant (record ant { resting = left }) refl refl refl (λ _ _ kept. kept) refl refl refl refl (λ n below _. below)

-- a Sense
pub sense_stays : (cell : Cell) (ant : Ant) (sight : Sight) (met unmet : ℕ) (condition : Cond) (first : Bool) → Stays (Sense sight met unmet condition) cell ant (with_ant cell (in_state ant (if first then met else unmet)))
sense_stays cell ant sight met unmet condition first =
    stays_in_state (Sense sight met unmet condition) cell ant (if first then met else unmet) (λ n sound. either_below first met unmet n sound.0 sound.1)

-- a marker more leaves the markers of a cell of the six
marked_six : (colour : Colour) (cell : Cell) (i : ℕ) → i < 6 → HasMarksOfSix cell → HasMarksOfSix (marked cell colour i)
marked_six Red cell i known kept = record { red = IsOfSix-with cell.red i known kept.red; black = kept.black }
marked_six Black cell i known kept = record { red = kept.red; black = IsOfSix-with cell.black i known kept.black }

-- and so does a marker less
unmarked_six : (colour : Colour) (cell : Cell) (i : ℕ) → i < 6 → HasMarksOfSix cell → HasMarksOfSix (unmarked cell colour i)
unmarked_six Red cell i known kept = record { red = IsOfSix-without cell.red i kept.red; black = kept.black }
unmarked_six Black cell i known kept = record { red = kept.red; black = IsOfSix-without cell.black i kept.black }

-- a Mark
pub mark_stays : (colour : Colour) (cell : Cell) (ant : Ant) (i next : ℕ) → colour ≡ ant.colour → Stays (Mark i next) cell ant (with_ant (marked cell colour i) (in_state ant next))
mark_stays Red cell ant i next own = stays_alike (Mark i next) cell (marked cell Red i) ant (in_state ant next) refl refl refl (λ n sound kept. marked_six Red cell i sound.0 kept) (subst (λ own_colour. marks_of (foe_of own_colour) (marked cell Red i) ≡ marks_of (foe_of own_colour) cell) own refl) refl refl refl (λ n _ sound. sound.1)
mark_stays Black cell ant i next own = stays_alike (Mark i next) cell (marked cell Black i) ant (in_state ant next) refl refl refl (λ n sound kept. marked_six Black cell i sound.0 kept) (subst (λ own_colour. marks_of (foe_of own_colour) (marked cell Black i) ≡ marks_of (foe_of own_colour) cell) own refl) refl refl refl (λ n _ sound. sound.1)

-- an Unmark
pub unmark_stays : (colour : Colour) (cell : Cell) (ant : Ant) (i next : ℕ) → colour ≡ ant.colour → Stays (Unmark i next) cell ant (with_ant (unmarked cell colour i) (in_state ant next))
unmark_stays Red cell ant i next own = stays_alike (Unmark i next) cell (unmarked cell Red i) ant (in_state ant next) refl refl refl (λ n sound kept. unmarked_six Red cell i sound.0 kept) (subst (λ own_colour. marks_of (foe_of own_colour) (unmarked cell Red i) ≡ marks_of (foe_of own_colour) cell) own refl) refl refl refl (λ n _ sound. sound.1)
unmark_stays Black cell ant i next own = stays_alike (Unmark i next) cell (unmarked cell Black i) ant (in_state ant next) refl refl refl (λ n sound kept. unmarked_six Black cell i sound.0 kept) (subst (λ own_colour. marks_of (foe_of own_colour) (unmarked cell Black i) ≡ marks_of (foe_of own_colour) cell) own refl) refl refl refl (λ n _ sound. sound.1)

-- the particles are the same where one is picked up from some
one_picked_up : (laden : Bool) (food : ℕ) → (laden || food == 0) ≡ false → food - 1 + 1 ≡ food + one_if laden
one_picked_up true food free = absurd (cc)
one_picked_up false food free = let some : 1 ≤ food = grind arith in omega arith

-- a PickUp, whether it is barred or not
picked_up : (barred : Bool) (cell : Cell) (ant : Ant) (met unmet : ℕ) → (ant.laden || cell.food == 0) ≡ barred → Stays (PickUp met unmet) cell ant
    (if barred then with_ant cell (in_state ant unmet) else record cell { food = cell.food - 1; ant = Some (record ant { laden = true; state = met }) })
picked_up true cell ant met unmet _ = stays_in_state (PickUp met unmet) cell ant unmet (λ n sound. sound.1)
picked_up false cell ant met unmet free = record {
  after = record ant { laden = true; state = met };
  holds = refl;
  same_kind = refl;
  same_hill = refl;
  same_id = refl;
  same_colour = refl;
  foe_marks = same_marks (foe_of ant.colour) cell (record cell { food = cell.food - 1; ant = Some (record ant { laden = true; state = met }) }) refl refl;
  six = λ _ _ kept. record { red = kept.red; black = kept.black };
  same_food = one_picked_up ant.laden cell.food free;
  state = λ n _ sound. sound.0;
}

-- a PickUp
pub pick_up_stays : (cell : Cell) (ant : Ant) (met unmet : ℕ) → Stays (PickUp met unmet) cell ant
    (if ant.laden || cell.food == 0 then with_ant cell (in_state ant unmet) else record cell { food = cell.food - 1; ant = Some (record ant { laden = true; state = met }) })
pick_up_stays cell ant met unmet = picked_up (ant.laden || cell.food == 0) cell ant met unmet refl

-- a Drop
pub drop_stays : (cell : Cell) (ant : Ant) (next : ℕ) → Stays (Drop next) cell ant (record cell { food = cell.food + one_if ant.laden; ant = Some (record ant { laden = false; state = next }) })
drop_stays cell ant next = record {
  after = record ant { laden = false; state = next };
  holds = refl;
  same_kind = refl;
  same_hill = refl;
  same_id = refl;
  same_colour = refl;
  foe_marks = same_marks (foe_of ant.colour) cell (record cell { food = cell.food + one_if ant.laden; ant = Some (record ant { laden = false; state = next }) }) refl refl;
  six = λ _ _ kept. record { red = kept.red; black = kept.black };
  same_food = omega arith;
  state = λ n _ sound. sound;
}

-- a Turn
pub turn_stays : (cell : Cell) (ant : Ant) (side : Side) (next : ℕ) → Stays (Turn side next) cell ant (with_ant cell (record ant { facing = turned_by ant.facing side; state = next }))
turn_stays cell ant side next = stays_alike (Turn side next) cell cell ant (record ant { facing = turned_by ant.facing side; state = next }) refl refl refl (λ _ _ kept. kept) refl refl refl refl (λ n _ sound. sound)

-- a Move that doesn't go
pub move_stays : (cell : Cell) (ant : Ant) (met unmet : ℕ) → Stays (Move met unmet) cell ant (with_ant cell (in_state ant unmet))
move_stays cell ant met unmet = stays_in_state (Move met unmet) cell ant unmet (λ n sound. sound.1)

-- a Flip
pub flip_stays : (cell : Cell) (ant : Ant) (bound met unmet : ℕ) (first : Bool) → Stays (Flip bound met unmet) cell ant (with_ant cell (in_state ant (if first then met else unmet)))
flip_stays cell ant bound met unmet first =
    stays_in_state (Flip bound met unmet) cell ant (if first then met else unmet) (λ n sound. either_below first met unmet n sound.1 sound.2)

module _ {instruction : Instr} {cell : Cell} {ant : Ant} {new : Cell} (stays : Stays instruction cell ant new) (is : cell.ant ≡ Some ant) where
  -- no ant that stays gets heavier or lighter
  pub stays_weight : cell_weight new ≡ cell_weight cell
  unfolding cell_weight
  stays_weight =
      let after : ant_weight new.ant ≡ 9 + one_if stays.after.laden = ap ant_weight stays.holds in
      let before : ant_weight cell.ant ≡ 9 + one_if ant.laden = ap ant_weight is in
      let food = stays.same_food in
      omega arith

  -- its cell may replace the one before
  pub stays_replaces : Replaces cell new
  stays_replaces = record {
    same_kind = stays.same_kind;
    same_hill = stays.same_hill;
    same_ant = λ t held. ap (is_ant t) is ∙ ap (λ i. i == t) (sym stays.same_id) ∙ sym (ap (is_ant t) stays.holds) ∙ held;
    no_heavier = let same = stays_weight in omega arith;
  }
