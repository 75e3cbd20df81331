-- A turn draws a random number where its ant is at a Flip; and a look in hand holds where the definition says so.
use Rattle.std.proofs.Common.{◌≡◌, ℕ, zero, suc, Bool, true, false, if◌then◌else◌, Option, Some, None, List, [], ◌∷◌, refl, sym, ◌∙◌}
use Rattle.std.specs.List.{AllByRecursion}
use Rattle.hex_geometry.specs.declared.position.Pos.{Pos}
use Rattle.hex_geometry.specs.Neighbourhood.{adjacent_pos}
use Rattle.cell_world.specs.declared.ant.Ant.{Ant}
use Rattle.cell_world.specs.Parts.{Agree}
use Rattle.cell_world.specs.World.{Cells, World, place_in}
use Rattle.brain_read.specs.declared.instr.Instr.{Instr}
use Rattle.brain_read.specs.declared.instr.Instr.TheVariants.{Sense, Mark, Unmark, PickUp, Drop, Turn, Move, Flip}
use Rattle.ant_turn.specs.Minds.{Minds, mind_of}
use Rattle.ant_turn.specs.Sheet.{Sheet}
use Rattle.ant_turn.specs.Turn.{Outcome, acts, ant_becomes, checked, execute, in_state, instruction_at, is_blocked, stepped, turn, turn_from, turn_at}
use Rattle.spec_record.specs.Claims.{Claim, seen_cell, seen_parts, seen_place, with_cells_at}
use Rattle.spec_record.specs.Guess.{ant_flips, flips, flips_from, flips_now, is_flip}
use Rattle.spec_record.specs.Holds.{Holds, LookHolds}
use Rattle.spec_record.specs.Look.{look_of}
use Rattle.spec_record.specs.Reads.{reads}
use Rattle.spec_record.proofs.SettledTurns.{all_with_cells}

-- a Move draws nothing, whether it goes or not
either_drew : (one other : Outcome) (b : Bool) → one.drew ≡ false → other.drew ≡ false → (if b then one else other).drew ≡ false
either_drew one other true first second = first
either_drew one other false first second = second

execute-drew : (sheet : Sheet) (seed : ℕ) (cells : Cells) (place : ℕ) (p : Pos) (ant : Ant) (instruction : Instr) → (execute sheet seed cells place p ant instruction).drew ≡ is_flip instruction
execute-drew sheet seed cells place p ant (Sense sight met unmet condition) = refl
execute-drew sheet seed cells place p ant (Mark i next) = refl
execute-drew sheet seed cells place p ant (Unmark i next) = refl
execute-drew sheet seed cells place p ant (PickUp met unmet) = refl
execute-drew sheet seed cells place p ant (Drop next) = refl
execute-drew sheet seed cells place p ant (Turn side next) = refl
execute-drew sheet seed cells place p ant (Move met unmet) =
    either_drew (ant_becomes cells p (in_state ant unmet)) (checked sheet (stepped sheet cells p ant (adjacent_pos p ant.facing) met) (adjacent_pos p ant.facing)) (is_blocked (cells (adjacent_pos p ant.facing))) refl refl
execute-drew sheet seed cells place p ant (Flip bound met unmet) = refl

acts-drew : (minds : Minds) (seed : ℕ) (cells : Cells) (place : ℕ) (p : Pos) (ant : Ant) (resting : ℕ) → (acts resting minds seed cells place p ant).drew ≡ flips_now resting minds ant
acts-drew minds seed cells place p ant zero = execute-drew minds.sheet seed cells place p ant (instruction_at (mind_of minds ant.colour) ant.state)
acts-drew minds seed cells place p ant (suc left) = refl

turn_at-drew : (minds : Minds) (seed : ℕ) (cells : Cells) (place : ℕ) (p : Pos) (o : Option Ant) → (turn_at minds seed cells place p o).drew ≡ ant_flips minds o
turn_at-drew minds seed cells place p None = refl
turn_at-drew minds seed cells place p (Some ant) = acts-drew minds seed cells place p ant ant.resting

turn_from-drew : (minds : Minds) (seed : ℕ) (cells : Cells) (place : ℕ) (o : Option Pos) → (turn_from minds seed cells place o).drew ≡ flips_from minds cells o
turn_from-drew minds seed cells place None = refl
turn_from-drew minds seed cells place (Some p) = turn_at-drew minds seed cells place p (cells p).ant

-- a turn draws a random number exactly if its ant is alive, not resting and at a Flip
pub turn-drew : (minds : Minds) (seed : ℕ) (w : World) (place t : ℕ) → (turn minds seed w place t).drew ≡ flips minds w t
unfolding turn flips
turn-drew minds seed w place t = turn_from-drew minds seed w.cells place (place_in w t)

-- a look's draw is the base's Flip
pub look-drew : (minds : Minds) (seed : ℕ) (base : World) (guess t : ℕ) → (look_of minds seed base guess t).drew ≡ flips minds base t
unfolding look_of
look-drew minds seed base guess t = turn-drew minds seed base guess t

-- what holds of claims with their cells holds of them
all_of_claims : (P : Claim → Type 0) (v w : Cells) (claims : List Claim) → AllByRecursion (λ read. Agree (seen_parts read) (seen_cell read) (w (seen_place read))) (with_cells_at v claims) → AllByRecursion (λ c. Agree c.parts (v c.at) (w c.at)) claims
all_of_claims P v w [] all = tt
all_of_claims P v w (c ∷ claims) all = (all.0, all_of_claims P v w claims all.1)

-- a look in hand holds where the look of its turn does
pub Holds-LookHolds : (minds : Minds) (seed : ℕ) (base : World) (guess : ℕ) (now : World) (place t : ℕ) → Holds minds base guess now place t → LookHolds (look_of minds seed base guess t) now.cells place
unfolding look_of
Holds-LookHolds minds seed base guess now place t holds = record {
  unchanged = all_with_cells (λ read. Agree (seen_parts read) (seen_cell read) (now.cells (seen_place read))) base.cells (reads minds base t) holds.unchanged;
  guessed = λ drew. holds.guessed (sym (turn-drew minds seed base guess t) ∙ drew);
}

-- and the other way round
pub LookHolds-Holds : (minds : Minds) (seed : ℕ) (base : World) (guess : ℕ) (now : World) (place t : ℕ) → LookHolds (look_of minds seed base guess t) now.cells place → Holds minds base guess now place t
unfolding look_of
LookHolds-Holds minds seed base guess now place t holds = record {
  unchanged = all_of_claims (λ c. Unit {0}) base.cells now.cells (reads minds base t) holds.unchanged;
  guessed = λ flips. holds.guessed (turn-drew minds seed base guess t ∙ flips);
}
