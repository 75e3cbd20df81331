-- Looks that hold after a turn of another ant, and one that doesn't.
use Rattle.std.proofs.Common.{◌≡◌, ℕ, [], ◌∷◌, refl, ap}
use Rattle.std.proofs.lemmas.Bool.{false≢true}
use Rattle.hex_geometry.specs.declared.neighbourhood.Sight.TheVariants.{LeftAhead}
use Rattle.hex_geometry.specs.declared.position.Pos.{Pos}
use Rattle.hex_geometry.specs.Direction.{turned_by}
use Rattle.hex_geometry.specs.Neighbourhood.{adjacent_pos, sensed_pos}
use Rattle.hex_geometry.specs.Position.{same_pos}
use Rattle.cell_world.specs.declared.kind.Kind.TheVariants.{BlackHill, Clear, RedHill, Rock}
use Rattle.cell_world.specs.declared.marks.Marks.{Marks}
use Rattle.cell_world.specs.declared.part.Part.TheVariants as part
use Rattle.cell_world.specs.Cell.{rock}
use Rattle.cell_world.specs.Grid.{cell_in, world_of}
use Rattle.cell_world.specs.Marks.{has_mark}
use Rattle.cell_world.specs.Opening.{floor, opening}
use Rattle.cell_world.specs.Parts.{Agree, no_parts, only, with_part}
use Rattle.cell_world.specs.World.{World, place_in, put_cell, with_cells}
use Rattle.brain_read.specs.declared.instr.Cond.{Cond}
use Rattle.brain_read.specs.declared.instr.Cond.TheVariants as condition
use Rattle.brain_read.specs.declared.instr.Instr.TheVariants.{Mark, Sense}
use Rattle.ant_turn.specs.Minds.{Minds, contest_minds}
use Rattle.ant_turn.specs.Turn.{turn}
use Rattle.spec_record.specs.Claims.{claim, merged}
use Rattle.spec_record.specs.Guess.{flips}
use Rattle.spec_record.specs.Holds.{Holds}
use Rattle.spec_record.specs.Reads.{reads, who_and_mind}
use Rattle.spec_record.specs.Writes.{writes}

-- a red ant over a black one
--     . . . .
--    . + . .
--     . - . .
abbrev one_each : World
one_each = world_of (opening 4 4 (Rock ∷ Rock ∷ Rock ∷ Rock ∷ Rock ∷ RedHill ∷ Clear ∷ Rock ∷ Rock ∷ BlackHill ∷ Clear ∷ Rock ∷ Rock ∷ Rock ∷ Rock ∷ Rock ∷ []))

-- the red ant marks its cell, the black one senses that cell
abbrev mark_and_sense : Cond → Minds
mark_and_sense asked = contest_minds (Mark 0 0 ∷ []) (Sense LeftAhead 0 0 asked ∷ [])

abbrev at : ℕ → ℕ → Pos
at x y = record { x = x; y = y }

-- the red ant writes its own colour's markers there, and what it is about
marking : writes (mark_and_sense condition.Food) one_each 0 ≡ claim (at 1 1) (with_part (only part.Mind) part.RedMarks) ∷ []
unfolding writes merged place_in same_pos cell_in opening rock floor
marking = refl

-- and the world then
abbrev marked_world : Cond → World
marked_world asked = with_cells one_each (turn (mark_and_sense asked) 7 one_each 0 0).cells

-- the black ant and its own cell are unchanged
own_same : (asked : Cond) → Agree who_and_mind (one_each.cells (at 1 2)) ((marked_world asked).cells (at 1 2))
unfolding turn place_in put_cell same_pos cell_in opening rock floor
own_same asked part.Who named = refl
own_same asked it named = refl

-- so is the food of the marked cell
food_same : Agree (only part.Food) (one_each.cells (at 1 1)) ((marked_world condition.Food).cells (at 1 1))
unfolding turn place_in put_cell same_pos cell_in opening rock floor
food_same part.RedMarks named = absurd (false≢true named)
food_same it named = refl

-- no part is read where the black ant asks for its own hill
nothing_same : Agree no_parts (one_each.cells (at 1 1)) ((marked_world condition.Home).cells (at 1 1))
nothing_same part.Who named = absurd (false≢true named)
nothing_same it named = absurd (false≢true named)

-- a look that asks for food holds after the mark
food_holds : Holds (mark_and_sense condition.Food) one_each 0 (marked_world condition.Food) 0 1
unfolding reads merged flips turn place_in put_cell same_pos sensed_pos turned_by adjacent_pos cell_in opening rock floor
food_holds = record { unchanged = (own_same condition.Food, (food_same, tt)); guessed = λ flips. absurd (false≢true flips) }

-- and so does one that asks for a hill
home_holds : Holds (mark_and_sense condition.Home) one_each 0 (marked_world condition.Home) 0 1
unfolding reads merged flips turn place_in put_cell same_pos sensed_pos turned_by adjacent_pos cell_in opening rock floor
home_holds = record { unchanged = (own_same condition.Home, (nothing_same, tt)); guessed = λ flips. absurd (false≢true flips) }

-- one that asks for the foe's markers doesn't
foe_marker_fails : Holds (mark_and_sense condition.FoeMarker) one_each 0 (marked_world condition.FoeMarker) 0 1 → ⊥
unfolding reads merged flips turn place_in put_cell same_pos sensed_pos turned_by adjacent_pos cell_in opening rock floor
foe_marker_fails holds = false≢true (ap (λ (m : Marks). has_mark m 0) (holds.unchanged.1.0 part.RedMarks refl))
