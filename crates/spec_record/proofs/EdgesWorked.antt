-- Looks at PickUp, Unmark, Turn and Mark, at an ant that rests before its Mark, and guesses of a window that begins
-- later, worked out.
use Rattle.std.proofs.Common.{◌≡◌, ℕ, [], ◌∷◌, refl}
use Rattle.hex_geometry.specs.Direction.{directions}
use Rattle.hex_geometry.specs.Neighbourhood.{adjacent_pos, neighbours_of}
use Rattle.hex_geometry.specs.Position.{same_pos}
use Rattle.hex_geometry.specs.declared.position.Pos.{Pos}
use Rattle.hex_geometry.specs.declared.direction.Side.TheVariants.{Left}
use Rattle.cell_world.specs.declared.ant.Colour.TheVariants.{Red}
use Rattle.cell_world.specs.declared.kind.Kind.TheVariants.{Rock, Clear, RedHill}
use Rattle.cell_world.specs.declared.part.Part.TheVariants as part
use Rattle.cell_world.specs.Cell.{rock}
use Rattle.cell_world.specs.Grid.{cell_in, world_of}
use Rattle.cell_world.specs.Marks.{no_marks, with_mark}
use Rattle.cell_world.specs.Opening.{floor, hill_cell, opening}
use Rattle.cell_world.specs.Parts.{only, with_part}
use Rattle.cell_world.specs.World.{World, place_in, put_cell}
use Rattle.brain_read.specs.declared.instr.Instr.{Instr}
use Rattle.brain_read.specs.declared.instr.Instr.TheVariants.{Drop, Mark, Move, PickUp, Turn, Unmark}
use Rattle.ant_turn.specs.Kills.{check_at, is_surrounded, killed_at, places_around}
use Rattle.ant_turn.specs.Minds.{Minds, contest_minds}
use Rattle.ant_turn.specs.Rounds.{after_round, after_turn, start_of}
use Rattle.ant_turn.specs.Turn.{stepped, turn}
use Rattle.spec_record.specs.Claims.{claim, merged}
use Rattle.spec_record.specs.Guess.{flips, guess, guesses_of}
use Rattle.spec_record.specs.Look.{look_of}
use Rattle.spec_record.specs.Reads.{load_and_food, reads, who_and_mind}
use Rattle.spec_record.specs.Writes.{writes}
use Rattle.spec_record.proofs.LooksWorked.{field, minds}

abbrev at : ℕ → ℕ → Pos
at x y = record { x = x; y = y }

-- red ants do this, and black ones stand
abbrev doing : Instr → Minds
doing instruction = contest_minds (instruction ∷ []) (Drop 0 ∷ [])

-- by a PickUp what the ant carries and what lies there are read and written
looks-picks_up :
    (reads (doing (PickUp 0 0)) field 2 ≡ claim (at 3 3) (with_part (with_part who_and_mind part.Load) part.Food) ∷ [])
    × (writes (doing (PickUp 0 0)) field 2 ≡ claim (at 3 3) (with_part load_and_food part.Mind) ∷ [])
unfolding reads writes merged opening cell_in rock floor place_in same_pos
looks-picks_up = (refl, refl)

-- by an Unmark the markers of the ant's colour
looks-unmarks :
    (reads (doing (Unmark 3 0)) field 2 ≡ claim (at 3 3) (with_part who_and_mind part.RedMarks) ∷ [])
    × (writes (doing (Unmark 3 0)) field 2 ≡ claim (at 3 3) (with_part (only part.Mind) part.RedMarks) ∷ [])
unfolding reads writes merged opening cell_in rock floor place_in same_pos
looks-unmarks = (refl, refl)

-- by a Turn nothing but the ant itself
looks-turns :
    (reads (doing (Turn Left 0)) field 2 ≡ claim (at 3 3) who_and_mind ∷ [])
    × (writes (doing (Turn Left 0)) field 2 ≡ claim (at 3 3) (only part.Mind) ∷ [])
unfolding reads writes merged opening cell_in rock floor place_in same_pos
looks-turns = (refl, refl)

-- what a look read is as it was before the turn, and what it wrote as it is then
look-marks :
    ((look_of (doing (Mark 3 0)) 12345 field 0 2).reads ≡ (at 3 3, with_part who_and_mind part.RedMarks, hill_cell Red 2) ∷ [])
    × ((look_of (doing (Mark 3 0)) 12345 field 0 2).writes ≡ (at 3 3, with_part (only part.Mind) part.RedMarks, record (hill_cell Red 2) { red = with_mark no_marks 3 }) ∷ [])
unfolding look_of turn reads writes merged opening cell_in rock floor place_in put_cell same_pos
look-marks = (refl, refl)

-- an ant that went one cell on, and rests before its Mark
abbrev movers : Minds
movers = contest_minds (Move 1 0 ∷ Mark 3 1 ∷ []) (Drop 0 ∷ [])

abbrev later : World
later = (after_round movers 12345 (start_of (world_of (opening 4 3 (Rock ∷ Rock ∷ Rock ∷ Rock ∷ Rock ∷ RedHill ∷ Clear ∷ Rock ∷ Rock ∷ Rock ∷ Rock ∷ Rock ∷ []))))).world

-- it reads and writes nothing of the markers
looks-resting_before_mark :
    (reads movers later 0 ≡ claim (at 2 1) who_and_mind ∷ [])
    × (writes movers later 0 ≡ claim (at 2 1) (only part.Mind) ∷ [])
unfolding after_round after_turn turn reads writes merged stepped is_surrounded check_at killed_at places_around put_cell same_pos neighbours_of adjacent_pos directions opening cell_in rock floor place_in
looks-resting_before_mark = (refl, refl)

-- the guesses of a window that begins at id 3 don't count the Flip of id 2
guesses-from_three : guesses_of minds field 5 3 3 4 ≡ 5 ∷ 5 ∷ 6 ∷ 6 ∷ []
unfolding guess flips opening cell_in rock floor place_in
guesses-from_three = refl
