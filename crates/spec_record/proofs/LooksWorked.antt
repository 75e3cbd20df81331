-- Looks and guesses, worked out.
use Rattle.std.proofs.Common.{◌≡◌, ℕ, true, false, List, [], ◌∷◌, map, Some, refl}
use Rattle.hex_geometry.specs.declared.position.Pos.{Pos}
use Rattle.hex_geometry.specs.Direction.{directions}
use Rattle.hex_geometry.specs.Neighbourhood.{adjacent_pos, neighbours_of, sensed_pos}
use Rattle.hex_geometry.specs.Position.{same_pos}
use Rattle.hex_geometry.specs.declared.neighbourhood.Sight.TheVariants.{Ahead, Here}
use Rattle.cell_world.specs.declared.ant.Colour.TheVariants.{Red}
use Rattle.cell_world.specs.declared.kind.Kind.{Kind}
use Rattle.cell_world.specs.declared.kind.Kind.TheVariants.{Rock, Clear, RedHill, BlackHill}
use Rattle.cell_world.specs.declared.part.Parts.{Parts}
use Rattle.cell_world.specs.Cell.{rock}
use Rattle.cell_world.specs.Grid.{cell_in, world_of}
use Rattle.cell_world.specs.Opening.{floor, hill_cell, new_ant, opening}
use Rattle.cell_world.specs.Parts.{no_parts}
use Rattle.cell_world.specs.World.{World, place_in, put, put_cell}
use Rattle.brain_read.specs.declared.instr.Cond.{Cond}
use Rattle.brain_read.specs.declared.instr.Cond.TheVariants as condition
use Rattle.brain_read.specs.declared.instr.Instr.TheVariants.{Drop, Flip, Mark, Move, Sense}
use Rattle.ant_random.specs.Stream.{drawn, random_at, state_at}
use Rattle.ant_turn.specs.Kills.{check_at, is_surrounded, killed_at, places_around}
use Rattle.ant_turn.specs.Minds.{Minds, contest_minds}
use Rattle.ant_turn.specs.Turn.{stepped, turn}
use Rattle.spec_record.specs.Claims.{claim, merged}
use Rattle.spec_record.specs.Guess.{flips, guess, guesses_of}
use Rattle.spec_record.specs.Look.{look_of}
use Rattle.spec_record.specs.Reads.{asked, reads}
use Rattle.spec_record.specs.Writes.{writes}

-- seven by six cells
--     . . . . .
--      . . - # .
--     - . + - #
--      + . - - #
abbrev pub kinds : List Kind
kinds =
    Rock ∷ Rock ∷ Rock ∷ Rock ∷ Rock ∷ Rock ∷ Rock
    ∷ Rock ∷ Clear ∷ Clear ∷ Clear ∷ Clear ∷ Clear ∷ Rock
    ∷ Rock ∷ Clear ∷ Clear ∷ BlackHill ∷ Rock ∷ Clear ∷ Rock
    ∷ Rock ∷ BlackHill ∷ Clear ∷ RedHill ∷ BlackHill ∷ Rock ∷ Rock
    ∷ Rock ∷ RedHill ∷ Clear ∷ BlackHill ∷ BlackHill ∷ Rock ∷ Rock
    ∷ Rock ∷ Rock ∷ Rock ∷ Rock ∷ Rock ∷ Rock ∷ Rock ∷ []

abbrev pub field : World
field = world_of (opening 7 6 kinds)

-- red ants flip, black ones move
abbrev pub minds : Minds
minds = contest_minds (Flip 2 0 0 ∷ []) (Move 0 0 ∷ [])

abbrev at : ℕ → ℕ → Pos
at x y = record { x = x; y = y }

-- the three that are alike: an ant's id, colour, state, resting count and direction; all of it; all of it and food
abbrev posture : Parts
posture = record { who = true; mind = true; load = false; food = false; red_marks = false; black_marks = false }

abbrev ant : Parts
ant = record { who = true; mind = true; load = true; food = false; red_marks = false; black_marks = false }

abbrev who : Parts
who = record { who = true; mind = false; load = false; food = false; red_marks = false; black_marks = false }

abbrev mind : Parts
mind = record { who = false; mind = true; load = false; food = false; red_marks = false; black_marks = false }

-- each of the two red ants that is at a Flip makes the guesses after it one higher
guesses-field : guesses_of minds field 0 0 0 7 ≡ 0 ∷ 0 ∷ 0 ∷ 1 ∷ 1 ∷ 2 ∷ 2 ∷ []
unfolding guess flips opening cell_in rock floor place_in
guesses-field = refl

-- the ant of id 0 is blocked by rock
reads-blocked : reads minds field 0 ≡ claim (at 3 2) posture ∷ claim (at 4 2) who ∷ []
unfolding reads writes merged stepped is_surrounded check_at killed_at places_around put_cell same_pos neighbours_of adjacent_pos sensed_pos directions opening cell_in rock floor place_in drawn random_at state_at
reads-blocked = refl

writes-blocked : writes minds field 0 ≡ claim (at 3 2) mind ∷ []
unfolding reads writes merged stepped is_surrounded check_at killed_at places_around put_cell same_pos neighbours_of adjacent_pos sensed_pos directions opening cell_in rock floor place_in drawn random_at state_at
writes-blocked = refl

-- the ant of id 1 goes to (2, 3), and the one of id 2 on (3, 3) is killed
reads-goes : reads minds field 1 ≡
    claim (at 1 3) ant
    ∷ claim (at 2 3) who
    ∷ claim (at 3 3) (record { who = true; mind = false; load = true; food = true; red_marks = false; black_marks = false })
    ∷ claim (at 3 4) who ∷ claim (at 2 4) who ∷ claim (at 2 2) who ∷ claim (at 3 2) who
    ∷ claim (at 4 3) who ∷ claim (at 4 4) who ∷ claim (at 4 2) who ∷ claim (at 3 5) who ∷ claim (at 2 5) who ∷ claim (at 2 1) who ∷ claim (at 3 1) who ∷ []
unfolding reads writes merged stepped is_surrounded check_at killed_at places_around put_cell same_pos neighbours_of adjacent_pos sensed_pos directions opening cell_in rock floor place_in drawn random_at state_at
reads-goes = refl

writes-goes : writes minds field 1 ≡ claim (at 1 3) ant ∷ claim (at 2 3) ant ∷ claim (at 3 3) (record { who = true; mind = true; load = true; food = true; red_marks = false; black_marks = false }) ∷ []
unfolding reads writes merged stepped is_surrounded check_at killed_at places_around put_cell same_pos neighbours_of adjacent_pos sensed_pos directions opening cell_in rock floor place_in drawn random_at state_at
writes-goes = refl

killed-goes : ((look_of minds 12345 field 0 1).killed ≡ 2 ∷ []) × ((look_of minds 12345 field 0 1).drew ≡ false)
unfolding look_of turn reads writes merged stepped is_surrounded check_at killed_at places_around put_cell same_pos neighbours_of adjacent_pos sensed_pos directions opening cell_in rock floor place_in drawn random_at state_at
killed-goes = (refl, refl)

-- the ant of id 2 is at a Flip
reads-flips : reads minds field 2 ≡ claim (at 3 3) posture ∷ []
unfolding reads writes merged stepped is_surrounded check_at killed_at places_around put_cell same_pos neighbours_of adjacent_pos sensed_pos directions opening cell_in rock floor place_in drawn random_at state_at
reads-flips = refl

writes-flips : (writes minds field 2 ≡ claim (at 3 3) mind ∷ []) × ((look_of minds 12345 field 0 2).drew ≡ true)
unfolding look_of turn reads writes merged stepped is_surrounded check_at killed_at places_around put_cell same_pos neighbours_of adjacent_pos sensed_pos directions opening cell_in rock floor place_in drawn random_at state_at
writes-flips = (refl, refl)

-- the others are blocked by ants or by rock, or at a Flip
reads-others :
    (reads minds field 3 ≡ claim (at 4 3) posture ∷ claim (at 5 3) who ∷ [])
    × (reads minds field 4 ≡ claim (at 1 4) posture ∷ [])
    × (reads minds field 5 ≡ claim (at 3 4) posture ∷ claim (at 4 4) who ∷ [])
    × (reads minds field 6 ≡ claim (at 4 4) posture ∷ claim (at 5 4) who ∷ [])
unfolding reads writes merged stepped is_surrounded check_at killed_at places_around put_cell same_pos neighbours_of adjacent_pos sensed_pos directions opening cell_in rock floor place_in
reads-others = (refl, refl, refl, refl)

writes-others :
    (writes minds field 3 ≡ claim (at 4 3) mind ∷ [])
    × (writes minds field 4 ≡ claim (at 1 4) mind ∷ [])
    × (writes minds field 5 ≡ claim (at 3 4) mind ∷ [])
    × (writes minds field 6 ≡ claim (at 4 4) mind ∷ [])
unfolding reads writes merged stepped is_surrounded check_at killed_at places_around put_cell same_pos neighbours_of adjacent_pos sensed_pos directions opening cell_in rock floor place_in
writes-others = (refl, refl, refl, refl)

-- two of the seven draw, and one kills
draws-and-kills :
    (map (λ t. (turn minds 12345 field 0 t).drew) (0 ∷ 1 ∷ 2 ∷ 3 ∷ 4 ∷ 5 ∷ 6 ∷ []) ≡ false ∷ false ∷ true ∷ false ∷ true ∷ false ∷ false ∷ [])
    × (map (λ t. (turn minds 12345 field 0 t).killed) (0 ∷ 1 ∷ 2 ∷ 3 ∷ 4 ∷ 5 ∷ 6 ∷ []) ≡ [] ∷ (2 ∷ []) ∷ [] ∷ [] ∷ [] ∷ [] ∷ [] ∷ [])
unfolding turn reads writes merged stepped is_surrounded check_at killed_at places_around put_cell same_pos neighbours_of adjacent_pos sensed_pos directions opening cell_in rock floor place_in drawn random_at state_at
draws-and-kills = (refl, refl)

-- the red ant of id 2 senses the cell ahead of it: what it reads there is what the condition asks
reads-senses : (asking : Cond) → reads (contest_minds (Sense Ahead 0 0 asking ∷ []) (Move 0 0 ∷ [])) field 2 ≡ claim (at 3 3) posture ∷ claim (at 4 3) (asked asking Red) ∷ []
unfolding reads writes merged stepped is_surrounded check_at killed_at places_around put_cell same_pos neighbours_of adjacent_pos sensed_pos directions opening cell_in rock floor place_in
reads-senses asking = refl

-- and its own cell, if it senses that: both in one claim
reads-own : reads (contest_minds (Sense Here 0 0 condition.Food ∷ []) (Move 0 0 ∷ [])) field 2 ≡ claim (at 3 3) (record { who = true; mind = true; load = false; food = true; red_marks = false; black_marks = false }) ∷ []
unfolding reads writes merged stepped is_surrounded check_at killed_at places_around put_cell same_pos neighbours_of adjacent_pos sensed_pos directions opening cell_in rock floor place_in
reads-own = refl

-- the same ant with food
abbrev laden_field : World
laden_field = put field (at 3 3) (record (field.cells (at 3 3)) { ant = Some (record (new_ant Red 2) { laden = true }) })

-- what it carries and what lies there are read and written by a Drop
looks-laden :
    (reads (contest_minds (Drop 0 ∷ []) (Move 0 0 ∷ [])) laden_field 2 ≡ claim (at 3 3) (record { who = true; mind = true; load = true; food = true; red_marks = false; black_marks = false }) ∷ [])
    × (writes (contest_minds (Drop 0 ∷ []) (Move 0 0 ∷ [])) laden_field 2 ≡ claim (at 3 3) (record { who = false; mind = true; load = true; food = true; red_marks = false; black_marks = false }) ∷ [])
    × ((turn (contest_minds (Drop 0 ∷ []) (Move 0 0 ∷ [])) 12345 laden_field 0 2).cells (at 3 3) ≡ record (hill_cell Red 2) { food = 1 })
unfolding turn reads writes merged stepped is_surrounded check_at killed_at places_around put_cell same_pos neighbours_of adjacent_pos sensed_pos directions opening cell_in rock floor place_in drawn random_at state_at
looks-laden = (refl, refl, refl)

-- by a Mark the markers of its colour
looks-marks :
    (reads (contest_minds (Mark 3 0 ∷ []) (Move 0 0 ∷ [])) field 2 ≡ claim (at 3 3) (record { who = true; mind = true; load = false; food = false; red_marks = true; black_marks = false }) ∷ [])
    × (writes (contest_minds (Mark 3 0 ∷ []) (Move 0 0 ∷ [])) field 2 ≡ claim (at 3 3) (record { who = false; mind = true; load = false; food = false; red_marks = true; black_marks = false }) ∷ [])
unfolding reads writes merged stepped is_surrounded check_at killed_at places_around put_cell same_pos neighbours_of adjacent_pos sensed_pos directions opening cell_in rock floor place_in
looks-marks = (refl, refl)

-- what each condition asks of the sensed cell, for a red ant
asked-each :
    (asked condition.Friend Red ≡ who) × (asked condition.Foe Red ≡ who)
    × (asked condition.FriendWithFood Red ≡ record { who = true; mind = false; load = true; food = false; red_marks = false; black_marks = false })
    × (asked condition.FoeWithFood Red ≡ record { who = true; mind = false; load = true; food = false; red_marks = false; black_marks = false })
    × (asked condition.Food Red ≡ record { who = false; mind = false; load = false; food = true; red_marks = false; black_marks = false })
    × (asked condition.Rock Red ≡ no_parts)
    × (asked (condition.Marker 3) Red ≡ record { who = false; mind = false; load = false; food = false; red_marks = true; black_marks = false })
    × (asked condition.FoeMarker Red ≡ record { who = false; mind = false; load = false; food = false; red_marks = false; black_marks = true })
    × (asked condition.Home Red ≡ no_parts) × (asked condition.FoeHome Red ≡ no_parts)
asked-each = (refl, refl, refl, refl, refl, refl, refl, refl, refl, refl)
