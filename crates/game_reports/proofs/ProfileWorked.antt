-- Profiles, worked out.
use Rattle.std.proofs.Common.{◌≡◌, Bool, true, false, List, [], ◌∷◌, Some, codes, map, refl}
use Rattle.std.specs.Fmt.{digits}
use Rattle.hex_geometry.proofs.Places.{at}
use Rattle.hex_geometry.specs.declared.direction.Dir.TheVariants.{East}
use Rattle.hex_geometry.specs.declared.direction.Side.TheVariants.{Left}
use Rattle.hex_geometry.specs.declared.neighbourhood.Sight.TheVariants.{Ahead, Here}
use Rattle.hex_geometry.specs.Direction.{directions}
use Rattle.hex_geometry.specs.Neighbourhood.{adjacent_pos, neighbours_of, sensed_pos}
use Rattle.hex_geometry.specs.Position.{same_pos}
use Rattle.ant_base.specs.Layout.{numbered, ◌+++◌}
use Rattle.ant_random.specs.Stream.{drawn, random_at, state_at}
use Rattle.ant_turn.specs.Conditions.{meets}
use Rattle.ant_turn.specs.Kills.{check_at, is_surrounded, killed_at, places_around}
use Rattle.ant_turn.specs.Minds.{Minds, contest_minds}
use Rattle.ant_turn.specs.Rounds.{after_round, after_turn}
use Rattle.ant_turn.specs.Sheet.{contest}
use Rattle.ant_turn.specs.Turn.{stepped, turn}
use Rattle.brain_read.specs.Canonical.{instruction_text}
use Rattle.brain_read.specs.declared.instr.Cond.TheVariants.{Food, Home}
use Rattle.brain_read.specs.declared.instr.Instr.{Instr}
use Rattle.brain_read.specs.declared.instr.Instr.TheVariants.{Sense, Mark, Unmark, PickUp, Drop, Turn, Move, Flip}
use Rattle.cell_world.specs.declared.ant.Ant.{Ant}
use Rattle.cell_world.specs.declared.ant.Colour.TheVariants.{Black, Red}
use Rattle.cell_world.specs.declared.kind.Kind.TheVariants.{Rock, Clear, RedHill}
use Rattle.cell_world.specs.Cell.{rock}
use Rattle.cell_world.specs.Grid.{cell_in, world_of}
use Rattle.cell_world.specs.Opening.{floor, opening}
use Rattle.cell_world.specs.World.{Cells, World, place_in, put_cell}
use Rattle.cell_world.proofs.OpeningWorked.{one_hill}
use Rattle.dump_print.specs.Texts.{seed_text}
use Rattle.match_run.proofs.RunWorked.{flipping}
use Rattle.game_reports.proofs.EventsWorked.{ambush}
use Rattle.match_run.specs.Seen.{is_met}
use Rattle.game_reports.specs.Profile.{brain_lines, executed_in, executed_in_rounds, met_of, profile_text, tally_line, times_of}

-- one red ant, whose first random number goes to state 1 and whose second to state 2; the black brain, which has no
-- ant, is shorter
flips_counted : profile_text flipping 12345 (world_of (opening 3 3 one_hill)) 3 0 ≡
    codes "random seed: 12345\n"
    +++ codes "red 0: 1 times, 0 met: Flip 4 0 1\n"
    +++ codes "red 1: 1 times, 1 met: Flip 4 2 1\n"
    +++ codes "red 2: 1 times: Drop 2\n"
    +++ codes "black 0: 0 times: Drop 0\n"
unfolding profile_text executed_in_rounds executed_in times_of met_of brain_lines tally_line instruction_text numbered digits seed_text after_round after_turn turn place_in cell_in opening floor rock put_cell same_pos drawn random_at state_at
flips_counted = refl

-- turns before the first round don't count, and their random numbers are drawn; round 1 is the first of all, and above
-- the last one nothing counts
flips_since : (profile_text flipping 12345 (world_of (opening 3 3 one_hill)) 3 2 ≡
    codes "random seed: 12345\n"
    +++ codes "red 0: 0 times, 0 met: Flip 4 0 1\n"
    +++ codes "red 1: 1 times, 1 met: Flip 4 2 1\n"
    +++ codes "red 2: 1 times: Drop 2\n"
    +++ codes "black 0: 0 times: Drop 0\n")
    × (profile_text flipping 12345 (world_of (opening 3 3 one_hill)) 3 1 ≡ profile_text flipping 12345 (world_of (opening 3 3 one_hill)) 3 0)
    × (profile_text flipping 12345 (world_of (opening 3 3 one_hill)) 3 4 ≡ profile_text flipping 12345 (world_of (opening 3 3 one_hill)) 0 0)
unfolding profile_text executed_in_rounds executed_in times_of met_of brain_lines tally_line instruction_text numbered digits seed_text after_round after_turn turn place_in cell_in opening floor rock put_cell same_pos drawn random_at state_at
flips_since = (refl, refl, refl)

-- no rounds
nothing_counted : profile_text flipping 12345 (world_of (opening 3 3 one_hill)) 0 0 ≡
    codes "random seed: 12345\n"
    +++ codes "red 0: 0 times, 0 met: Flip 4 0 1\n"
    +++ codes "red 1: 0 times, 0 met: Flip 4 2 1\n"
    +++ codes "red 2: 0 times: Drop 2\n"
    +++ codes "black 0: 0 times: Drop 0\n"
unfolding profile_text executed_in_rounds times_of met_of brain_lines tally_line instruction_text numbered digits seed_text
nothing_counted = refl

-- one red ant with one clear cell ahead, which rests for one turn after a Move
abbrev pub lane : World
lane = world_of (opening 4 3 (Rock ∷ Rock ∷ Rock ∷ Rock ∷ Rock ∷ RedHill ∷ Clear ∷ Rock ∷ Rock ∷ Rock ∷ Rock ∷ Rock ∷ []))

abbrev pub hasty : Minds
hasty = record { red = Move 0 0 ∷ []; black = Turn Left 0 ∷ Drop 0 ∷ []; sheet = record contest { rest = 1 } }

-- it moves in round 1, rests in round 2 and is blocked in round 3: resting turns don't count, and both states of the
-- Move are the same
rests_uncounted : profile_text hasty 12345 lane 3 0 ≡
    codes "random seed: 12345\n"
    +++ codes "red 0: 2 times, 1 met: Move 0 0\n"
    +++ codes "black 0: 0 times: Turn Left 0\n"
    +++ codes "black 1: 0 times: Drop 0\n"
unfolding profile_text executed_in_rounds executed_in times_of met_of brain_lines tally_line instruction_text numbered digits seed_text after_round after_turn turn stepped check_at is_surrounded killed_at places_around neighbours_of adjacent_pos directions place_in cell_in opening floor rock put_cell same_pos
rests_uncounted = refl

-- in the first round of the ambush ant 2 dies before its turn, and one of the five black ants moves; the first number
-- is odd
dead_uncounted : profile_text (contest_minds (Flip 2 0 0 ∷ []) (Move 0 0 ∷ [])) 12345 (world_of (opening 7 6 ambush)) 1 0 ≡
    codes "random seed: 12345\n"
    +++ codes "red 0: 1 times, 0 met: Flip 2 0 0\n"
    +++ codes "black 0: 5 times, 1 met: Move 0 0\n"
unfolding profile_text executed_in_rounds executed_in times_of met_of brain_lines tally_line instruction_text numbered digits seed_text after_round after_turn turn stepped check_at is_surrounded killed_at places_around neighbours_of adjacent_pos directions place_in cell_in opening floor rock put_cell same_pos drawn random_at state_at
dead_uncounted = refl

-- a red ant on a cell of its hill with food, in front of a clear cell
abbrev own : Ant
own = record { id = 0; colour = Red; state = 0; resting = 0; facing = East; laden = false }

abbrev around : Cells
around = put_cell (λ q. floor) (at 2 2) (record floor { hill = Some Red; food = 2; ant = Some own })

-- whether the answers of some instructions are the first ones, for this ant at this place
abbrev answers : Ant → List Instr → List Bool
answers ant instructions = map (is_met 12345 around 0 (at 2 2) ant) instructions

-- the number of place 0 is odd; a bound of 1 leaves 0 of every number; an instruction with one answer has the first
answers_told : answers own (Sense Here 1 2 Home ∷ Sense Ahead 1 2 Home ∷ Sense Ahead 1 1 Food ∷ Mark 0 1 ∷ Unmark 0 1 ∷ PickUp 1 2 ∷ Drop 1 ∷ Turn Left 1 ∷ Move 1 2 ∷ Flip 1 1 2 ∷ Flip 2 1 2 ∷ Flip 2 1 1 ∷ [])
    ≡ true ∷ false ∷ false ∷ true ∷ true ∷ true ∷ true ∷ true ∷ true ∷ true ∷ false ∷ false ∷ []
unfolding meets sensed_pos adjacent_pos put_cell same_pos floor drawn random_at state_at
answers_told = refl

-- a laden ant takes nothing, and drops in any case
laden_answers : answers (record own { laden = true }) (PickUp 1 2 ∷ PickUp 1 1 ∷ Drop 1 ∷ []) ≡ false ∷ false ∷ true ∷ []
unfolding put_cell same_pos floor
laden_answers = refl

-- a Mark and an Unmark have one answer, so that how often it was met isn't told
marks_told : (tally_line Red 3 (Mark 2 1) 5 5 ≡ codes "red 3: 5 times: Mark 2 1\n") × (tally_line Black 0 (Unmark 5 0) 7 7 ≡ codes "black 0: 7 times: Unmark 5 0\n")
unfolding tally_line instruction_text numbered digits
marks_told = (refl, refl)
