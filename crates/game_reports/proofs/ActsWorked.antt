-- What ants execute, worked out.
use Rattle.std.proofs.Common.{◌≡◌, ℕ, true, false, List, [], ◌∷◌, Some, None, codes, refl}
use Rattle.std.specs.List.{flat_map}
use Rattle.std.specs.Fmt.{digits}
use Rattle.hex_geometry.specs.declared.direction.Side.TheVariants.{Left}
use Rattle.hex_geometry.specs.declared.neighbourhood.Sight.TheVariants.{Here}
use Rattle.hex_geometry.specs.Direction.{directions}
use Rattle.hex_geometry.specs.Neighbourhood.{adjacent_pos, neighbours_of, sensed_pos}
use Rattle.hex_geometry.specs.Position.{same_pos}
use Rattle.ant_base.specs.Layout.{◌+++◌}
use Rattle.ant_random.specs.Stream.{drawn, random_at, state_at}
use Rattle.ant_turn.specs.Conditions.{meets}
use Rattle.ant_turn.specs.Kills.{check_at, is_surrounded, killed_at, places_around}
use Rattle.ant_turn.specs.Minds.{Minds, contest_minds}
use Rattle.ant_turn.specs.Rounds.{after_round, after_turn, start_of}
use Rattle.ant_turn.specs.Turn.{stepped, turn}
use Rattle.brain_read.specs.Canonical.{instruction_words}
use Rattle.brain_read.specs.declared.instr.Cond.TheVariants.{Foe, Home}
use Rattle.brain_read.specs.declared.instr.Instr.{Instr}
use Rattle.brain_read.specs.declared.instr.Instr.TheVariants.{Sense, Mark, Unmark, PickUp, Drop, Turn, Move, Flip}
use Rattle.cell_world.specs.declared.ant.Colour.TheVariants.{Red}
use Rattle.cell_world.specs.Cell.{rock}
use Rattle.cell_world.specs.Grid.{cell_in, world_of}
use Rattle.cell_world.specs.Opening.{floor, opening}
use Rattle.cell_world.specs.World.{World, place_in, put_cell}
use Rattle.cell_world.proofs.OpeningWorked.{one_hill}
use Rattle.dump_print.specs.Texts.{seed_text}
use Rattle.match_run.specs.Seen.{seen}
use Rattle.match_run.proofs.RunWorked.{flipping}
use Rattle.game_reports.specs.Acts.{act_line, act_lines, acts_text}
use Rattle.game_reports.specs.Report.{report_lines, report_text}
use Rattle.game_reports.specs.Trace.{unmade_text}
use Rattle.game_reports.proofs.EventsWorked.{alone_on, ambush, own_death, stepping}
use Rattle.game_reports.proofs.ProfileWorked.{hasty, lane}

-- one red ant on the one clear cell of a world
abbrev start : World
start = world_of (opening 3 3 one_hill)

-- its first random number isn't 0, its second one is, and its Drop does nothing
three_acts : acts_text flipping 12345 start 3 None 0 ≡
    codes "random seed: 12345\n"
    +++ codes "round 1, red ant 0: on (1, 1), dir 0, food 0, state 0: Flip 4 0 1: unmet\n"
    +++ codes "round 2, red ant 0: on (1, 1), dir 0, food 0, state 1: Flip 4 2 1: met\n"
    +++ codes "round 3, red ant 0: on (1, 1), dir 0, food 0, state 2: Drop 2: met\n"
unfolding acts_text act_line report_text report_lines seen instruction_words digits seed_text after_round after_turn turn place_in cell_in opening floor rock put_cell same_pos drawn random_at state_at
three_acts = refl

-- the rounds before the first one are left out, and their random numbers aren't; round 1 is the first of all
acts_since : (acts_text flipping 12345 start 3 None 1 ≡ acts_text flipping 12345 start 3 None 0)
    × (acts_text flipping 12345 start 3 None 2 ≡
    codes "random seed: 12345\n"
    +++ codes "round 2, red ant 0: on (1, 1), dir 0, food 0, state 1: Flip 4 2 1: met\n"
    +++ codes "round 3, red ant 0: on (1, 1), dir 0, food 0, state 2: Drop 2: met\n")
    × (acts_text flipping 12345 start 3 None 3 ≡ codes "random seed: 12345\nround 3, red ant 0: on (1, 1), dir 0, food 0, state 2: Drop 2: met\n")
    × (acts_text flipping 12345 start 3 None 4 ≡ codes "random seed: 12345\n")
unfolding acts_text act_line report_text report_lines seen instruction_words digits seed_text after_round after_turn turn place_in cell_in opening floor rock put_cell same_pos drawn random_at state_at
acts_since = (refl, refl, refl, refl)

-- ids are counted from 0: there is none of id 1, whatever the first round
unmade_acts : (acts_text flipping 12345 start 2 (Some 1) 0 ≡ codes "random seed: 12345\nno ant of id 1\n") × (acts_text flipping 12345 start 2 (Some 99) 7 ≡ codes "random seed: 12345\nno ant of id 99\n")
unfolding acts_text unmade_text digits seed_text opening
unmade_acts = (refl, refl)

-- a red ant moves, rests in round 2 and is blocked in round 3: a rest isn't reported, and the answer is the real one,
-- though both states of the Move are the same
rest_untold : acts_text hasty 12345 lane 3 None 0 ≡
    codes "random seed: 12345\n"
    +++ codes "round 1, red ant 0: on (1, 1), dir 0, food 0, state 0: Move 0 0: met\n"
    +++ codes "round 3, red ant 0: on (2, 1), dir 0, food 0, state 0: Move 0 0: unmet\n"
unfolding acts_text act_line report_text report_lines seen instruction_words digits seed_text after_round after_turn turn stepped check_at is_surrounded killed_at places_around neighbours_of adjacent_pos directions place_in cell_in opening floor rock put_cell same_pos
rest_untold = refl

abbrev trapped : Minds
trapped = contest_minds (Flip 2 0 0 ∷ []) (Move 0 0 ∷ [])

-- in the ambush black ant 1 alone can move, and kills red ant 2 before its turn; the first random number is odd
ambush_acts : acts_text trapped 12345 (world_of (opening 7 6 ambush)) 1 None 0 ≡
    codes "random seed: 12345\n"
    +++ codes "round 1, black ant 0: on (3, 2), dir 0, food 0, state 0: Move 0 0: unmet\n"
    +++ codes "round 1, black ant 1: on (1, 3), dir 0, food 0, state 0: Move 0 0: met\n"
    +++ codes "round 1, black ant 3: on (4, 3), dir 0, food 0, state 0: Move 0 0: unmet\n"
    +++ codes "round 1, red ant 4: on (1, 4), dir 0, food 0, state 0: Flip 2 0 0: unmet\n"
    +++ codes "round 1, black ant 5: on (3, 4), dir 0, food 0, state 0: Move 0 0: unmet\n"
    +++ codes "round 1, black ant 6: on (4, 4), dir 0, food 0, state 0: Move 0 0: unmet\n"
unfolding acts_text act_line report_text report_lines seen instruction_words digits seed_text after_round after_turn turn stepped check_at is_surrounded killed_at places_around neighbours_of adjacent_pos directions place_in cell_in opening floor rock put_cell same_pos drawn random_at state_at
ambush_acts = refl

-- for one ant its lines are reported, and none for a dead one
one_told : (acts_text trapped 12345 (world_of (opening 7 6 ambush)) 1 (Some 4) 0 ≡ codes "random seed: 12345\nround 1, red ant 4: on (1, 4), dir 0, food 0, state 0: Flip 2 0 0: unmet\n")
    × (acts_text trapped 12345 (world_of (opening 7 6 ambush)) 1 (Some 2) 0 ≡ codes "random seed: 12345\n")
    × (acts_text trapped 12345 (world_of (opening 7 6 ambush)) 1 (Some 7) 0 ≡ codes "random seed: 12345\nno ant of id 7\n")
unfolding acts_text act_line report_text report_lines seen instruction_words digits seed_text unmade_text after_round after_turn turn stepped check_at is_surrounded killed_at places_around neighbours_of adjacent_pos directions place_in cell_in opening floor rock put_cell same_pos drawn random_at state_at
one_told = (refl, refl, refl)

-- an ant that dies by its own Move acts in that turn, if the Move started
own_death_told : flat_map (act_lines None) (seen stepping 0 1 (start_of own_death) 2) ≡ codes "round 1, red ant 2: on (1, 2), dir 0, food 0, state 0: Move 0 0: met" ∷ []
unfolding act_line seen instruction_words digits turn stepped check_at is_surrounded killed_at places_around neighbours_of adjacent_pos directions place_in cell_in opening floor rock put_cell same_pos
own_death_told = refl

-- the report of the turn of a red ant in round 4, which is alone on a cell
abbrev lone_acts : Instr → World → List (List ℕ)
lone_acts instruction w = flat_map (act_lines None) (seen (contest_minds (instruction ∷ []) (Drop 0 ∷ [])) 12345 4 (start_of w) 0)

-- a PickUp takes food, or does nothing: the ant is laden, or there is none; a Drop is met in any case
food_acts : (lone_acts (PickUp 0 0) (alone_on Red 2 false) ≡ codes "round 4, red ant 0: on (1, 1), dir 0, food 0, state 0: PickUp 0 0: met" ∷ [])
    × (lone_acts (PickUp 0 0) (alone_on Red 2 true) ≡ codes "round 4, red ant 0: on (1, 1), dir 0, food 1, state 0: PickUp 0 0: unmet" ∷ [])
    × (lone_acts (PickUp 0 0) (alone_on Red 0 false) ≡ codes "round 4, red ant 0: on (1, 1), dir 0, food 0, state 0: PickUp 0 0: unmet" ∷ [])
    × (lone_acts (Drop 0) (alone_on Red 2 true) ≡ codes "round 4, red ant 0: on (1, 1), dir 0, food 1, state 0: Drop 0: met" ∷ [])
    × (lone_acts (Drop 0) (alone_on Red 2 false) ≡ codes "round 4, red ant 0: on (1, 1), dir 0, food 0, state 0: Drop 0: met" ∷ [])
unfolding act_line seen instruction_words digits place_in cell_in opening floor rock put_cell same_pos
food_acts = (refl, refl, refl, refl, refl)

-- Mark, Unmark and Turn are met; a bound of 1 leaves 0 of every number, and the first one is odd; a blocked Move and a
-- condition that doesn't hold are unmet
other_acts : (lone_acts (Mark 2 0) (alone_on Red 0 false) ≡ codes "round 4, red ant 0: on (1, 1), dir 0, food 0, state 0: Mark 2 0: met" ∷ [])
    × (lone_acts (Unmark 5 0) (alone_on Red 0 false) ≡ codes "round 4, red ant 0: on (1, 1), dir 0, food 0, state 0: Unmark 5 0: met" ∷ [])
    × (lone_acts (Turn Left 0) (alone_on Red 0 false) ≡ codes "round 4, red ant 0: on (1, 1), dir 0, food 0, state 0: Turn Left 0: met" ∷ [])
    × (lone_acts (Flip 1 0 0) (alone_on Red 0 false) ≡ codes "round 4, red ant 0: on (1, 1), dir 0, food 0, state 0: Flip 1 0 0: met" ∷ [])
    × (lone_acts (Flip 2 0 0) (alone_on Red 0 false) ≡ codes "round 4, red ant 0: on (1, 1), dir 0, food 0, state 0: Flip 2 0 0: unmet" ∷ [])
    × (lone_acts (Move 0 0) (alone_on Red 0 false) ≡ codes "round 4, red ant 0: on (1, 1), dir 0, food 0, state 0: Move 0 0: unmet" ∷ [])
    × (lone_acts (Sense Here 0 0 Home) (alone_on Red 0 false) ≡ codes "round 4, red ant 0: on (1, 1), dir 0, food 0, state 0: Sense Here 0 0 Home: met" ∷ [])
    × (lone_acts (Sense Here 0 0 Foe) (alone_on Red 0 false) ≡ codes "round 4, red ant 0: on (1, 1), dir 0, food 0, state 0: Sense Here 0 0 Foe: unmet" ∷ [])
unfolding act_line seen instruction_words digits meets sensed_pos adjacent_pos place_in cell_in opening floor rock put_cell same_pos drawn random_at state_at
other_acts = (refl, refl, refl, refl, refl, refl, refl, refl)
