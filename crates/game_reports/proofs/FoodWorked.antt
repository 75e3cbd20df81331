-- Events with food, worked out.
use Rattle.std.proofs.Common.{◌≡◌, ℕ, Bool, true, false, List, [], ◌∷◌, Option, Some, None, codes, refl}
use Rattle.std.specs.List.{flat_map}
use Rattle.std.specs.Fmt.{digits}
use Rattle.hex_geometry.proofs.Places.{at}
use Rattle.hex_geometry.specs.declared.direction.Dir.TheVariants.{SouthEast}
use Rattle.hex_geometry.specs.declared.direction.Side.TheVariants.{Left}
use Rattle.hex_geometry.specs.Direction.{directions, turned_by}
use Rattle.hex_geometry.specs.Neighbourhood.{adjacent_pos, neighbours_of}
use Rattle.hex_geometry.specs.Position.{same_pos}
use Rattle.ant_base.specs.Layout.{◌+++◌}
use Rattle.ant_turn.specs.Kills.{check_at, is_surrounded, killed_at, places_around}
use Rattle.ant_turn.specs.Minds.{Minds, contest_minds}
use Rattle.ant_turn.specs.Rounds.{after_round, after_turn, start_of}
use Rattle.ant_turn.specs.Sheet.{contest}
use Rattle.ant_turn.specs.Turn.{stepped, turn}
use Rattle.brain_read.specs.declared.instr.Instr.{Instr}
use Rattle.brain_read.specs.declared.instr.Instr.TheVariants.{Drop, Move, PickUp, Turn}
use Rattle.cell_world.specs.declared.ant.Colour.{Colour}
use Rattle.cell_world.specs.declared.ant.Colour.TheVariants.{Black, Red}
use Rattle.cell_world.specs.declared.kind.Kind.{Kind}
use Rattle.cell_world.specs.declared.kind.Kind.TheVariants.{Rock, RedHill, Food}
use Rattle.cell_world.specs.Cell.{rock}
use Rattle.cell_world.specs.Grid.{cell_in, world_of}
use Rattle.cell_world.specs.Opening.{floor, opening}
use Rattle.cell_world.specs.Score.{hill_food_of, score_of}
use Rattle.cell_world.specs.World.{World, place_in, put, put_cell}
use Rattle.cell_world.proofs.OpeningWorked.{one_hill}
use Rattle.dump_print.specs.Texts.{seed_text}
use Rattle.match_run.specs.Seen.{ahead_of, ant_in, death_place, seen}
use Rattle.game_reports.specs.Events.{event_lines}
use Rattle.game_reports.specs.Report.{report_lines, report_text}
use Rattle.game_reports.proofs.EventsWorked.{one_laden, stepping}

-- the one clear cell of a world, of this hill and with this much food, on which a black ant is in state 1 that is laden
-- or not
abbrev on_cell : Option Colour → ℕ → Bool → World
on_cell hill food laden =
    put (world_of (opening 3 3 one_hill)) (at 1 1) (record floor { hill = hill; food = food; ant = Some (record { id = 0; colour = Black; state = 1; resting = 0; facing = SouthEast; laden = laden }) })

-- the report of its turn in round 4, with food or without
abbrev food_told : Bool → Instr → World → List (List ℕ)
food_told food instruction w = flat_map (event_lines food) (seen (contest_minds (Drop 0 ∷ []) (Drop 0 ∷ instruction ∷ [])) 12345 4 (start_of w) 0)

-- a heap of food: a particle is taken, or put down, and no score changes
heap_told : (food_told true (PickUp 0 0) (on_cell None 2 false) ≡ codes "round 4, black ant 0: state 1 takes food on (1, 1)" ∷ [])
    × (food_told true (Drop 0) (on_cell None 2 true) ≡ codes "round 4, black ant 0: state 1 drops food on (1, 1)" ∷ [])
unfolding seen digits turn place_in cell_in opening floor rock put_cell same_pos score_of hill_food_of
heap_told = (refl, refl)

-- a hill of either side: the line is before that of the score
hill_told : (food_told true (Drop 0) (on_cell (Some Black) 0 true) ≡ codes "round 4, black ant 0: state 1 drops food on (1, 1), black hill" ∷ codes "round 4, black ant 0: score: red 0 black 1" ∷ [])
    × (food_told true (Drop 0) (on_cell (Some Red) 2 true) ≡ codes "round 4, black ant 0: state 1 drops food on (1, 1), red hill" ∷ codes "round 4, black ant 0: score: red 3 black 0" ∷ [])
    × (food_told true (PickUp 0 0) (on_cell (Some Red) 2 false) ≡ codes "round 4, black ant 0: state 1 takes food on (1, 1), red hill" ∷ codes "round 4, black ant 0: score: red 1 black 0" ∷ [])
    × (food_told true (PickUp 0 1) (on_cell (Some Black) 1 false) ≡ codes "round 4, black ant 0: state 1 takes food on (1, 1), black hill" ∷ codes "round 4, black ant 0: score: red 0 black 0" ∷ [])
unfolding seen digits turn place_in cell_in opening floor rock put_cell same_pos score_of hill_food_of
hill_told = (refl, refl, refl, refl)

-- what does nothing isn't told: a Drop of an ant that carries nothing, a PickUp of a laden one or if no food lies, a
-- Move
idle_untold : (food_told true (Drop 0) (on_cell (Some Red) 2 false) ≡ [])
    × (food_told true (PickUp 0 0) (on_cell (Some Red) 2 true) ≡ [])
    × (food_told true (PickUp 0 0) (on_cell (Some Red) 0 false) ≡ [])
    × (food_told true (Move 0 0) (on_cell (Some Red) 2 true) ≡ [])
unfolding seen digits turn adjacent_pos place_in cell_in opening floor rock put_cell same_pos score_of hill_food_of
idle_untold = (refl, refl, refl, refl)

-- without food only the score is reported
food_untold : (food_told false (PickUp 0 0) (on_cell None 2 false) ≡ [])
    × (food_told false (Drop 0) (on_cell (Some Red) 2 true) ≡ codes "round 4, black ant 0: score: red 3 black 0" ∷ [])
unfolding seen digits turn place_in cell_in opening floor rock put_cell same_pos score_of hill_food_of
food_untold = (refl, refl)

-- the food that killed ants leave, and the particle that one of them carried, is no drop
death_no_drop : flat_map (event_lines true) (seen stepping 0 7 (start_of one_laden) 6) ≡
    codes "round 7, red ant 6: black ant 7 dies on (4, 3)"
    ∷ codes "round 7, red ant 6: black ant 3 dies on (3, 2)"
    ∷ codes "round 7, red ant 6: score: red 0 black 7"
    ∷ []
unfolding seen digits death_place ant_in ahead_of turn stepped check_at is_surrounded killed_at places_around neighbours_of adjacent_pos directions place_in cell_in opening floor rock put_cell same_pos score_of hill_food_of
death_no_drop = refl

-- a red ant that doesn't rest fetches the particle beside its hill, drops it there in round 7, and takes it away again
-- in round 8
abbrev pub lane : List Kind
lane = Rock ∷ Rock ∷ Rock ∷ Rock ∷ Rock ∷ RedHill ∷ Food 1 ∷ Rock ∷ Rock ∷ Rock ∷ Rock ∷ Rock ∷ []

abbrev pub fetching : Minds
fetching = record {
  red = Move 1 1 ∷ PickUp 2 2 ∷ Turn Left 3 ∷ Turn Left 4 ∷ Turn Left 5 ∷ Move 6 6 ∷ Drop 7 ∷ PickUp 8 8 ∷ Drop 8 ∷ [];
  black = Drop 0 ∷ [];
  sheet = record contest { rest = 0 };
}

-- its events from a round on
abbrev fetched : Bool → ℕ → ℕ → List ℕ
fetched food rounds from = report_text (event_lines food) from fetching 12345 (world_of (opening 4 3 lane)) rounds

all_fetched : fetched true 8 0 ≡
    codes "random seed: 12345\n"
    +++ codes "round 2, red ant 0: state 1 takes food on (2, 1)\n"
    +++ codes "round 7, red ant 0: state 6 drops food on (1, 1), red hill\n"
    +++ codes "round 7, red ant 0: score: red 1 black 0\n"
    +++ codes "round 8, red ant 0: state 7 takes food on (1, 1), red hill\n"
    +++ codes "round 8, red ant 0: score: red 0 black 0\n"
unfolding report_text report_lines seen digits seed_text after_round after_turn turn stepped check_at is_surrounded killed_at places_around neighbours_of adjacent_pos directions turned_by place_in cell_in opening floor rock put_cell same_pos score_of hill_food_of
all_fetched = refl

-- the lines of rounds before the first one are left out, and their changes aren't reported; scores are those of the
-- whole game
fetched_since : (fetched true 8 8 ≡
    codes "random seed: 12345\n"
    +++ codes "round 8, red ant 0: state 7 takes food on (1, 1), red hill\n"
    +++ codes "round 8, red ant 0: score: red 0 black 0\n")
    × (fetched false 8 7 ≡ codes "random seed: 12345\nround 7, red ant 0: score: red 1 black 0\nround 8, red ant 0: score: red 0 black 0\n")
    × (fetched true 8 9 ≡ codes "random seed: 12345\n")
unfolding report_text report_lines seen digits seed_text after_round after_turn turn stepped check_at is_surrounded killed_at places_around neighbours_of adjacent_pos directions turned_by place_in cell_in opening floor rock put_cell same_pos score_of hill_food_of
fetched_since = (refl, refl, refl)
