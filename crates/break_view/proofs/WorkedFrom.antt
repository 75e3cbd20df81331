-- The first stop in the rounds from a given one on, worked out: of each kind of break before, at and after the round in
-- which it comes to hold.
use Rattle.std.proofs.Common.{◌≡◌, ℕ, true, [], ◌∷◌, Option, Some, None, inl, inr, codes, refl, arith}
use Rattle.std.specs.Fmt.{digits}
use Rattle.hex_geometry.specs.Direction.{directions}
use Rattle.hex_geometry.specs.Neighbourhood.{adjacent_pos, neighbours_of}
use Rattle.hex_geometry.specs.Position.{same_pos}
use Rattle.cell_world.specs.declared.ant.Colour.TheVariants.{Black}
use Rattle.cell_world.specs.declared.kind.Kind.TheVariants.{Rock, Clear, RedHill, BlackHill}
use Rattle.cell_world.specs.Cell.{rock}
use Rattle.cell_world.specs.Grid.{cell_in, world_of}
use Rattle.cell_world.specs.Opening.{floor, new_ant, opening}
use Rattle.cell_world.specs.Score.{hill_food_of}
use Rattle.cell_world.specs.World.{World, place_in, put, put_cell}
use Rattle.dump_print.specs.Texts.{seed_text}
use Rattle.brain_read.specs.declared.instr.Instr.TheVariants.{Drop, Flip, Move, PickUp, Unmark}
use Rattle.ant_random.specs.Stream.{drawn, random_at, state_at}
use Rattle.ant_turn.specs.Kills.{check_at, is_surrounded, killed_at, places_around}
use Rattle.ant_turn.specs.Minds.{Minds, contest_minds}
use Rattle.ant_turn.specs.Rounds.{after_round, after_turn}
use Rattle.ant_turn.specs.Turn.{stepped, turn}
use Rattle.match_run.specs.Run.{world_after}
use Rattle.break_view.specs.declared.breaks.Break.{Break}
use Rattle.break_view.specs.declared.breaks.Break.TheVariants.{Round, State, Stand, Food, Killed, Score}
use Rattle.break_view.specs.declared.stop.Stop.{Stop}
use Rattle.break_view.specs.Stops.{EndsAt, IsEarlier, IsFirstStop, IsTurn, first_stop, met_at, world_at, world_in_round}
use Rattle.break_view.specs.Texts.{IsViewText, no_stop_line, view_of, view_text}
use Rattle.break_view.proofs.WorkedGame.{minds, start}

-- a stop after this turn, of the only break
abbrev pub once : ℕ → ℕ → Option Stop
once round id = Some (record { round = round; id = id; which = 1 })

-- a red ant of id 0, and a black one of id 1, which is laden and stands on two particles of its hill
abbrev pub stocked : World
stocked = put (world_of (opening 4 3 (Rock ∷ Rock ∷ Rock ∷ Rock ∷ Rock ∷ RedHill ∷ BlackHill ∷ Rock ∷ Rock ∷ Rock ∷ Rock ∷ Rock ∷ []))) (record { x = 2; y = 1 })
    (record floor { hill = Some Black; food = 2; ant = Some (record (new_ant Black 1) { laden = true }) })

-- the black ant drops its particle in round 2, and picks one up in round 4; it is in states 1, 2, 3 and 3 after its
-- turns
abbrev pub handling : Minds
handling = contest_minds (Drop 0 ∷ []) (Unmark 0 1 ∷ Drop 2 ∷ Unmark 0 3 ∷ PickUp 3 3 ∷ [])

-- the first stop of five rounds, from this round on
abbrev pub stop_of : Break → ℕ → Option Stop
stop_of item from = first_stop handling 7 stocked (item ∷ []) from 5

-- three particles lie there from its turn in round 2 until that in round 4: later the first turn of the round stops
food_from : (stop_of (Food 2 1 3) 0 ≡ once 2 1) × (stop_of (Food 2 1 3) 1 ≡ once 2 1) × (stop_of (Food 2 1 3) 2 ≡ once 2 1)
    × (stop_of (Food 2 1 3) 3 ≡ once 3 0) × (stop_of (Food 2 1 3) 4 ≡ once 4 0) × (stop_of (Food 2 1 3) 5 ≡ None)
unfolding world_in_round after_round after_turn turn place_in cell_in opening floor rock put_cell same_pos
food_from = (refl, refl, refl, refl, refl, refl)

-- so long has the hill that food
score_from : (stop_of (Score Black 3) 0 ≡ once 2 1) × (stop_of (Score Black 3) 1 ≡ once 2 1) × (stop_of (Score Black 3) 2 ≡ once 2 1)
    × (stop_of (Score Black 3) 3 ≡ once 3 0) × (stop_of (Score Black 3) 4 ≡ once 4 0) × (stop_of (Score Black 3) 5 ≡ None)
unfolding world_in_round after_round after_turn turn place_in cell_in opening floor rock put_cell same_pos hill_food_of
score_from = (refl, refl, refl, refl, refl, refl)

-- a state is that of the ant whose turn it was
state_from : (stop_of (State Black 2) 0 ≡ once 2 1) × (stop_of (State Black 2) 2 ≡ once 2 1) × (stop_of (State Black 2) 3 ≡ None)
    × (stop_of (State Black 3) 2 ≡ once 3 1) × (stop_of (State Black 3) 3 ≡ once 3 1) × (stop_of (State Black 3) 4 ≡ once 4 1)
unfolding world_in_round after_round after_turn turn place_in cell_in opening floor rock put_cell same_pos
state_from = (refl, refl, refl, refl, refl, refl)

-- a round has come with its first turn, and doesn't come again
round_from : (stop_of (Round 2) 0 ≡ once 2 0) × (stop_of (Round 2) 1 ≡ once 2 0) × (stop_of (Round 2) 2 ≡ once 2 0) × (stop_of (Round 2) 3 ≡ None)
unfolding opening floor put_cell
round_from = (refl, refl, refl, refl)

-- from a round on that isn't played there is no stop; from the last one on there is
beyond_from : (stop_of (Stand Black 2 1) 4 ≡ once 4 0) × (stop_of (Stand Black 2 1) 5 ≡ once 5 0) × (stop_of (Stand Black 2 1) 6 ≡ None) × (stop_of (Stand Black 2 1) 1000000 ≡ None)
unfolding world_in_round after_round after_turn turn place_in cell_in opening floor rock put_cell same_pos
beyond_from = (refl, refl, refl, refl)

-- the number of rounds that is printed is that of the game
none_told : view_of handling 7 5 9 stocked (Round 2 ∷ []) ≡ codes "random seed: 7\nno stop in 5 rounds\n"
unfolding digits seed_text no_stop_line view_text view_of
none_told = refl

-- the black ant steps to the right in round 2, and then rests
abbrev pub corridor : World
corridor = world_of (opening 5 3 (Rock ∷ Rock ∷ Rock ∷ Rock ∷ Rock ∷ Rock ∷ RedHill ∷ BlackHill ∷ Clear ∷ Rock ∷ Rock ∷ Rock ∷ Rock ∷ Rock ∷ Rock ∷ []))

abbrev pub stepping : Minds
stepping = contest_minds (Flip 2 0 0 ∷ []) (Unmark 0 1 ∷ Move 1 1 ∷ [])

abbrev pub stand_of : ℕ → ℕ → Option Stop
stand_of x from = first_stop stepping 7 corridor (Stand Black x 1 ∷ []) from 3

-- it stands on the one cell before that turn, and on the other from that turn on
stand_from : (stand_of 3 0 ≡ once 2 1) × (stand_of 3 1 ≡ once 2 1) × (stand_of 3 2 ≡ once 2 1) × (stand_of 3 3 ≡ once 3 0)
    × (stand_of 2 1 ≡ once 1 0) × (stand_of 2 2 ≡ once 2 0) × (stand_of 2 3 ≡ None)
unfolding world_in_round after_round after_turn turn place_in opening cell_in rock floor put_cell same_pos adjacent_pos neighbours_of directions stepped is_surrounded check_at killed_at places_around drawn random_at state_at
stand_from = (refl, refl, refl, refl, refl, refl, refl)

-- the game of the ambush, in which the red ant of id 2 is killed in the turn of id 1 in round 2
abbrev pub killed_of : ℕ → Option Stop
killed_of from = first_stop stepping 12345 start (Killed 2 ∷ []) from 3

-- it is dead then, and in all rounds after it
killed_from : (killed_of 0 ≡ once 2 1) × (killed_of 1 ≡ once 2 1) × (killed_of 2 ≡ once 2 1) × (killed_of 3 ≡ once 3 0) × (killed_of 4 ≡ None)
unfolding world_in_round after_round after_turn turn place_in opening cell_in rock floor put_cell same_pos adjacent_pos neighbours_of directions stepped is_surrounded check_at killed_at places_around drawn random_at state_at
killed_from = (refl, refl, refl, refl, refl)

-- the game of the ambush in which it is dead after round 1: from round 2 on the first turn of that round stops
abbrev pub again : Stop
again = record { round = 2; id = 0; which = 1 }

still_dead : met_at minds 12345 start (Killed 2 ∷ []) 2 0 ≡ Some 1
unfolding world_in_round after_round after_turn turn place_in opening cell_in rock floor put_cell same_pos adjacent_pos neighbours_of directions stepped is_surrounded check_at killed_at places_around drawn random_at state_at
still_dead = refl

pub held_before : IsFirstStop minds 12345 5 2 start (Killed 2 ∷ []) again
unfolding opening
held_before = record {
  turn = record { begun = omega arith; reached = omega arith; played = omega arith; made = omega arith };
  met = still_dead;
  none_before = λ r t turn before. before_it r t turn before;
}
  where
    before_it : (r t : ℕ) → IsTurn start 5 2 r t → IsEarlier r t 2 0 → met_at minds 12345 start (Killed 2 ∷ []) r t ≡ None
    before_it r t turn (inl before) = absurd (let reached = turn.reached in omega (arith, reached, before))
    before_it r t turn (inr before) = absurd (let below = before.1 in omega (arith, below))

pub held_view : IsViewText minds 12345 5 2 start (Killed 2 ∷ []) (view_text (world_at minds 12345 start 2 0) 12345 5 (Some again))
held_view = record { stop = Some again; end = world_at minds 12345 start 2 0; ends = (held_before, refl); view = refl }

-- from round 6 on the five rounds have no stop
pub none_from_six : EndsAt minds 12345 5 6 start (Killed 2 ∷ []) None (world_after minds 12345 start 5)
none_from_six = (λ r t turn. absurd (let reached = turn.reached in let played = turn.played in omega (arith, reached, played)), refl)
