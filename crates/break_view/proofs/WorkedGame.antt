-- The first stop of a game, worked out.
use Rattle.std.proofs.Common.{◌≡◌, ℕ, List, [], ◌∷◌, Some, None, inl, inr, refl, sym, subst, arith}
use Rattle.hex_geometry.specs.Direction.{directions}
use Rattle.hex_geometry.specs.Neighbourhood.{adjacent_pos, neighbours_of}
use Rattle.hex_geometry.specs.Position.{same_pos}
use Rattle.cell_world.specs.declared.ant.Colour.TheVariants.{Red, Black}
use Rattle.cell_world.specs.declared.kind.Kind.{Kind}
use Rattle.cell_world.specs.declared.kind.Kind.TheVariants.{Rock, Clear, RedHill, BlackHill}
use Rattle.cell_world.specs.Cell.{rock}
use Rattle.cell_world.specs.Grid.{cell_in, world_of}
use Rattle.cell_world.specs.Opening.{floor, opening}
use Rattle.cell_world.specs.Score.{hill_food_of}
use Rattle.cell_world.specs.World.{World, place_in, put_cell}
use Rattle.brain_read.specs.declared.instr.Instr.TheVariants.{Flip, Move}
use Rattle.ant_random.specs.Stream.{drawn, random_at, state_at}
use Rattle.ant_turn.specs.Kills.{check_at, is_surrounded, killed_at, places_around}
use Rattle.ant_turn.specs.Minds.{Minds, contest_minds}
use Rattle.ant_turn.specs.Rounds.{after_turn}
use Rattle.ant_turn.specs.Turn.{stepped, turn}
use Rattle.break_view.specs.declared.breaks.Break.TheVariants.{Stand, Killed, Score}
use Rattle.break_view.specs.Stops.{IsTurn, IsEarlier, IsFirstStop, met_at, world_in_round}

-- seven by six cells, without ids the ants are
--      . . . . .
--     . . - . .
--      - . + - #
--     + . - - .
abbrev pub kinds : List Kind
kinds =
    Rock ∷ Rock ∷ Rock ∷ Rock ∷ Rock ∷ Rock ∷ Rock
    ∷ Rock ∷ Clear ∷ Clear ∷ Clear ∷ Clear ∷ Clear ∷ Rock
    ∷ Rock ∷ Clear ∷ Clear ∷ BlackHill ∷ Clear ∷ Clear ∷ Rock
    ∷ Rock ∷ BlackHill ∷ Clear ∷ RedHill ∷ BlackHill ∷ Rock ∷ Rock
    ∷ Rock ∷ RedHill ∷ Clear ∷ BlackHill ∷ BlackHill ∷ Clear ∷ Rock
    ∷ Rock ∷ Rock ∷ Rock ∷ Rock ∷ Rock ∷ Rock ∷ Rock ∷ []

abbrev pub start : World
start = world_of (opening 7 6 kinds)

-- red ants flip for nothing, black ones go straight on
abbrev pub minds : Minds
minds = contest_minds (Flip 2 0 0 ∷ []) (Move 0 0 ∷ [])

-- the red ant of id 2 dies after the turn of id 1, which steps beside it, and not before
killed_then : (met_at minds 12345 start (Killed 2 ∷ []) 1 1 ≡ Some 1) × (met_at minds 12345 start (Killed 2 ∷ []) 1 0 ≡ None)
unfolding world_in_round after_turn turn place_in opening cell_in rock floor put_cell same_pos adjacent_pos neighbours_of directions stepped is_surrounded check_at killed_at places_around drawn random_at state_at
killed_then = (refl, refl)

-- so the game stops there first
pub killed_first : IsFirstStop minds 12345 5 0 start (Killed 2 ∷ []) (record { round = 1; id = 1; which = 1 })
unfolding opening
killed_first = record {
  turn = record { begun = omega arith; reached = omega arith; played = omega arith; made = omega arith };
  met = killed_then.0;
  none_before = λ r t turn before. before_it r t turn before;
}
  where
    at_first : (r t : ℕ) → r ≡ 1 → t ≡ 0 → met_at minds 12345 start (Killed 2 ∷ []) r t ≡ None
    at_first r t round id = subst (λ (k : ℕ). met_at minds 12345 start (Killed 2 ∷ []) k t ≡ None) (sym round) (subst (λ (k : ℕ). met_at minds 12345 start (Killed 2 ∷ []) 1 k ≡ None) (sym id) killed_then.1)

    before_it : (r t : ℕ) → IsTurn start 5 0 r t → IsEarlier r t 1 1 → met_at minds 12345 start (Killed 2 ∷ []) r t ≡ None
    before_it r t turn (inl before) = absurd (let begun = turn.begun in omega (arith, begun, before))
    before_it r t turn (inr before) = at_first r t before.0 (let below = before.1 in omega (arith, below))

-- both breaks hold first after that turn, and the first of them is named
two_hold : (met_at minds 12345 start (Score Red 3 ∷ Stand Black 2 3 ∷ []) 1 1 ≡ Some 1) × (met_at minds 12345 start (Stand Black 2 3 ∷ []) 1 1 ≡ Some 1) × (met_at minds 12345 start (Score Red 3 ∷ Stand Black 2 3 ∷ []) 1 0 ≡ None)
unfolding world_in_round after_turn turn place_in opening cell_in rock floor put_cell same_pos adjacent_pos neighbours_of directions stepped is_surrounded check_at killed_at places_around drawn random_at state_at hill_food_of
two_hold = (refl, refl, refl)

-- the turn of a dead ant is a turn: after the one of id 2, which died before it, there is a stop in round 2
dead_turns : IsTurn start 5 0 2 2 × (met_at minds 12345 start (Killed 2 ∷ []) 1 2 ≡ Some 1)
unfolding opening world_in_round after_turn turn place_in cell_in rock floor put_cell same_pos adjacent_pos neighbours_of directions stepped is_surrounded check_at killed_at places_around drawn random_at state_at
dead_turns = (record { begun = omega arith; reached = omega arith; played = omega arith; made = omega arith }, refl)
