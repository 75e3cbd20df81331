-- The counts of games, worked out.
use Rattle.std.proofs.Common.{◌≡◌, [], ◌∷◌, None, refl, arith}
use Rattle.brain_read.specs.declared.instr.Instr.TheVariants.{Drop, Move, Turn}
use Rattle.hex_geometry.specs.declared.direction.Side.TheVariants.{Left}
use Rattle.cell_world.specs.declared.kind.Kind.TheVariants.{Rock, Clear, RedHill}
use Rattle.cell_world.specs.Cell.{rock}
use Rattle.cell_world.specs.Grid.{cell_in, world_of}
use Rattle.cell_world.specs.Opening.{floor, opening}
use Rattle.cell_world.specs.World.{World, place_in, put_cell}
use Rattle.hex_geometry.specs.Direction.{directions, turned_by}
use Rattle.hex_geometry.specs.Neighbourhood.{adjacent_pos, neighbours_of}
use Rattle.hex_geometry.specs.Position.{same_pos}
use Rattle.ant_random.specs.Stream.{drawn, random_at, state_at}
use Rattle.ant_turn.specs.Kills.{check_at, is_surrounded, killed_at, places_around}
use Rattle.ant_turn.specs.Minds.{Minds, contest_minds}
use Rattle.ant_turn.specs.Rounds.{after_round, after_turn, start_of}
use Rattle.ant_turn.specs.Turn.{stepped, turn}
use Rattle.spec_record.specs.Claims.{merged}
use Rattle.spec_record.specs.Guess.{flips, guess}
use Rattle.spec_record.specs.Look.{look_of}
use Rattle.spec_record.specs.Reads.{reads}
use Rattle.spec_record.specs.Writes.{writes}
use Rattle.spec_record.proofs.LooksWorked.{field, minds}
use Rattle.round_book.specs.Counts.{counts_of, is_taken}
use Rattle.round_book.specs.Window.{Window, guess_for, look_for, moment_before}
use Rattle.match_run.specs.Counts.{round_totals, totals_of, window_at, window_totals, windows_of}
use Rattle.match_run.specs.Game.{RisesUpTo, counted_on}

-- a crew's count of turns stays at the last value of a u64
counts_end : (counted_on 3 4 ≡ 7) × (counted_on 18446744073709551614 1 ≡ 18446744073709551615) × (counted_on 18446744073709551614 7 ≡ 18446744073709551615) × (counted_on 18446744073709551615 1 ≡ 18446744073709551615)
counts_end = (refl, refl, refl, refl)

-- a count has risen by seven at most
seven_more : RisesUpTo 3 3 7 × RisesUpTo 3 10 7 × (RisesUpTo 3 11 7 → ⊥) × (RisesUpTo 3 2 7 → ⊥)
seven_more = ((omega arith, omega arith), (omega arith, omega arith), (λ rises. let most = rises.1 in omega (arith, most)), (λ rises. let least = rises.0 in omega (arith, least)))

-- seven turns are one window of seven, and three windows of three
cut : (windows_of 7 7 ≡ 1) × (windows_of 3 7 ≡ 3) × (windows_of 1 7 ≡ 7) × (windows_of 16384 7 ≡ 1) × (windows_of 3 6 ≡ 2) × (windows_of 3 0 ≡ 0)
cut = (refl, refl, refl, refl, refl, refl)

-- a round of seven turns: red ants flip, a black one moves and kills the red ant of id 2. In one window two turns are
-- executed again; in windows of three, that of the killed ant alone; in windows of one turn, none
one_round :
    (totals_of minds 12345 7 (start_of field) 1 ≡ record { turns = 7; taken = 5; redone = 2 })
    × (totals_of minds 12345 3 (start_of field) 1 ≡ record { turns = 7; taken = 6; redone = 1 })
    × (totals_of minds 12345 1 (start_of field) 1 ≡ record { turns = 7; taken = 7; redone = 0 })
unfolding round_totals window_totals window_at counts_of is_taken look_for look_of guess_for moment_before after_round after_turn turn reads writes merged stepped is_surrounded check_at killed_at places_around put_cell same_pos neighbours_of adjacent_pos directions guess flips opening cell_in rock floor place_in drawn random_at state_at
one_round = (refl, refl, refl)

-- two rounds in windows of three: in the second one the killed ant still has its turn, and no ant moves
two_rounds : totals_of minds 12345 3 (start_of field) 2 ≡ record { turns = 14; taken = 13; redone = 1 }
unfolding round_totals window_totals window_at counts_of is_taken look_for look_of guess_for moment_before after_round after_turn turn reads writes merged stepped is_surrounded check_at killed_at places_around put_cell same_pos neighbours_of adjacent_pos directions guess flips opening cell_in rock floor place_in drawn random_at state_at
two_rounds = refl

-- the second window of five turns begins where the first one leads: the ant of id 2 is dead, and that of id 4 has drawn
-- the first number
abbrev later : Window
later = window_at minds 12345 5 (start_of field) 0 1

second_window : (later.from ≡ 5) × (later.to ≡ 7) × (later.seed ≡ 12345) × (later.place ≡ 1) × ((later.base.cells (record { x = 3; y = 3 })).ant ≡ None)
unfolding window_at after_turn turn stepped is_surrounded check_at killed_at places_around put_cell same_pos neighbours_of adjacent_pos directions opening cell_in rock floor place_in drawn random_at state_at
second_window = (refl, refl, refl, refl, refl)

-- four red ants turn, and then move up to the right
--      . . . .
--     . + . +
--      + + . .
abbrev four : World
four = world_of (opening 6 5 (
    Rock ∷ Rock ∷ Rock ∷ Rock ∷ Rock ∷ Rock
    ∷ Rock ∷ Clear ∷ Clear ∷ Clear ∷ Clear ∷ Rock
    ∷ Rock ∷ Clear ∷ RedHill ∷ Clear ∷ RedHill ∷ Rock
    ∷ Rock ∷ RedHill ∷ RedHill ∷ Clear ∷ Clear ∷ Rock
    ∷ Rock ∷ Rock ∷ Rock ∷ Rock ∷ Rock ∷ Rock ∷ []))

abbrev moving : Minds
moving = contest_minds (Turn Left 1 ∷ Move 1 1 ∷ []) (Drop 0 ∷ [])

-- in windows of two the ant of id 2 comes onto the cell that the ant of id 0 left in the window before, and undoes the
-- look at the turn of id 3 alone; in one window its own look is undone besides, by which it was blocked
later_windows :
    (totals_of moving 12345 2 (start_of four) 2 ≡ record { turns = 8; taken = 7; redone = 1 })
    × (totals_of moving 12345 4 (start_of four) 2 ≡ record { turns = 8; taken = 6; redone = 2 })
unfolding round_totals window_totals window_at counts_of is_taken look_for look_of guess_for moment_before after_round after_turn turn reads writes merged stepped is_surrounded check_at killed_at places_around put_cell same_pos neighbours_of adjacent_pos directions turned_by guess flips opening cell_in rock floor place_in drawn random_at state_at
later_windows = (refl, refl)
