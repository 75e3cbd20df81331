-- Looks and guesses after a round, worked out.
use Rattle.std.proofs.Common.{◌≡◌, true, false, List, [], ◌∷◌, refl}
use Rattle.hex_geometry.specs.Direction.{directions}
use Rattle.hex_geometry.specs.Neighbourhood.{adjacent_pos, neighbours_of}
use Rattle.hex_geometry.specs.Position.{same_pos}
use Rattle.cell_world.specs.declared.kind.Kind.{Kind}
use Rattle.cell_world.specs.declared.kind.Kind.TheVariants.{Rock, Clear, RedHill}
use Rattle.cell_world.specs.Cell.{rock}
use Rattle.cell_world.specs.Grid.{cell_in, world_of}
use Rattle.cell_world.specs.Opening.{floor, opening}
use Rattle.cell_world.specs.World.{World, place_in, put_cell}
use Rattle.brain_read.specs.declared.instr.Instr.TheVariants.{Flip, Move}
use Rattle.ant_random.specs.Stream.{drawn, random_at, state_at}
use Rattle.ant_turn.specs.Kills.{check_at, is_surrounded, killed_at, places_around}
use Rattle.ant_turn.specs.Minds.{Minds, contest_minds}
use Rattle.ant_turn.specs.Rounds.{after_round, after_turn, start_of}
use Rattle.ant_turn.specs.Turn.{stepped, turn}
use Rattle.spec_record.specs.Claims.{claim, merged}
use Rattle.spec_record.specs.Guess.{flips, guess, guesses_of}
use Rattle.spec_record.specs.Reads.{reads}
use Rattle.spec_record.specs.Writes.{writes}
use Rattle.spec_record.proofs.LooksWorked.{field, minds}

-- when the red ant of id 2 was killed, the guesses rise at id 4 alone
guesses-later : guesses_of minds (after_round minds 12345 (start_of field)).world 1 0 0 7 ≡ 1 ∷ 1 ∷ 1 ∷ 1 ∷ 1 ∷ 2 ∷ 2 ∷ []
unfolding after_round after_turn turn stepped is_surrounded check_at killed_at places_around put_cell same_pos neighbours_of adjacent_pos directions guess flips opening cell_in rock floor place_in drawn random_at state_at
guesses-later = refl

-- a red ant, an open cell and a red ant
abbrev kinds : List Kind
kinds =
    Rock ∷ Rock ∷ Rock ∷ Rock ∷ Rock
    ∷ Rock ∷ RedHill ∷ Clear ∷ RedHill ∷ Rock
    ∷ Rock ∷ Rock ∷ Rock ∷ Rock ∷ Rock ∷ []

-- a Move, and then a Flip
abbrev movers : Minds
movers = contest_minds (Move 1 0 ∷ Flip 2 0 0 ∷ []) (Move 1 0 ∷ Flip 2 0 0 ∷ [])

abbrev later : World
later = (after_round movers 12345 (start_of (world_of (opening 5 3 kinds)))).world

-- after a round the first rests at its Flip, which it doesn't execute yet
guesses-resting : guesses_of movers later 0 0 0 2 ≡ 0 ∷ 0 ∷ []
unfolding after_round after_turn turn stepped is_surrounded check_at killed_at places_around put_cell same_pos neighbours_of adjacent_pos directions guess flips opening cell_in rock floor place_in
guesses-resting = refl

-- and it reads and writes its own cell alone
looks-resting :
    (reads movers later 0 ≡ claim (record { x = 2; y = 1 }) (record { who = true; mind = true; load = false; food = false; red_marks = false; black_marks = false }) ∷ [])
    × (writes movers later 0 ≡ claim (record { x = 2; y = 1 }) (record { who = false; mind = true; load = false; food = false; red_marks = false; black_marks = false }) ∷ [])
unfolding after_round after_turn turn reads writes merged stepped is_surrounded check_at killed_at places_around put_cell same_pos neighbours_of adjacent_pos directions opening cell_in rock floor place_in
looks-resting = (refl, refl)
