-- Windows, worked out.
use Rattle.std.proofs.Common.{◌≡◌, false, [], ◌∷◌, None, refl}
use Rattle.hex_geometry.specs.declared.neighbourhood.Sight.TheVariants.{LeftAhead}
use Rattle.hex_geometry.specs.Direction.{directions, turned_by}
use Rattle.hex_geometry.specs.Neighbourhood.{adjacent_pos, neighbours_of, sensed_pos}
use Rattle.hex_geometry.specs.Position.{same_pos}
use Rattle.cell_world.specs.declared.kind.Kind.TheVariants as kind
use Rattle.cell_world.specs.Cell.{rock}
use Rattle.cell_world.specs.Grid.{cell_in, world_of}
use Rattle.cell_world.specs.Opening.{floor, opening}
use Rattle.cell_world.specs.World.{place_in, put_cell}
use Rattle.brain_read.specs.declared.instr.Cond.{Cond}
use Rattle.brain_read.specs.declared.instr.Cond.TheVariants as condition
use Rattle.brain_read.specs.declared.instr.Instr.TheVariants.{Mark, Sense}
use Rattle.ant_random.specs.Stream.{drawn, random_at, state_at}
use Rattle.ant_turn.specs.Kills.{check_at, is_surrounded, killed_at, places_around}
use Rattle.ant_turn.specs.Minds.{contest_minds}
use Rattle.ant_turn.specs.Rounds.{after_turn}
use Rattle.ant_turn.specs.Turn.{stepped, turn}
use Rattle.spec_record.specs.Claims.{merged}
use Rattle.spec_record.specs.Guess.{flips, guess}
use Rattle.spec_record.specs.Look.{look_of}
use Rattle.spec_record.specs.Reads.{reads}
use Rattle.spec_record.specs.Writes.{writes}
use Rattle.spec_record.proofs.LooksWorked.{field, minds}
use Rattle.round_book.specs.Counts.{counts_of, is_taken}
use Rattle.round_book.specs.Window.{Window, guess_for, look_for, moment_before}

-- a window of all seven turns: red ants flip, a black one moves and kills the red ant of id 2
abbrev pub all_seven : Window
all_seven = record { minds = minds; seed = 12345; base = field; place = 0; from = 0; to = 7 }

-- the turn of the killed ant, and that of the red ant whose random number is then another, are executed again
counts-seven : counts_of all_seven ≡ record { taken = 5; redone = 2 }
unfolding counts_of is_taken look_for look_of guess_for moment_before after_turn turn reads writes merged stepped is_surrounded check_at killed_at places_around put_cell same_pos neighbours_of adjacent_pos directions guess flips opening cell_in rock floor place_in drawn random_at state_at
counts-seven = refl

pub redone-seven : (is_taken all_seven 2 ≡ false) × (is_taken all_seven 4 ≡ false)
unfolding is_taken look_for look_of guess_for moment_before after_turn turn reads writes merged stepped is_surrounded check_at killed_at places_around put_cell same_pos neighbours_of adjacent_pos directions guess flips opening cell_in rock floor place_in drawn random_at state_at
redone-seven = (refl, refl)

-- why: the red ant is dead, and the other one's number was guessed to be the second and is the first
causes-seven : (((moment_before all_seven 2).world.cells (record { x = 3; y = 3 })).ant ≡ None) × (guess_for all_seven 4 ≡ 1) × ((moment_before all_seven 4).place ≡ 0)
unfolding guess_for moment_before after_turn turn stepped is_surrounded check_at killed_at places_around put_cell same_pos neighbours_of adjacent_pos directions guess flips opening cell_in rock floor place_in drawn random_at state_at
causes-seven = (refl, refl, refl)

-- a red ant that marks its cell, and a black ant that senses that cell after it
abbrev marked_and_sensed : Cond → Window
marked_and_sensed asked = record {
  minds = contest_minds (Mark 0 0 ∷ []) (Sense LeftAhead 0 0 asked ∷ []);
  seed = 7;
  base = world_of (opening 4 4 (kind.Rock ∷ kind.Rock ∷ kind.Rock ∷ kind.Rock ∷ kind.Rock ∷ kind.RedHill ∷ kind.Clear ∷ kind.Rock ∷ kind.Rock ∷ kind.BlackHill ∷ kind.Clear ∷ kind.Rock ∷ kind.Rock ∷ kind.Rock ∷ kind.Rock ∷ kind.Rock ∷ []));
  place = 0;
  from = 0;
  to = 2;
}

-- the mark invalidates the look that reads marks of that colour, and no other
counts-sensed :
    (counts_of (marked_and_sensed condition.Food) ≡ record { taken = 2; redone = 0 })
    × (counts_of (marked_and_sensed condition.FoeMarker) ≡ record { taken = 1; redone = 1 })
    × (counts_of (marked_and_sensed condition.Home) ≡ record { taken = 2; redone = 0 })
unfolding counts_of is_taken look_for look_of guess_for moment_before after_turn turn reads writes merged put_cell same_pos neighbours_of adjacent_pos sensed_pos turned_by directions guess flips opening cell_in rock floor place_in
counts-sensed = (refl, refl, refl)
