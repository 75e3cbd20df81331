-- Saves that are advanced, by hand.
use Rattle.std.proofs.Common.{◌≡◌, false, [], ◌∷◌, Some, refl}
use Rattle.hex_geometry.specs.declared.direction.Dir.TheVariants.{East, West, NorthWest}
use Rattle.hex_geometry.specs.declared.direction.Side.TheVariants.{Left}
use Rattle.hex_geometry.specs.declared.neighbourhood.Sight.TheVariants.{Ahead}
use Rattle.hex_geometry.specs.Direction.{directions, turned_by}
use Rattle.hex_geometry.specs.Neighbourhood.{adjacent_pos, neighbours_of, sensed_pos}
use Rattle.hex_geometry.specs.Position.{same_pos}
use Rattle.brain_read.specs.declared.instr.Cond.TheVariants.{FoeMarker}
use Rattle.brain_read.specs.declared.instr.Instr.TheVariants.{Flip, Mark, Sense, Turn}
use Rattle.cell_world.specs.declared.ant.Colour.TheVariants.{Red, Black}
use Rattle.cell_world.specs.declared.cell.Cell.{Cell}
use Rattle.cell_world.specs.Cell.{rock}
use Rattle.cell_world.specs.Grid.{Grid, cell_in}
use Rattle.cell_world.specs.Opening.{floor}
use Rattle.cell_world.specs.World.{place_in, put_cell}
use Rattle.ant_random.specs.Stream.{drawn, random_at, state_at}
use Rattle.ant_turn.specs.Minds.{contest_minds}
use Rattle.ant_turn.specs.Rounds.{after_round, after_turn}
use Rattle.ant_turn.specs.Turn.{turn}
use Rattle.spec_record.specs.Claims.{merged}
use Rattle.spec_record.specs.Guess.{flips, guess}
use Rattle.spec_record.specs.Look.{look_of}
use Rattle.spec_record.specs.Reads.{reads}
use Rattle.spec_record.specs.Writes.{writes}
use Rattle.round_book.specs.Counts.{counts_of, is_taken}
use Rattle.round_book.specs.Window.{guess_for, look_for, moment_before}
use Rattle.match_run.specs.Counts.{round_totals, window_at, window_totals}
use Rattle.match_save.specs.Advanced.{advanced}
use Rattle.match_save.specs.Saved.{SavedValue}
use Rattle.match_save.specs.Saves.{grid_at}
use Rattle.match_save.proofs.SaveWorked.{hill, saved, turning}

-- the world of one hill cell, which is this one
abbrev around : Cell → Grid
around cell = record { width = 3; height = 3; ids = 1; cells = rock ∷ rock ∷ rock ∷ rock ∷ cell ∷ rock ∷ rock ∷ rock ∷ rock ∷ [] }

-- at round 1 the ant faces direction 5; it turns left twice
abbrev pub turned_twice : SavedValue
turned_twice = record saved {
  round = 3;
  totals = record { turns = 3; taken = 3; redone = 0 };
  world = around (record hill { ant = Some (record { id = 0; colour = Red; state = 0; resting = 0; facing = West; laden = false }) });
}

pub row_advanced : advanced saved 3 ≡ turned_twice
unfolding advanced grid_at round_totals window_totals window_at counts_of is_taken look_for look_of guess_for moment_before after_round after_turn turn reads writes merged put_cell same_pos neighbours_of adjacent_pos directions turned_by guess flips cell_in rock floor place_in
row_advanced = refl

-- a number was drawn in round 1, by a turn that was executed again
abbrev flipping : SavedValue
flipping = record saved { place = 1; totals = record { turns = 1; taken = 0; redone = 1 }; minds = contest_minds (Flip 2932 1 0 ∷ Turn Left 0 ∷ []) turning }

-- the second number of seed 12345 is 2932, so that the ant flips into state 1; there it turns left, and draws none
pub flip_advanced : advanced flipping 3 ≡ record flipping {
  round = 3;
  place = 2;
  totals = record { turns = 3; taken = 2; redone = 1 };
  world = around (record hill { ant = Some (record { id = 0; colour = Red; state = 0; resting = 0; facing = NorthWest; laden = false }) });
}
unfolding advanced grid_at round_totals window_totals window_at counts_of is_taken look_for look_of guess_for moment_before after_round after_turn turn reads writes merged put_cell same_pos neighbours_of adjacent_pos directions turned_by guess flips cell_in rock floor place_in drawn random_at state_at
flip_advanced = refl

-- a red ant marks the cell before a black one, which looks for its foe's markers there
abbrev red_cell : Cell
red_cell = record floor { hill = Some Red; ant = Some (record { id = 0; colour = Red; state = 0; resting = 0; facing = East; laden = false }) }

abbrev black_cell : Cell
black_cell = record floor { hill = Some Black; ant = Some (record { id = 1; colour = Black; state = 0; resting = 0; facing = West; laden = false }) }

abbrev marking : SavedValue
marking = record {
  seed = 7;
  window = 2;
  round = 2;
  place = 0;
  totals = record { turns = 4; taken = 3; redone = 1 };
  minds = contest_minds (Mark 2 0 ∷ []) (Sense Ahead 1 0 FoeMarker ∷ Turn Left 1 ∷ []);
  world = record { width = 4; height = 3; ids = 2; cells = rock ∷ rock ∷ rock ∷ rock ∷ rock ∷ red_cell ∷ black_cell ∷ rock ∷ rock ∷ rock ∷ rock ∷ rock ∷ [] };
}

-- in its windows of two turns the look is made before the mark, and executed again; in windows of one turn it is taken
pub windows_advanced :
    ((advanced marking 3).totals ≡ record { turns = 6; taken = 4; redone = 2 })
    × ((advanced (record marking { window = 1 }) 3).totals ≡ record { turns = 6; taken = 5; redone = 1 })
unfolding advanced round_totals window_totals window_at counts_of is_taken look_for look_of guess_for moment_before after_round after_turn turn reads writes merged put_cell same_pos neighbours_of adjacent_pos sensed_pos directions guess flips cell_in rock floor place_in
windows_advanced = (refl, refl)
