-- A save of one round of a world of one red hill cell, by hand.
use Rattle.std.proofs.Common.{◌≡◌, true, false, List, [], ◌∷◌, map, Some, Ok, Err, codes, refl}
use Rattle.std.specs.Fmt.{digits}
use Rattle.ant_base.specs.Layout.{◌+++◌}
use Rattle.hex_geometry.specs.declared.direction.Side.TheVariants.{Left, Right}
use Rattle.hex_geometry.specs.declared.direction.Dir.TheVariants.{East, West, NorthEast}
use Rattle.brain_read.specs.declared.instr.Instr.{Instr}
use Rattle.brain_read.specs.declared.instr.Instr.TheVariants.{Drop, Turn}
use Rattle.brain_read.specs.Forms.{form_words, side_words}
use Rattle.cell_world.specs.declared.ant.Colour.TheVariants.{Red, Black}
use Rattle.cell_world.specs.declared.cell.Cell.{Cell}
use Rattle.cell_world.specs.Cell.{rock}
use Rattle.cell_world.specs.Grid.{cell_in}
use Rattle.cell_world.specs.Marks.{has_mark}
use Rattle.cell_world.specs.Opening.{floor}
use Rattle.cell_world.specs.World.{place_in}
use Rattle.ant_turn.specs.Minds.{contest_minds}
use Rattle.match_save.specs.Text.{draft_lines, draft_text, instruction_line}
use Rattle.match_save.specs.Saved.{SavedValue, draft_of, save_text}
use Rattle.match_save.specs.Inner.Reading.{draft_of_text, instruction_of, strict_value}
use Rattle.ant_base.specs.Number.{decimal_value}
use Rattle.brain_read.specs.Steps.{take_side, take_state}
use Rattle.brain_read.specs.Reading.{read_line, read_sense, read_marked, read_branches, read_drop, read_turn, read_flip}

-- the hill cell, with its ant, which turned once
abbrev pub hill : Cell
hill = record floor { hill = Some Red; ant = Some (record { id = 0; colour = Red; state = 0; resting = 0; facing = NorthEast; laden = false }) }

abbrev pub turning : List Instr
turning = Turn Left 0 ∷ []

abbrev pub saved : SavedValue
saved = record {
  seed = 12345;
  window = 16384;
  round = 1;
  place = 0;
  totals = record { turns = 1; taken = 1; redone = 0 };
  minds = contest_minds turning turning;
  world = record { width = 3; height = 3; ids = 1; cells = rock ∷ rock ∷ rock ∷ rock ∷ hill ∷ rock ∷ rock ∷ rock ∷ rock ∷ [] };
}

pub row_saved : save_text saved ≡
    codes "ants save 1\nseed 12345\nsheet 5 3 14\nwindow 16384\nround 1\nplace 0\ntaken 1 redone 0\nsize 3 3\n"
    +++ codes "red 1\nTurn Left 0\nblack 1\nTurn Left 0\n###\n#+#\n###\n000\n000\n000\n000\n000\n000\n000\n000\n000\n"
    +++ codes "ant 0 red 1 1 5 0 0 0\nend\n"
unfolding save_text draft_text draft_lines draft_of instruction_line digits rock floor place_in cell_in
row_saved = refl

-- two hill cells, each with its ant, food and markers
abbrev red_cell : Cell
red_cell =
    record floor { hill = Some Red; food = 62; red = record { set = 8 }; ant = Some (record { id = 0; colour = Red; state = 0; resting = 0; facing = East; laden = false }) }

abbrev black_cell : Cell
black_cell =
    record floor { hill = Some Black; food = 63; black = record { set = 35 }; ant = Some (record { id = 1; colour = Black; state = 1; resting = 2; facing = West; laden = true }) }

-- every part of a save, none like its neighbour, on a world that is wider than high
abbrev standing : SavedValue
standing = record {
  seed = 7;
  window = 50;
  round = 2;
  place = 1;
  totals = record { turns = 4; taken = 3; redone = 1 };
  minds = record { red = turning; black = Drop 1 ∷ Turn Right 0 ∷ []; sheet = record { surround = 4; corpse = 2; rest = 9 } };
  world = record { width = 4; height = 3; ids = 2; cells = rock ∷ rock ∷ rock ∷ rock ∷ rock ∷ red_cell ∷ black_cell ∷ rock ∷ rock ∷ rock ∷ rock ∷ rock ∷ [] };
}

pub parts_saved : save_text standing ≡
    codes "ants save 1\nseed 7\nsheet 4 2 9\nwindow 50\nround 2\nplace 1\ntaken 3 redone 1\nsize 4 3\n"
    +++ codes "red 1\nTurn Left 0\nblack 2\nDrop 1\nTurn Right 0\n####\n#+-#\n####\n0000\n0800\n0000\n0000\n00S0\n0000\n0000\n0no0\n0000\nfood 2 1 63\n"
    +++ codes "ant 0 red 1 1 0 0 0 0\nant 1 black 2 1 3 1 1 2\nend\n"
unfolding save_text draft_text draft_lines draft_of instruction_line digits rock floor place_in cell_in
parts_saved = refl

-- its markers: 3 of red, and 0, 1 and 5 of black
pub red_marker_saved : map (has_mark (record { set = 8 })) (0 ∷ 1 ∷ 2 ∷ 3 ∷ 4 ∷ 5 ∷ []) ≡ false ∷ false ∷ false ∷ true ∷ false ∷ false ∷ []
red_marker_saved = refl

pub black_markers_saved : map (has_mark (record { set = 35 })) (0 ∷ 1 ∷ 2 ∷ 3 ∷ 4 ∷ 5 ∷ []) ≡ true ∷ true ∷ false ∷ false ∷ false ∷ true ∷ []
black_markers_saved = refl

pub empty_text : draft_of_text [] ≡ Err 1
unfolding draft_of_text strict_value
empty_text = refl

pub first_line_alone : draft_of_text (codes "ants save 1") ≡ Err 2
unfolding draft_of_text strict_value
first_line_alone = refl

pub leading_zero : draft_of_text (codes "ants save 1\nseed 012345\nsheet 5 3 14\n") ≡ Err 2
unfolding draft_of_text strict_value
leading_zero = refl

pub twelve_digits : draft_of_text (codes "ants save 1\nseed 1\nsheet 5 3 14\nwindow 1\nround 1\nplace 100000000000\n") ≡ Err 6
unfolding draft_of_text strict_value
twelve_digits = refl

pub row_again : draft_of_text (codes "ants save 1\nseed 12345\nsheet 5 3 14\nwindow 16384\nround 1\nplace 0\ntaken 1 redone 0\nsize 3 3\nred 1\nTurn Left 0\nblack 1\nTurn Left 0\n###\n#+#\n###\n000\n000\n000\n000\n000\n000\n000\n000\n000\nant 0 red 1 1 5 0 0 0\nend\n") ≡ Ok (draft_of saved)
unfolding draft_of_text strict_value instruction_of instruction_line draft_of digits rock floor place_in cell_in read_line read_sense read_marked read_branches read_drop read_turn read_flip form_words side_words take_side take_state decimal_value
row_again = refl

pub row_unended : draft_of_text (codes "ants save 1\nseed 12345\nsheet 5 3 14\nwindow 16384\nround 1\nplace 0\ntaken 1 redone 0\nsize 3 3\nred 1\nTurn Left 0\nblack 1\nTurn Left 0\n###\n#+#\n###\n000\n000\n000\n000\n000\n000\n000\n0o0\n000\nfood 1 1 63\nend") ≡ Err 26
unfolding draft_of_text strict_value instruction_of instruction_line digits read_line read_sense read_marked read_branches read_drop read_turn read_flip form_words side_words take_side take_state decimal_value
row_unended = refl
