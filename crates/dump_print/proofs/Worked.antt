-- Lines of dumps, a score and counts, written out.
use Rattle.std.proofs.Common.{◌≡◌, true, false, codes, Some, refl}
use Rattle.std.specs.Fmt.{digits}
use Rattle.ant_base.specs.Layout.{numbered}
use Rattle.hex_geometry.specs.declared.direction.Dir.TheVariants.{NorthEast}
use Rattle.cell_world.specs.declared.ant.Colour.TheVariants.{Red, Black}
use Rattle.cell_world.specs.declared.cell.Cell.{Cell}
use Rattle.cell_world.specs.Cell.{rock}
use Rattle.cell_world.specs.Grid.{cell_in}
use Rattle.cell_world.specs.Marks.{no_marks, with_mark}
use Rattle.cell_world.specs.Opening.{floor, opening}
use Rattle.cell_world.proofs.OpeningWorked.{one_hill}
use Rattle.dump_print.specs.Content.{content_text, standing_ant_text}
use Rattle.dump_print.specs.Texts.{cell_line, cells_text, row_text, score_text, stats_text}

-- the one hill cell of a small opening world
line-hill : cell_line 1 1 (cell_in (opening 3 3 one_hill) (record { x = 1; y = 1 })) ≡ codes "cell (1, 1): red hill; red ant of id 0, dir 0, food 0, state 0, resting 0\n"
unfolding digits numbered cell_line content_text standing_ant_text cell_in opening floor rock
line-hill = refl

-- a cell of its rim
line-rock : cell_line 2 0 (cell_in (opening 3 3 one_hill) (record { x = 2; y = 0 })) ≡ codes "cell (2, 0): rock\n"
unfolding digits cell_line content_text cell_in opening rock
line-rock = refl

-- a clear cell on which nothing is: the line ends in a space
line-clear : cell_line 10 7 floor ≡ codes "cell (10, 7): \n"
unfolding digits cell_line content_text floor
line-clear = refl

-- a cell on which everything is
abbrev full : Cell
full = record {
  rocky = false;
  hill = Some Black;
  food = 20;
  red = with_mark (with_mark no_marks 3) 0;
  black = with_mark no_marks 5;
  ant = Some (record { id = 107; colour = Red; state = 9999; resting = 14; facing = NorthEast; laden = true });
}

line-full : cell_line 1 12 full ≡ codes "cell (1, 12): 20 food; black hill; red marks: 03; black marks: 5; red ant of id 107, dir 5, food 1, state 9999, resting 14\n"
unfolding digits cell_line content_text standing_ant_text numbered
line-full = refl

-- four rocky cells, row by row from the top, each row from the left
cells-four : cells_text (record { width = 2; height = 2; ids = 0; cells = λ q. rock }) ≡
    codes "cell (0, 0): rock\ncell (1, 0): rock\ncell (0, 1): rock\ncell (1, 1): rock\n"
unfolding digits numbered cells_text row_text cell_line content_text rock
cells-four = refl

-- an empty line comes before a score
score-three : score_text (record { red = 3; black = 0 }) ≡ codes "\nscore: red 3 black 0\n"
unfolding digits score_text
score-three = refl

-- the counts of a game of seven turns
stats-seven : stats_text (record { turns = 7; taken = 5; redone = 2 }) ≡ codes "turns 7 taken 5 redone 2\n"
unfolding digits stats_text
stats-seven = refl
