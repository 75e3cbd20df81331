-- The rest of a run, worked out.
use Rattle.std.proofs.Common.{◌≡◌, true, [], ◌∷◌, codes, refl}
use Rattle.std.specs.Fmt.{digits}
use Rattle.ant_base.specs.Layout.{numbered, ◌+++◌}
use Rattle.ant_turn.specs.Rounds.{after_round, start_of}
use Rattle.cell_world.specs.Cell.{rock}
use Rattle.cell_world.specs.Score.{score_of, hill_food_of}
use Rattle.dump_print.specs.declared.totals.Totals.{Totals}
use Rattle.dump_print.specs.Content.{content_text}
use Rattle.dump_print.specs.Texts.{cell_line, row_text, cells_text, dump_text, score_text, stats_text}
use Rattle.match_run.specs.Counts.{round_totals}
use Rattle.match_run.specs.Dumps.{has_round}
use Rattle.match_run.specs.Later.{later_dumps, plain_later_text, later_text}
use Rattle.match_run.proofs.RunWorked.{nobody, stone}

-- what the earlier rounds came to
abbrev earlier : Totals
earlier = record { turns = 5; taken = 4; redone = 1 }

-- after the first of three rounds, of which the first two are dumped: the second dump alone is left, and the counts
-- continue from the earlier ones
two_rounds_left : later_text nobody 12345 3 (start_of stone) 1 earlier 3 (has_round (0 ∷ 1 ∷ 2 ∷ [])) true
    ≡ codes "\nAfter round 2...\ncell (0, 0): rock\n" +++ codes "\nscore: red 0 black 0\n" +++ codes "turns 5 taken 4 redone 1\n"
unfolding later_text plain_later_text later_dumps numbered dump_text cells_text row_text cell_line content_text rock score_text score_of hill_food_of stats_text after_round round_totals digits
two_rounds_left = refl

-- after the last one no dump is left
no_round_left : later_text nobody 12345 3 (start_of stone) 3 earlier 3 (has_round (0 ∷ 1 ∷ 2 ∷ 3 ∷ [])) true ≡ codes "\nscore: red 0 black 0\n" +++ codes "turns 5 taken 4 redone 1\n"
unfolding later_text plain_later_text later_dumps numbered score_text score_of hill_food_of rock stats_text after_round round_totals digits
no_round_left = refl
