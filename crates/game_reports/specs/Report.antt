-- A report of a game: a text of lines (this project's own).
use Rattle.std.specs.Prelude.{ℕ, List, flat_map, codes}
use Rattle.ant_base.specs.Layout.{◌+++◌}
use Rattle.ant_turn.specs.Minds.{Minds}
use Rattle.ant_turn.specs.Rounds.{start_of}
use Rattle.cell_world.specs.World.{World}
use Rattle.dump_print.specs.Texts.{seed_text}
use Rattle.match_run.specs.Seen.{Seen, seen}
use Rattle.match_run.specs.Told.{Telling, from_round, told_in_rounds}

-- the lines of a report for a turn, from what is seen of it
abbrev pub told_of : (Seen → List (List ℕ)) → Minds → ℕ → ℕ → Telling (List ℕ)
told_of lines minds seed round m t = flat_map lines (seen minds seed round m t)

-- the lines of all turns from round `from` on, turn after turn
unfoldable pub report_lines : (Seen → List (List ℕ)) → ℕ → Minds → ℕ → World → ℕ → List (List ℕ)
report_lines lines from minds seed w rounds =
    told_in_rounds (from_round from (told_of lines minds seed)) minds seed (start_of w) rounds

-- the text of a report: the line of the seed, and these lines
unfoldable pub report_text : (Seen → List (List ℕ)) → ℕ → Minds → ℕ → World → ℕ → List ℕ
report_text lines from minds seed w rounds =
    seed_text seed +++ flat_map (λ words. words +++ codes "\n") (report_lines lines from minds seed w rounds)
