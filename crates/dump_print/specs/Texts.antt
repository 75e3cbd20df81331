-- The texts of dumps, scores and counts (this project's own layout).
use Rattle.std.specs.Prelude.{ℕ, List, codes, decimal}
use Rattle.cell_world.specs.declared.cell.Cell.{Cell}
use Rattle.cell_world.specs.declared.score.Score.{Score}
use Rattle.cell_world.specs.World.{World}
use Rattle.ant_base.specs.Layout.{numbered, ◌+++◌}
use Rattle.dump_print.specs.declared.totals.Totals.{Totals}
use Rattle.dump_print.specs.Content.{content_text}

-- the line of a cell without its LF
abbrev pub cell_words : ℕ → ℕ → Cell → List ℕ
cell_words x y cell = codes "cell (" +++ decimal x +++ codes ", " +++ decimal y +++ codes "): " +++ content_text cell

-- the line of a cell
unfoldable pub cell_line : ℕ → ℕ → Cell → List ℕ
cell_line x y cell = (codes "cell (" +++ decimal x +++ codes ", " +++ decimal y +++ codes "): " +++ content_text cell) +++ codes "\n"

-- the lines of the cells of row y, from the left
unfoldable pub row_text : World → ℕ → List ℕ
row_text w y = numbered (λ x. cell_line x y (w.cells (record { x = x; y = y }))) w.width

-- the lines of all cells, row by row from the top
unfoldable pub cells_text : World → List ℕ
cells_text w = numbered (row_text w) w.height

-- the dump of a world after a round
unfoldable pub dump_text : World → ℕ → List ℕ
dump_text w round = codes "\nAfter round " +++ decimal round +++ codes "...\n" +++ cells_text w

-- the line of a seed without its LF
abbrev pub seed_words : ℕ → List ℕ
seed_words seed = codes "random seed: " +++ decimal seed

-- the line of a seed
unfoldable pub seed_text : ℕ → List ℕ
seed_text seed = (codes "random seed: " +++ decimal seed) +++ codes "\n"

-- an empty line and the line of a score
unfoldable pub score_text : Score → List ℕ
score_text score =
    codes "\nscore: red " +++ decimal score.red +++ codes " black " +++ decimal score.black +++ codes "\n"

-- the line of the counts of turns and looks
unfoldable pub stats_text : Totals → List ℕ
stats_text totals =
    codes "turns " +++ decimal totals.turns +++ codes " taken " +++ decimal totals.taken +++ codes " redone "
    +++ decimal totals.redone +++ codes "\n"
