-- The lines of a trace as they are pushed: each without its LF, after the LF of the previous line.
use Rattle.std.specs.Prelude.{ℕ, ◌+◌, ◌-◌, List, [], Option, Some, None, codes, decimal, if◌then◌else◌, nat_lt, option_map}
use Rattle.hex_geometry.specs.declared.position.Pos.{Pos}
use Rattle.ant_base.specs.Layout.{numbered, ◌+++◌}
use Rattle.ant_turn.specs.Minds.{Minds}
use Rattle.ant_turn.specs.Rounds.{after_rounds}
use Rattle.cell_world.specs.World.{World, place_in}
use Rattle.dump_print.specs.declared.lines.CellWords.{CellWords}
use Rattle.dump_print.specs.Texts.{cell_words}
use Rattle.match_run.specs.Run.{world_after}
use Rattle.match_run.specs.Alone.{GameAloneValue, standing}
use Rattle.game_reports.specs.declared.reports.trace.ToldRound.{ToldRound}
use Rattle.game_reports.specs.Trace.{lives_in_first}

-- the report of an ant after a round, from its place
abbrev pub told_of : World → ℕ → Option Pos → ToldRound
told_of w round place = record {
  round = round;
  cell = option_map (λ (p : Pos). record { at = p; cell = w.cells p }) place;
}

-- the end of a line: what it says of a cell, or that the ant is dead
abbrev pub told_words : Option CellWords → List ℕ
told_words None = codes ": dead"
told_words (Some line) = codes ": " +++ cell_words line.at.x line.at.y line.cell

-- the line without its LF, after the LF of the previous line
abbrev pub words_of : ToldRound → List ℕ
words_of told = codes "\nround " +++ decimal told.round +++ told_words told.cell

-- the report in world i, after an LF
unfoldable pub broken_line : (ℕ → World) → ℕ → ℕ → ℕ → List ℕ
broken_line worlds id from i =
    if lives_in_first worlds id i then words_of (told_of (worlds i) (from + i) (place_in (worlds i) id)) else []

-- the worlds of a game from its current round on, one for each round
unfoldable pub worlds_from : GameAloneValue → ℕ → World
worlds_from game i = (after_rounds game.minds game.seed (standing game) i).world

-- what follows the words of the seed, without the last LF
unfoldable pub broken_end : Minds → ℕ → World → ℕ → ℕ → ℕ → List ℕ
broken_end minds seed w rounds id from =
    if nat_lt id w.ids
    then numbered (broken_line (λ i. world_after minds seed w (from + i)) id from) (rounds + 1 - from)
    else codes "\nno ant of id " +++ decimal id
