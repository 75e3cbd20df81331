-- What every ant executes in a game, turn after turn (this project's own; instructions are the task's neurology, turns
-- its kinetics).
use Rattle.std.specs.Prelude.{ℕ, ◌==◌, Bool, true, false, List, [], ◌∷◌, Option, Some, None, codes, decimal, if◌then◌else◌, nat_lt}
use Rattle.hex_geometry.specs.declared.position.Pos.{Pos}
use Rattle.hex_geometry.specs.Direction.{number_of}
use Rattle.ant_base.specs.Layout.{◌+++◌}
use Rattle.ant_turn.specs.Minds.{Minds}
use Rattle.brain_read.specs.Canonical.{instruction_words}
use Rattle.cell_world.specs.declared.ant.Ant.{Ant}
use Rattle.cell_world.specs.Cell.{one_if}
use Rattle.cell_world.specs.World.{World}
use Rattle.dump_print.specs.Texts.{seed_text}
use Rattle.game_reports.specs.Events.{ant_words, place_words}
use Rattle.game_reports.specs.Report.{report_text}
use Rattle.game_reports.specs.Trace.{unmade_text}
use Rattle.match_run.specs.Seen.{Seen}

-- the word of an answer: the first one, or the other one
abbrev pub answer_text : Bool → List ℕ
answer_text true = codes "met"
answer_text false = codes "unmet"

-- an ant on a cell
abbrev pub standing_words : Pos → Ant → List ℕ
standing_words p ant =
    ant_words (Some ant) +++ codes ": on " +++ place_words (Some p)
    +++ codes ", dir " +++ decimal (number_of ant.facing)
    +++ codes ", food " +++ decimal (one_if ant.laden) +++ codes ", state " +++ decimal ant.state

-- the line of a turn, without its LF: the ant before the turn, and what it executed
unfoldable pub act_line : Seen → List ℕ
act_line seen =
    codes "round " +++ decimal seen.round +++ codes ", " +++ standing_words seen.place seen.ant +++ codes ": "
    +++ instruction_words seen.instruction
    +++ codes ": " +++ answer_text seen.met

-- whether the turns of an id are reported: those of every ant, or of one
abbrev pub is_told : Option ℕ → ℕ → Bool
is_told None id = true
is_told (Some one) id = one == id

-- the lines of what is seen of a turn
abbrev pub act_lines : Option ℕ → Seen → List (List ℕ)
act_lines one seen = if is_told one seen.ant.id then act_line seen ∷ [] else []

-- the text of what the ants execute from round `from` on: the line of the seed, and the lines of all turns, or of one
-- ant's; or that no ant ever had this id
unfoldable pub acts_text : Minds → ℕ → World → ℕ → Option ℕ → ℕ → List ℕ
acts_text minds seed w rounds None from = report_text (act_lines None) from minds seed w rounds
acts_text minds seed w rounds (Some one) from =
    if nat_lt one w.ids then report_text (act_lines (Some one)) from minds seed w rounds else seed_text seed +++ unmade_text one
