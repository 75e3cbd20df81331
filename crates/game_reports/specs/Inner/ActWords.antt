-- What ants execute, as it is pushed: each line after the LF of the previous line, and without its own.
use Rattle.std.specs.Prelude.{ℕ, Bool, List, Option, Some, None, codes, decimal, if◌then◌else◌, nat_lt}
use Rattle.ant_base.specs.Layout.{◌+++◌}
use Rattle.brain_read.specs.Canonical.{instruction_words}
use Rattle.brain_read.specs.declared.instr.Instr.{Instr}
use Rattle.cell_world.specs.declared.ant.PlacedAnt.{PlacedAnt}
use Rattle.game_reports.specs.Acts.{answer_text, standing_words}

-- the line of a turn
abbrev pub broken_act : ℕ → PlacedAnt → Instr → Bool → List ℕ
broken_act round it instruction met =
    codes "\nround " +++ decimal round +++ codes ", " +++ standing_words it.place it.ant +++ codes ": "
    +++ instruction_words instruction +++ codes ": " +++ answer_text met

-- the requested id, if no ant ever had it
abbrev pub unmade_of : Option ℕ → ℕ → Option ℕ
unmade_of None ids = None
unmade_of (Some one) ids = if nat_lt one ids then None else Some one
