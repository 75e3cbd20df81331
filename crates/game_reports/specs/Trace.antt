-- One ant's way through a game (this project's own; rounds are the task's kinetics, ids its biology).
use Rattle.std.specs.Prelude.{ℕ, zero, suc, ◌+◌, ◌-◌, ◌&&◌, Bool, true, List, [], Option, Some, None, codes, decimal, if◌then◌else◌, nat_lt}
use Rattle.std.specs.Option.{is_some}
use Rattle.hex_geometry.specs.declared.position.Pos.{Pos}
use Rattle.ant_base.specs.Layout.{numbered, ◌+++◌}
use Rattle.ant_turn.specs.Minds.{Minds}
use Rattle.cell_world.specs.World.{World, place_in}
use Rattle.dump_print.specs.Texts.{cell_line, seed_text}
use Rattle.match_run.specs.Run.{world_after}

-- the line of an ant after a round, in the world after it: the line of its cell, or that it is dead
abbrev pub way_line : ℕ → World → Option Pos → List ℕ
way_line round w None = codes "round " +++ decimal round +++ codes ": dead\n"
way_line round w (Some p) = codes "round " +++ decimal round +++ codes ": " +++ cell_line p.x p.y (w.cells p)

-- whether the ant is alive in each of the first n of some worlds
abbrev pub lives_in_first : (ℕ → World) → ℕ → ℕ → Bool
lives_in_first worlds id zero = true
lives_in_first worlds id (suc n) = lives_in_first worlds id n && is_some (place_in (worlds n) id)

-- the report of the ant in world i of these, which is that after i rounds more than `from`: its line, if it is alive in
-- each world before
unfoldable pub told_line : (ℕ → World) → ℕ → ℕ → ℕ → List ℕ
told_line worlds id from i =
    if lives_in_first worlds id i then way_line (from + i) (worlds i) (place_in (worlds i) id) else []

-- the lines of the ant in the first n of these worlds
unfoldable pub way_text : (ℕ → World) → ℕ → ℕ → ℕ → List ℕ
way_text worlds id from n = numbered (told_line worlds id from) n

-- that no ant ever had an id
unfoldable pub unmade_text : ℕ → List ℕ
unmade_text id = codes "no ant of id " +++ decimal id +++ codes "\n"

-- the text of a trace: the line of the seed, and then the lines of the ant in the rounds from `from` to the last one;
-- or that no ant ever had this id
unfoldable pub trace_text : Minds → ℕ → World → ℕ → ℕ → ℕ → List ℕ
trace_text minds seed w rounds id from =
    seed_text seed
    +++ (if nat_lt id w.ids then way_text (λ i. world_after minds seed w (from + i)) id from (rounds + 1 - from)
    else unmade_text id)
