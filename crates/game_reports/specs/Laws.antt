-- Laws of all reports (this project's own).
use Rattle.std.specs.Prelude.{◌≡◌, ◌≢◌, ℕ, zero, suc, ◌+◌, ◌-◌, ◌≤◌, ◌==◌, ◌&&◌, Bool, false, List, [], ◌∷◌, ◌++◌, filter, length, map, Option, Some, None, IsSome, codes, decimal}
use Rattle.std.specs.List.{AllPairs, Contains}
use Rattle.hex_geometry.specs.declared.position.Pos.{Pos}
use Rattle.ant_base.specs.Layout.{◌+++◌}
use Rattle.ant_turn.specs.Minds.{AreSound, Fits, Minds}
use Rattle.ant_turn.specs.Rounds.{start_of}
use Rattle.cell_world.specs.declared.ant.Ant.{Ant}
use Rattle.cell_world.specs.declared.ant.Colour.{Colour}
use Rattle.cell_world.specs.declared.ant.Colour.TheVariants.{Red, Black}
use Rattle.cell_world.specs.declared.kind.Kind.{Kind}
use Rattle.cell_world.specs.declared.score.Score.{Score}
use Rattle.cell_world.specs.Colour.{same_colour}
use Rattle.cell_world.specs.Grid.{world_of}
use Rattle.cell_world.specs.Opening.{opening}
use Rattle.cell_world.specs.Score.{score_of}
use Rattle.cell_world.specs.Valid.{Valid}
use Rattle.cell_world.specs.World.{World, place_in}
use Rattle.match_run.specs.Run.{world_after}
use Rattle.match_run.specs.Seen.{Seen, ant_in, seen}
use Rattle.dump_print.specs.Texts.{cell_line, dump_text}
use Rattle.game_reports.specs.Acts.{act_line, act_lines}
use Rattle.game_reports.specs.Events.{deaths_in, event_lines, events_text, scores_in}
use Rattle.game_reports.specs.Profile.{executed_in_rounds, met_of, times_of}
use Rattle.game_reports.specs.Report.{report_lines, report_text}
use Rattle.game_reports.specs.Trace.{way_line}
use Rattle.match_run.specs.Told.{from_round, told_in_rounds}

-- all ants that are killed in the rounds of a game, turn after turn, as in the lines
unfoldable pub all_deaths : Minds → ℕ → World → ℕ → List ℕ
all_deaths minds seed w rounds = told_in_rounds (λ round. deaths_in minds seed) minds seed (start_of w) rounds

-- all scores that are reported in them
unfoldable pub all_scores : Minds → ℕ → World → ℕ → List Score
all_scores minds seed w rounds = told_in_rounds (λ round. scores_in minds seed) minds seed (start_of w) rounds

-- these ants are those that live in one world and not in the other, each once
pub record AreTheDead (old new : World) (deaths : List ℕ) : Type 0 where
  pub lived : (u : ℕ) → Contains deaths u → IsSome (place_in old u)
  pub gone : (u : ℕ) → Contains deaths u → place_in new u ≡ None
  pub all : (u : ℕ) → IsSome (place_in old u) → place_in new u ≡ None → Contains deaths u
  pub once : AllPairs ◌≢◌ deaths

-- the reported deaths are the ants that live at the start and not at the end, each once
abbrev pub DeathsAreTheDead : Type 0
DeathsAreTheDead =
    (minds : Minds) (seed : ℕ) (w : World) (rounds : ℕ) → AreSound minds → Valid w → Fits w minds
    → AreTheDead w (world_after minds seed w rounds) (all_deaths minds seed w rounds)

-- the last of some scores, or this one if there is none
abbrev pub last_or : Score → List Score → Score
last_or score [] = score
last_or score (next ∷ scores) = last_or next scores

-- no food on the hills
abbrev pub nothing : Score
nothing = record { red = 0; black = 0 }

-- the last reported score, or 0 to 0 if there is none, is the one after the last round, as a run prints it
abbrev pub LastScoreIsTheEnds : Type 0
LastScoreIsTheEnds = (minds : Minds) (seed width height : ℕ) (kinds : List Kind) (rounds : ℕ) →
    let w = world_of (opening width height kinds) in
    last_or nothing (all_scores minds seed w rounds) ≡ score_of (world_after minds seed w rounds)

-- the id t, if its ant doesn't rest any more
abbrev pub up_for : ℕ → ℕ → List ℕ
up_for t zero = t ∷ []
up_for t (suc left) = []

-- the id t, if its ant is alive and doesn't rest
abbrev pub up_by : ℕ → Option Ant → List ℕ
up_by t None = []
up_by t (Some ant) = up_for t ant.resting

-- the ids of those turns of a game in which the ant is alive and doesn't rest
unfoldable pub acting_turns : Minds → ℕ → World → ℕ → List ℕ
acting_turns minds seed w rounds =
    told_in_rounds (λ round m t. up_by t (ant_in m.world t)) minds seed (start_of w) rounds

-- the sum of f over the numbers below n
abbrev pub sum_below : (ℕ → ℕ) → ℕ → ℕ
sum_below f zero = 0
sum_below f (suc n) = sum_below f n + f n

-- the counts of all states of both brains add up to the number of those turns
abbrev pub CountsAddUp : Type 0
CountsAddUp = (minds : Minds) (seed : ℕ) (w : World) (rounds : ℕ) → AreSound minds → Valid w → Fits w minds →
    let list = executed_in_rounds minds seed w rounds 0 in
    sum_below (times_of list Red) (length minds.red) + sum_below (times_of list Black) (length minds.black)
    ≡ length (acting_turns minds seed w rounds)

-- a profile of the rounds before one and a profile from this one on add up to that of all rounds, state by state
abbrev pub ProfilesAddUp : Type 0
ProfilesAddUp =
    (minds : Minds) (seed : ℕ) (w : World) (rounds from : ℕ) (colour : Colour) (state : ℕ) → 1 ≤ from
    → from ≤ rounds + 1 →
    let before = executed_in_rounds minds seed w (from - 1) 0 in
    let later = executed_in_rounds minds seed w rounds from in
    let whole = executed_in_rounds minds seed w rounds 0 in
    (times_of before colour state + times_of later colour state ≡ times_of whole colour state)
    × (met_of before colour state + met_of later colour state ≡ met_of whole colour state)

-- what is seen of all turns of the rounds from `from` on
unfoldable pub seen_in_rounds : Minds → ℕ → World → ℕ → ℕ → List Seen
seen_in_rounds minds seed w rounds from =
    told_in_rounds (from_round from (seen minds seed)) minds seed (start_of w) rounds

-- whether a turn is one of a colour's ant in a state, and whether its answer is also the first
abbrev pub is_in : Colour → ℕ → Seen → Bool
is_in colour state it = same_colour it.ant.colour colour && (it.ant.state == state)

abbrev pub is_met_in : Colour → ℕ → Seen → Bool
is_met_in colour state it = is_in colour state it && it.met

-- the lines of what every ant executes are those of these turns, one for each; and these turns, counted by colour,
-- state and answer, are the counts of a profile
pub record LinesAreCounted (minds : Minds) (seed : ℕ) (w : World) (rounds from : ℕ) : Type 0 where
  pub lines : report_lines (act_lines None) from minds seed w rounds
      ≡ map act_line (seen_in_rounds minds seed w rounds from)
  pub times : (colour : Colour) (state : ℕ)
      → length (filter (is_in colour state) (seen_in_rounds minds seed w rounds from))
      ≡ times_of (executed_in_rounds minds seed w rounds from) colour state
  pub met : (colour : Colour) (state : ℕ)
      → length (filter (is_met_in colour state) (seen_in_rounds minds seed w rounds from))
      ≡ met_of (executed_in_rounds minds seed w rounds from) colour state

abbrev pub ActsAreCounted : Type 0
ActsAreCounted = (minds : Minds) (seed : ℕ) (w : World) (rounds from : ℕ) → LinesAreCounted minds seed w rounds from

-- from round 0 on and without food, the text of events is that of the deaths and scores of all turns, by ids
abbrev pub AllEventsById : Type 0
AllEventsById =
    (minds : Minds) (seed : ℕ) (w : World) (rounds : ℕ)
    → report_text (event_lines false) 0 minds seed w rounds ≡ events_text minds seed w rounds

-- the line of a cell is in the dump of a world, after some of its lines and before others
pub record StandsInDump (w : World) (round : ℕ) (line : List ℕ) : Type 0 where
  pub before : List ℕ
  pub behind : List ℕ
  pub whole : dump_text w round ≡ before ++ (line ++ behind)

-- the line of a living ant is the number of the round and a line of the dump of that round, that of the ant's cell
abbrev pub LinesAreOfDumps : Type 0
LinesAreOfDumps = (w : World) (round id : ℕ) (p : Pos) → place_in w id ≡ Some p →
    (way_line round w (place_in w id)
    ≡ codes "round " +++ decimal round +++ codes ": " +++ cell_line p.x p.y (w.cells p))
    × StandsInDump w round (cell_line p.x p.y (w.cells p))
