-- Each law of this crate, used: what it says of one game, so that a law that says less is refused here.
use Rattle.std.proofs.Common.{◌≡◌, ℕ, ◌+◌, List, [], ◌∷◌, ◌++◌, None, false, filter, length, map, codes, refl, sym, ◌∙◌, ap, subst, arith}
use Rattle.std.specs.Prelude.{IsSome}
use Rattle.std.specs.Fmt.{digits}
use Rattle.std.specs.List.{Contains}
use Rattle.ant_base.specs.Layout.{◌+++◌}
use Rattle.list_lemmas.proofs.Elements.{Contains-first}
use Rattle.hex_geometry.proofs.Places.{at}
use Rattle.hex_geometry.specs.Direction.{directions, turned_by}
use Rattle.hex_geometry.specs.Neighbourhood.{adjacent_pos, neighbours_of}
use Rattle.hex_geometry.specs.Position.{same_pos}
use Rattle.ant_random.specs.Stream.{drawn, random_at, state_at}
use Rattle.ant_turn.specs.Kills.{check_at, is_surrounded, killed_at, places_around}
use Rattle.ant_turn.specs.Minds.{AreSound, Fits, Minds, contest_minds}
use Rattle.ant_turn.specs.Rounds.{after_round, after_turn}
use Rattle.ant_turn.specs.Turn.{stepped, turn}
use Rattle.ant_turn.proofs.FitLemmas.{Fits-opening}
use Rattle.brain_read.specs.declared.instr.Instr.TheVariants.{Flip, Move}
use Rattle.cell_world.specs.declared.ant.Colour.TheVariants.{Red, Black}
use Rattle.cell_world.specs.Cell.{rock}
use Rattle.cell_world.specs.Grid.{cell_in, world_of}
use Rattle.cell_world.specs.Opening.{floor, opening}
use Rattle.cell_world.specs.Score.{hill_food_of, score_of}
use Rattle.cell_world.specs.Valid.{Valid}
use Rattle.cell_world.specs.World.{World, place_in, put_cell}
use Rattle.cell_world.proofs.OpeningValid.{IsWorld-opening}
use Rattle.cell_world.proofs.OpeningWorked.{one_hill}
use Rattle.cell_world.proofs.Plans.{IsPlan-test}
use Rattle.dump_print.specs.Content.{content_text, standing_ant_text}
use Rattle.dump_print.specs.Texts.{cell_line, dump_text}
use Rattle.match_run.specs.Run.{world_after}
use Rattle.match_run.specs.Seen.{ant_in}
use Rattle.match_run.proofs.LawsUsed.{one_brain}
use Rattle.match_run.proofs.RunWorked.{flipping}
use Rattle.game_reports.specs.declared.executed.Executed.{Executed}
use Rattle.game_reports.specs.Acts.{act_line, act_lines}
use Rattle.game_reports.specs.Events.{deaths_in, event_lines, scores_in}
use Rattle.game_reports.specs.Laws.{ActsAreCounted, AllEventsById, CountsAddUp, DeathsAreTheDead, LastScoreIsTheEnds, LinesAreOfDumps, ProfilesAddUp, acting_turns, all_deaths, all_scores, is_in, is_met_in, last_or, seen_in_rounds, sum_below}
use Rattle.game_reports.specs.Profile.{executed_in, executed_in_rounds, met_of, times_of}
use Rattle.game_reports.specs.Report.{report_lines, report_text}
use Rattle.game_reports.specs.Trace.{way_line}
use Rattle.game_reports.proofs.EventsWorked.{ambush, ambush_told}
use Rattle.game_reports.proofs.FoodWorked.{fetching, lane}

-- the ambush, in which black ant 1 kills red ant 2 in round 1
abbrev start : World
start = world_of (opening 7 6 ambush)

abbrev minds : Minds
minds = contest_minds (Flip 2 0 0 ∷ []) (Move 0 0 ∷ [])

sound : AreSound minds
sound = record { red = one_brain (Flip 2 0 0) (omega arith, omega arith, omega arith); black = one_brain (Move 0 0) (omega arith, omega arith); corpse = omega arith }

valid : Valid start
valid = (IsWorld-opening 7 6 ambush (IsPlan-test 7 6 ambush refl)).valid

fits : Fits start minds
fits = Fits-opening 7 6 ambush minds (omega arith) (omega arith)

-- all ids but the killed one have a turn
acting_told : acting_turns minds 12345 start 1 ≡ 0 ∷ 1 ∷ 3 ∷ 4 ∷ 5 ∷ 6 ∷ []
unfolding acting_turns ant_in after_round after_turn turn stepped check_at is_surrounded killed_at places_around neighbours_of adjacent_pos directions place_in cell_in opening floor rock put_cell same_pos drawn random_at state_at
acting_told = refl

counts_add_up_used : CountsAddUp → sum_below (times_of (executed_in_rounds minds 12345 start 1 0) Red) 1 + sum_below (times_of (executed_in_rounds minds 12345 start 1 0) Black) 1 ≡ 6
counts_add_up_used law = law minds 12345 start 1 sound valid fits ∙ ap length acting_told

-- red ant 2 is reported dead, and is dead
death_told : all_deaths minds 12345 start 1 ≡ 2 ∷ []
unfolding all_deaths deaths_in after_round after_turn turn stepped check_at is_surrounded killed_at places_around neighbours_of adjacent_pos directions place_in cell_in opening floor rock put_cell same_pos drawn random_at state_at
death_told = refl

lived : IsSome (place_in start 2)
unfolding place_in cell_in opening floor rock
lived = refl

deaths_are_the_dead_used : DeathsAreTheDead → (place_in (world_after minds 12345 start 1) 2 ≡ None) × Contains (all_deaths minds 12345 start 1) 2
deaths_are_the_dead_used law =
    let are = law minds 12345 start 1 sound valid fits in
    let dead : place_in (world_after minds 12345 start 1) 2 ≡ None = are.gone 2 (subst (λ (deaths : List ℕ). Contains deaths 2) (sym death_told) (Contains-first 2 [])) in
    (dead, are.all 2 lived dead)

scores_told : all_scores fetching 12345 (world_of (opening 4 3 lane)) 8 ≡ record { red = 1; black = 0 } ∷ record { red = 0; black = 0 } ∷ []
unfolding all_scores scores_in after_round after_turn turn stepped check_at is_surrounded killed_at places_around neighbours_of adjacent_pos directions turned_by place_in cell_in opening floor rock put_cell same_pos score_of hill_food_of
scores_told = refl

first_told : all_scores fetching 12345 (world_of (opening 4 3 lane)) 7 ≡ record { red = 1; black = 0 } ∷ []
unfolding all_scores scores_in after_round after_turn turn stepped check_at is_surrounded killed_at places_around neighbours_of adjacent_pos directions turned_by place_in cell_in opening floor rock put_cell same_pos score_of hill_food_of
first_told = refl

last_score_is_the_ends_used : LastScoreIsTheEnds → (score_of (world_after fetching 12345 (world_of (opening 4 3 lane)) 7) ≡ record { red = 1; black = 0 })
    × (score_of (world_after fetching 12345 (world_of (opening 4 3 lane)) 8) ≡ record { red = 0; black = 0 })
last_score_is_the_ends_used law = (sym (law fetching 12345 4 3 lane 7) ∙ ap (last_or (record { red = 0; black = 0 })) first_told, sym (law fetching 12345 4 3 lane 8) ∙ ap (last_or (record { red = 0; black = 0 })) scores_told)

-- the one ant of a world, on its hill
abbrev alone : World
alone = world_of (opening 3 3 one_hill)

lines_are_of_dumps_used : LinesAreOfDumps →
    (way_line 7 alone (place_in alone 0) ≡ codes "round 7: cell (1, 1): red hill; red ant of id 0, dir 0, food 0, state 0, resting 0\n")
    × ((before : List ℕ) × (behind : List ℕ) × (dump_text alone 7 ≡ before ++ (codes "cell (1, 1): red hill; red ant of id 0, dir 0, food 0, state 0, resting 0\n" ++ behind)))
unfolding digits cell_line content_text standing_ant_text place_in cell_in opening floor rock
lines_are_of_dumps_used law =
    let it = law alone 7 0 (at 1 1) refl in
    (it.0, (it.1.before, it.1.behind, it.1.whole))

-- the profile of that ant in three rounds, whose brain flips twice
abbrev flipped : ℕ → ℕ → List Executed
flipped rounds from = executed_in_rounds flipping 12345 alone rounds from

twice_counted : (times_of (flipped 3 0) Red 1 ≡ 1) × (met_of (flipped 3 0) Red 1 ≡ 1) × (times_of (flipped 3 2) Red 1 ≡ 1) × (met_of (flipped 3 2) Red 1 ≡ 1)
unfolding executed_in_rounds executed_in times_of met_of after_round after_turn turn place_in cell_in opening floor rock put_cell same_pos drawn random_at state_at
twice_counted = (refl, refl, refl, refl)

-- the game is parted before round 2, before all rounds, and after all of them
profiles_add_up_used : ProfilesAddUp →
    ((times_of (flipped 1 0) Red 1 + times_of (flipped 3 2) Red 1 ≡ 1) × (met_of (flipped 1 0) Red 1 + met_of (flipped 3 2) Red 1 ≡ 1))
    × (times_of (flipped 0 0) Red 1 + times_of (flipped 3 1) Red 1 ≡ 1)
    × (met_of (flipped 3 0) Red 1 + met_of (flipped 3 4) Red 1 ≡ 1)
profiles_add_up_used law =
    let second = law flipping 12345 alone 3 2 Red 1 (omega arith) (omega arith) in
    let first = law flipping 12345 alone 3 1 Red 1 (omega arith) (omega arith) in
    let last = law flipping 12345 alone 3 4 Red 1 (omega arith) (omega arith) in
    ((second.0 ∙ twice_counted.0, second.1 ∙ twice_counted.1), first.0 ∙ twice_counted.0, last.1 ∙ twice_counted.1)

acts_are_counted_used : ActsAreCounted → (report_lines (act_lines None) 2 flipping 12345 alone 3 ≡ map act_line (seen_in_rounds flipping 12345 alone 3 2))
    × (length (filter (is_in Red 1) (seen_in_rounds flipping 12345 alone 3 2)) ≡ 1)
    × (length (filter (is_met_in Red 1) (seen_in_rounds flipping 12345 alone 3 2)) ≡ 1)
acts_are_counted_used law =
    let it = law flipping 12345 alone 3 2 in
    (it.lines, it.times Red 1 ∙ twice_counted.2, it.met Red 1 ∙ twice_counted.3)

all_events_by_id_used : AllEventsById → report_text (event_lines false) 0 minds 12345 start 1 ≡
    codes "random seed: 12345\n"
    +++ codes "round 1, black ant 1: red ant 2 dies on (3, 3)\n"
    +++ codes "round 1, black ant 1: score: red 3 black 0\n"
all_events_by_id_used law = law minds 12345 start 1 ∙ ambush_told
