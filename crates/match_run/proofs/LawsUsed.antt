-- Each law of this crate, used: what it says of one game, so that a law that says less is refused here.
use Rattle.std.proofs.Common.{◌≡◌, ℕ, zero, suc, ◌+◌, ◌≤◌, true, false, List, [], ◌∷◌, Some, None, slice_get, inl, inr, codes, refl, sym, subst, ap, ◌∙◌, arith}
use Rattle.std.specs.Fmt.{digits}
use Rattle.std.specs.List.{Contains}
use Rattle.list_lemmas.proofs.Elements.{Contains-cases, Contains-first, Contains-later, Contains-none}
use Rattle.ant_base.specs.Layout.{numbered, ◌+++◌}
use Rattle.ant_random.specs.Stream.{drawn, random_at, state_at}
use Rattle.ant_turn.specs.HillLaws.{hill_cells}
use Rattle.ant_turn.specs.Minds.{AreSound, contest_minds}
use Rattle.ant_turn.specs.Rounds.{Moment, after_round, after_rounds, after_turn, start_of}
use Rattle.ant_turn.specs.Turn.{turn}
use Rattle.ant_turn.proofs.FitLemmas.{Fits-opening}
use Rattle.brain_read.specs.declared.instr.Instr.{Instr}
use Rattle.brain_read.specs.declared.instr.Instr.TheVariants.{Drop, Flip, Move}
use Rattle.brain_read.specs.Soundness.{IsBrain, IsSound}
use Rattle.cell_world.specs.Cell.{rock}
use Rattle.cell_world.specs.Grid.{Grid, IsWorld, cell_in, world_of}
use Rattle.cell_world.specs.Opening.{floor, opening}
use Rattle.cell_world.specs.Score.{score_of, hill_food_of}
use Rattle.cell_world.specs.World.{place_in, put_cell}
use Rattle.cell_world.proofs.OpeningWorked.{IsPlan-one_hill, one_hill}
use Rattle.cell_world.proofs.OpeningValid.{IsWorld-opening}
use Rattle.cell_world.proofs.Plans.{IsPlan-test}
use Rattle.dump_print.specs.declared.totals.Totals.{Totals}
use Rattle.dump_print.specs.Content.{content_text}
use Rattle.dump_print.specs.Texts.{cell_line, row_text, cells_text, dump_text, score_text, seed_text, stats_text}
use Rattle.hex_geometry.specs.Position.{same_pos}
use Rattle.round_book.specs.Book.{FieldValue, field_moment}
use Rattle.spec_record.proofs.LooksWorked.{field, kinds, minds}
use Rattle.match_run.specs.declared.dumps.Dumps.TheVariants.{Nothing, All}
use Rattle.match_run.specs.CountLaws.{BrokenRoundsGoOn, CountsComeLast, SingleTurnWindowsAreTaken, RoundsGoOn, TotalsAddUp, WholeRounds}
use Rattle.match_run.specs.Counts.{both, round_totals, totals_of, whole_text}
use Rattle.match_run.specs.Dumps.{chooses, has_round}
use Rattle.match_run.specs.Game.{GameValue, GoesOnFor, IsRoundPlayed, IsRoundRefused, beginning, now_of}
use Rattle.match_run.specs.GameLaws.{AreRounds, GamesFollowTheRules, GamesGoOnByRounds, GamesKeepTheirHills}
use Rattle.match_run.specs.Later.{RunsGoOn, later_dumps, later_text, plain_later_text}
use Rattle.match_run.specs.Run.{dumps_text, run_text, world_after}
use Rattle.match_run.specs.RunLaws.{AllDumps, GamesGoOn, LaterAddsNothing, NoDumps, RepeatAddsNothing, SameRounds}
use Rattle.match_run.proofs.RunWorked.{flipping, laden_at_home, nobody, stone, text_of_two_rounds}

-- the text of two rounds of one rocky cell, of which the start and the last one are dumped
abbrev start_and_end : List ℕ
start_and_end =
    codes "random seed: 12345\n"
    +++ codes "\nAfter round 0...\ncell (0, 0): rock\n"
    +++ codes "\nAfter round 2...\ncell (0, 0): rock\n"
    +++ codes "\nscore: red 0 black 0\n"

all_dumps_used : AllDumps → run_text nobody 12345 1 (chooses All) stone ≡
    codes "random seed: 12345\n"
    +++ codes "\nAfter round 0...\ncell (0, 0): rock\n"
    +++ codes "\nAfter round 1...\ncell (0, 0): rock\n"
    +++ codes "\nscore: red 0 black 0\n"
unfolding world_after numbered seed_text dump_text cells_text row_text cell_line content_text rock score_text score_of hill_food_of after_round digits
all_dumps_used law = law nobody 12345 1 stone

no_dumps_used : NoDumps → run_text nobody 12345 2 (chooses Nothing) stone ≡ codes "random seed: 12345\n" +++ codes "\nscore: red 0 black 0\n"
unfolding world_after seed_text rock score_text score_of hill_food_of after_round digits
no_dumps_used law = law nobody 12345 2 stone

-- a list in another order, with a round once instead of twice, and with one that isn't played
same_rounds_used : SameRounds → run_text nobody 12345 2 (has_round (0 ∷ 2 ∷ 7 ∷ [])) stone ≡ start_and_end
same_rounds_used law = law nobody 12345 2 stone (0 ∷ 2 ∷ 7 ∷ []) (2 ∷ 0 ∷ 2 ∷ []) there back ∙ text_of_two_rounds
  where
    there : (round : ℕ) → round ≤ 2 → Contains (0 ∷ 2 ∷ 7 ∷ []) round → Contains (2 ∷ 0 ∷ 2 ∷ []) round
    there round early has = elim (Contains-cases 0 round (2 ∷ 7 ∷ []) has) [
      | inl is ↦ subst (Contains (2 ∷ 0 ∷ 2 ∷ [])) is (Contains-later 2 0 (0 ∷ 2 ∷ []) (Contains-first 0 (2 ∷ [])))
      | inr more ↦ elim (Contains-cases 2 round (7 ∷ []) more) [
        | inl is ↦ subst (Contains (2 ∷ 0 ∷ 2 ∷ [])) is (Contains-first 2 (0 ∷ 2 ∷ []))
        | inr last ↦ elim (Contains-cases 7 round [] last) [
          | inl is ↦ absurd (omega (arith, is, early))
          | inr none ↦ absurd (Contains-none round none)
        ]
      ]
    ]

    back : (round : ℕ) → round ≤ 2 → Contains (2 ∷ 0 ∷ 2 ∷ []) round → Contains (0 ∷ 2 ∷ 7 ∷ []) round
    back round early has = elim (Contains-cases 2 round (0 ∷ 2 ∷ []) has) [
      | inl is ↦ subst (Contains (0 ∷ 2 ∷ 7 ∷ [])) is (Contains-later 0 2 (2 ∷ 7 ∷ []) (Contains-first 2 (7 ∷ [])))
      | inr more ↦ elim (Contains-cases 0 round (2 ∷ []) more) [
        | inl is ↦ subst (Contains (0 ∷ 2 ∷ 7 ∷ [])) is (Contains-first 0 (2 ∷ 7 ∷ []))
        | inr last ↦ elim (Contains-cases 2 round [] last) [
          | inl is ↦ subst (Contains (0 ∷ 2 ∷ 7 ∷ [])) is (Contains-later 0 2 (2 ∷ 7 ∷ []) (Contains-first 2 (7 ∷ [])))
          | inr none ↦ absurd (Contains-none round none)
        ]
      ]
    ]

-- the text with round 2 twice is known
repeat_adds_nothing_used : RepeatAddsNothing → run_text nobody 12345 2 (has_round (2 ∷ 0 ∷ [])) stone ≡ start_and_end
repeat_adds_nothing_used law = sym (law nobody 12345 2 stone (2 ∷ 0 ∷ []) 2 (Contains-first 2 (0 ∷ []))) ∙ text_of_two_rounds

later_adds_nothing_used : LaterAddsNothing → run_text nobody 12345 2 (has_round (2 ∷ 0 ∷ 2 ∷ 3 ∷ [])) stone ≡ start_and_end
later_adds_nothing_used law = law nobody 12345 2 stone (2 ∷ 0 ∷ 2 ∷ []) 3 (omega arith) ∙ text_of_two_rounds

-- an ant drops its food on its hill in the first of two rounds
goes_on_used : GamesGoOn → score_of (world_after (contest_minds (Drop 0 ∷ []) (Drop 0 ∷ [])) 12345 laden_at_home 2) ≡ record { red = 1; black = 0 }
unfolding after_round after_turn turn place_in cell_in opening floor rock put_cell same_pos score_of hill_food_of
goes_on_used law = law (contest_minds (Drop 0 ∷ []) (Drop 0 ∷ [])) 12345 laden_at_home 1 1

-- two rounds of the flipping ant draw two numbers
two_drawn : (after_rounds flipping 12345 (start_of (world_of (opening 3 3 one_hill))) 2).place ≡ 2
unfolding after_round after_turn turn place_in cell_in opening floor rock put_cell same_pos drawn random_at state_at
two_drawn = refl

rounds_go_on_used : RoundsGoOn
    → ((after_rounds flipping 12345 (after_rounds flipping 12345 (start_of (world_of (opening 3 3 one_hill))) 1) 1).place ≡ 2)
    × (both (totals_of minds 12345 3 (start_of field) 1) (totals_of minds 12345 3 (after_rounds minds 12345 (start_of field) 1) 1) ≡ totals_of minds 12345 3 (start_of field) 2)
rounds_go_on_used law = (ap (λ (m : Moment). m.place) (law.moment flipping 12345 (start_of (world_of (opening 3 3 one_hill))) 1 1) ∙ two_drawn, law.totals minds 12345 3 (start_of field) 1 1)

-- seven ids have fourteen turns in two rounds
totals_add_up_used : TotalsAddUp → ((totals_of minds 12345 3 (start_of field) 2).turns ≡ 14)
    × ((totals_of minds 12345 3 (start_of field) 2).taken + (totals_of minds 12345 3 (start_of field) 2).redone ≡ 14)
unfolding opening
totals_add_up_used law =
    let turns = law.turns minds 12345 3 (start_of field) 2 (omega arith) in
    (turns, law.each minds 12345 3 (start_of field) 2 ∙ turns)

-- a brain of one instruction whose states are its own
pub one_brain : (instruction : Instr) → IsSound 1 instruction → IsBrain (instruction ∷ [])
one_brain instruction own = record { some = omega arith; few = omega arith; sound = lone }
  where
    lone : (i : ℕ) (one : Instr) → slice_get (instruction ∷ []) i ≡ Some one → IsSound 1 one
    lone zero one is = let same : instruction ≡ one = (let e : Some instruction ≡ Some one = is in cc) in subst (IsSound 1) same own
    lone (suc i) one is = let never : None ≡ Some one = is in absurd (cc)

single_turn_windows_are_taken_used : SingleTurnWindowsAreTaken → totals_of minds 12345 1 (start_of field) 2 ≡ record { turns = 14; taken = 14; redone = 0 }
unfolding opening
single_turn_windows_are_taken_used law =
    law minds 12345 (start_of field) 2
    (record { red = one_brain (Flip 2 0 0) (omega arith, omega arith, omega arith); black = one_brain (Move 0 0) (omega arith, omega arith); corpse = omega arith })
    (IsWorld-opening 7 6 kinds (IsPlan-test 7 6 kinds refl)).valid (Fits-opening 7 6 kinds minds (omega arith) (omega arith)) (omega arith)

none_counted : start_and_end +++ stats_text (totals_of nobody 12345 3 (start_of stone) 2) ≡ start_and_end +++ codes "turns 0 taken 0 redone 0\n"
unfolding stats_text round_totals after_round digits
none_counted = refl

counts_come_last_used : CountsComeLast → (whole_text nobody 12345 2 (has_round (2 ∷ 0 ∷ 2 ∷ [])) 3 false stone ≡ start_and_end)
    × (whole_text nobody 12345 2 (has_round (2 ∷ 0 ∷ 2 ∷ [])) 3 true stone ≡ start_and_end +++ codes "turns 0 taken 0 redone 0\n")
counts_come_last_used law = (
  law.without nobody 12345 2 (has_round (2 ∷ 0 ∷ 2 ∷ [])) 3 stone ∙ text_of_two_rounds,
  law.with_them nobody 12345 2 (has_round (2 ∷ 0 ∷ 2 ∷ [])) 3 stone ∙ ap (λ (text : List ℕ). text +++ stats_text (totals_of nobody 12345 3 (start_of stone) 2)) text_of_two_rounds ∙ none_counted,
)

-- the first round of a game in windows of three
whole_rounds_used : WholeRounds → (first : FieldValue) (new : GameValue) → IsRoundPlayed (beginning first 3) new
    → (now_of new ≡ after_round first.minds first.seed (field_moment first)) × (new.totals.turns ≡ 0 + (round_totals first.minds first.seed 3 (field_moment first)).turns)
whole_rounds_used law first new played = (law.moment (beginning first 3) new refl played, ap (λ (totals : Totals). totals.turns) (law.totals (beginning first 3) new refl played))

broken_rounds_go_on_used : BrokenRoundsGoOn → (first : FieldValue) (mid new : GameValue) → IsRoundRefused (beginning first 3) mid → IsRoundPlayed mid new → (new.done ≡ 1) × (new.next ≡ 0)
broken_rounds_go_on_used law first mid new refused played =
    let whole = law (beginning first 3) mid new (omega arith) refused played in
    (whole.done, whole.next)

-- the first of three rounds is done, and the second one's dump is left
runs_go_on_used : RunsGoOn → whole_text nobody 12345 3 (has_round (0 ∷ 2 ∷ [])) 3 true stone ≡ start_and_end +++ codes "turns 0 taken 0 redone 0\n"
unfolding seed_text dumps_text later_text plain_later_text later_dumps world_after numbered dump_text cells_text row_text cell_line content_text rock score_text score_of hill_food_of stats_text after_round round_totals digits
runs_go_on_used law = law nobody 12345 3 stone 1 3 (has_round (0 ∷ 2 ∷ [])) true (omega arith)

games_go_on_by_rounds_used : GamesGoOnByRounds → (first : FieldValue) (new : GameValue) → AreRounds 2 (beginning first 3) new
    → (new.done ≡ 2) × (now_of new ≡ after_rounds first.minds first.seed (field_moment first) 2)
games_go_on_by_rounds_used law first new rounds =
    let goes = law (beginning first 3) new 2 (omega arith) refl rounds in
    (goes.done, goes.now)

games_follow_the_rules_used : GamesFollowTheRules → (first : FieldValue) (game : GameValue) → first.place ≡ 0 → AreRounds 2 (beginning first 3) game
    → (world_of game.field.world ≡ world_after first.minds first.seed (world_of first.world) 2) × (game.totals ≡ totals_of first.minds first.seed 3 (start_of (world_of first.world)) 2) × (game.done ≡ 2)
games_follow_the_rules_used law first game early rounds =
    let at = law first 3 2 game (omega arith) early rounds in
    (at.world, at.totals, at.done)

-- one hill cell has one id
games_keep_their_hills_used : GamesKeepTheirHills → (first : FieldValue) (game : GameValue) → AreSound first.minds → first.world ≡ opening 3 3 one_hill → first.place ≡ 0
    → GoesOnFor (beginning first 3) game 2 → IsWorld game.field.world → hill_cells game.field.world.cells ≡ 1
unfolding opening
games_keep_their_hills_used law first game sound is early goes world =
    law 3 3 one_hill first 3 2 game IsPlan-one_hill sound is early goes world ∙ goes.same.ids ∙ ap (λ (g : Grid). g.ids) is
