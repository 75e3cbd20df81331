-- Each law of saves, used on the save of a game of one ant that turns left: a law that says less, or that asks for
-- more, doesn't give these.
use Rattle.std.proofs.Common.{◌≡◌, inl, inr, ℕ, ◌≤◌, Bool, true, false, [], length, refl, sym, ◌∙◌, subst, arith}
use Rattle.ant_base.specs.Layout.{◌+++◌}
use Rattle.ant_turn.specs.Minds.{Minds, contest_minds}
use Rattle.cell_world.specs.Grid.{Grid, world_of}
use Rattle.cell_world.specs.World.{World}
use Rattle.dump_print.specs.Texts.{seed_text}
use Rattle.match_run.specs.Counts.{whole_text}
use Rattle.match_run.specs.Later.{later_dumps}
use Rattle.match_run.specs.Run.{dumps_text}
use Rattle.match_save.specs.Advanced.{AdvancedSavesGoOn, GamesAreAdvanced, SavesAreAdvanced, advanced}
use Rattle.match_save.specs.Faulty.{IsSaveFault}
use Rattle.match_save.specs.Laws.{EveryTextHasOneVerdict}
use Rattle.match_save.specs.Resumed.{IsOfGame, SavesGoOn, moment_of, resumed_text}
use Rattle.match_save.specs.Saved.{IsSaved, IsSaveText, SavedValue, save_text}
use Rattle.match_save.specs.Saves.{GamesAreSaved, SavesAreShort, Starts, saved_after}
use Rattle.match_save.specs.declared.fault.SaveFault.{SaveFault}
use Rattle.match_save.proofs.AdvancedWorked.{row_advanced, turned_twice}
use Rattle.match_save.proofs.SaveWorked.{saved, turning}

-- the text of the save is that of no other, and has no fault; and a text that is not a save's has one fault
every_text_has_one_verdict_used : EveryTextHasOneVerdict → IsSaved saved →
    ((other : SavedValue) → IsSaveText (save_text saved) other → other ≡ saved)
    × ((fault : SaveFault) → ¬ IsSaveFault (save_text saved) fault)
    × (((other : SavedValue) → ¬ IsSaveText [] other) → (fault : SaveFault) × IsSaveFault [] fault × ((other : SaveFault) → IsSaveFault [] other → other ≡ fault))
every_text_has_one_verdict_used law is =
    let own : IsSaveText (save_text saved) saved = record { saved = is; is = refl } in (
      λ other text. law.one_save (save_text saved) other saved text own,
      λ fault has. law.never_both (save_text saved) saved fault own has,
      λ none. elim (law.some []) [ inl save ↦ absurd (none save.0 save.1) | inr it ↦ (it.0, it.1, λ other has. law.one_fault [] other it.0 has it.1) ],
    )

-- both sides' ants turn left
abbrev turners : Minds
turners = contest_minds turning turning

abbrev all_rounds : ℕ → Bool
all_rounds round = true

-- the text of a game of three rounds is that up to round 1 and then that of the save
saves_go_on_used : SavesGoOn → (w : World) → IsOfGame saved w
    → whole_text turners 12345 3 all_rounds 16384 false w ≡ seed_text 12345 +++ dumps_text turners 12345 all_rounds w 2 +++ resumed_text saved 3 all_rounds false
saves_go_on_used law w is = law saved w 3 all_rounds false is (let early : 1 ≤ 3 = omega arith in early)

-- three rounds of a game can be saved
games_are_saved_used : GamesAreSaved → (grid : Grid) → Starts turners 12345 16384 3 grid
    → IsSaved (saved_after turners 12345 16384 (world_of grid) 3) × IsOfGame (saved_after turners 12345 16384 (world_of grid) 3) (world_of grid)
games_are_saved_used law grid starts = law turners 12345 16384 3 grid starts

saves_are_short_used : SavesAreShort → IsSaved saved → length (save_text saved) ≤ 4194304
saves_are_short_used law is = law saved is

-- the save after round 1, advanced to round 3, is that after round 3: the ant has turned twice
games_are_advanced_used : GamesAreAdvanced →
    ((grid : Grid) → Starts turners 12345 16384 3 grid → advanced (saved_after turners 12345 16384 (world_of grid) 1) 3 ≡ saved_after turners 12345 16384 (world_of grid) 3)
    × ((w : World) → IsOfGame saved w → saved_after turners 12345 16384 w 3 ≡ turned_twice)
games_are_advanced_used law = (
  λ grid starts. law.game turners 12345 16384 1 3 grid starts (let early : 1 ≤ 3 = omega arith in early),
  λ w is. sym (law.of_game saved w 3 is (let early : 1 ≤ 3 = omega arith in early)) ∙ row_advanced,
)

-- by way of round 2 the ant has turned twice as well; at its own round the save is unchanged; and what it is advanced
-- to is a save
saves_are_advanced_used : SavesAreAdvanced → IsSaved saved → (advanced (advanced saved 2) 3 ≡ turned_twice) × (advanced saved 1 ≡ saved) × IsSaved turned_twice
saves_are_advanced_used law is = (
  law.by_steps saved 2 3 is (let early : 1 ≤ 2 = omega arith in early) (let later : 2 ≤ 3 = omega arith in later) ∙ row_advanced,
  law.at_once saved is,
  subst IsSaved row_advanced (law.saved saved 3 is (let early : 1 ≤ 3 = omega arith in early) (let few : 3 ≤ 1000000 = omega arith in few)),
)

-- what is resumed of the save is the dumps up to round 3, and then what is resumed of the one that turned twice; both
-- are of one game
advanced_saves_go_on_used : AdvancedSavesGoOn → IsSaved saved →
    (resumed_text saved 5 all_rounds true ≡ later_dumps turners 12345 all_rounds (moment_of saved) 1 2 +++ resumed_text turned_twice 5 all_rounds true)
    × ((w : World) → IsOfGame saved w → IsOfGame turned_twice w)
advanced_saves_go_on_used law is = (
  subst (λ (s : SavedValue). resumed_text saved 5 all_rounds true ≡ later_dumps turners 12345 all_rounds (moment_of saved) 1 2 +++ resumed_text s 5 all_rounds true) row_advanced
      (law.text saved 3 5 all_rounds true is (let early : 1 ≤ 3 = omega arith in early) (let later : 3 ≤ 5 = omega arith in later)),
  λ w of_game. subst (λ (s : SavedValue). IsOfGame s w) row_advanced (law.game saved w 3 is of_game (let early : 1 ≤ 3 = omega arith in early)),
)
