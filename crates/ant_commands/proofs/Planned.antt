-- The text and the save of a game by its plan are those by its words. And the outcome of a game that was played.
use Rattle.std.proofs.Common.{◌≡◌, ℕ, Bool, List, refl, ◌∙◌, ap, subst, Result, None}
use Rattle.std.specs.Prelude.{IsErrAnd}
use Rattle.ant_base.specs.Shelf.{ShelfState}
use Rattle.ant_base.specs.Sink.{PushedAll, SinkState}
use Rattle.ant_turn.specs.Minds.{Minds}
use Rattle.ant_turn.specs.Sheet.{Sheet}
use Rattle.cell_world.specs.Grid.{world_of}
use Rattle.ant_commands.specs.Jobs.{run_job}
use Rattle.ant_commands.specs.Setups.{RunSetup}
use Rattle.ant_base.specs.declared.push_fault.PushFault.{PushFault}
use Rattle.match_run.specs.Counts.{whole_text}
use Rattle.match_run.specs.Dumps.{chooses}
use Rattle.match_run.specs.Play.{StoppedBy}
use Rattle.match_save.specs.Saved.{save_text}
use Rattle.match_save.specs.Saves.{saved_after}
use Rattle.ant_commands.specs.declared.commands.run.PlannedGame.{PlannedGame}
use Rattle.ant_commands.specs.declared.commands.game.Setting.{Setting}
use Rattle.ant_commands.specs.declared.stop.CommandStop.{CommandStop}
use Rattle.ant_commands.specs.Inner.Plans.{Plans, game_read, minds_in, setting_contents, stop_of, text_in}
use Rattle.ant_commands.specs.Inner.Reading.{CarriesOut, ReadsFiles, ending_of}
use Rattle.ant_commands.specs.Inner.Reading.ReadOutcome.{Contents}
use Rattle.ant_commands.specs.Outputs.{ReadGame, Tells, chosen_rounds, game_contents, game_files, is_text_of, match_output, minds_named, save_output}
use Rattle.ant_commands.proofs.Readings.{carries_done, carries_fault}

-- the text of a game's files is the text of what they were read as
pub tells : (setting : Setting) (text_of : ReadGame → List ℕ) → Tells game_contents (is_text_of text_of) (setting_contents setting) (text_of (game_read setting))
tells setting text_of = record { value = game_read setting; read = refl; told = refl }

module _ (setup : RunSetup) (game : PlannedGame) (setting : Setting) (plans : Plans setup game) where
  by_sheet : Sheet → Minds
  by_sheet sheet = record { red = setting.red; black = setting.black; sheet = sheet }

  named : Minds
  named = minds_named setup setting.red setting.black

  -- the text of a game
  output_planned : text_in setting game ≡ match_output setup (game_read setting)
  unfolding match_output by_sheet named
  output_planned =
      ap (λ sheet. whole_text (by_sheet sheet) game.plan.seed game.plan.rounds (chooses game.plan.dumps) game.plan.window game.plan.stats (world_of setting.world)) plans.sheet_is
      ∙ ap (λ (seed : ℕ). whole_text named seed game.plan.rounds (chooses game.plan.dumps) game.plan.window game.plan.stats (world_of setting.world)) plans.seed_is
      ∙ ap (λ (rounds : ℕ). whole_text named setup.seed rounds (chooses game.plan.dumps) game.plan.window game.plan.stats (world_of setting.world)) plans.rounds_are
      ∙ ap (λ chosen. whole_text named setup.seed setup.rounds chosen game.plan.window game.plan.stats (world_of setting.world)) plans.dumps_are
      ∙ ap (λ (window : ℕ). whole_text named setup.seed setup.rounds (chosen_rounds setup.dumps) window game.plan.stats (world_of setting.world)) plans.window_is
      ∙ ap (λ (stats : Bool). whole_text named setup.seed setup.rounds (chosen_rounds setup.dumps) setup.window stats (world_of setting.world)) plans.stats_are

  -- the save of a game
  pub saved_planned : save_text (saved_after (minds_in setting game) game.plan.seed game.plan.window (world_of setting.world) game.plan.rounds)
      ≡ save_output setup (game_read setting)
  unfolding save_output by_sheet named
  saved_planned =
      ap (λ sheet. save_text (saved_after (by_sheet sheet) game.plan.seed game.plan.window (world_of setting.world) game.plan.rounds)) plans.sheet_is
      ∙ ap (λ (seed : ℕ). save_text (saved_after named seed game.plan.window (world_of setting.world) game.plan.rounds)) plans.seed_is
      ∙ ap (λ (window : ℕ). save_text (saved_after named setup.seed window (world_of setting.world) game.plan.rounds)) plans.window_is
      ∙ ap (λ (rounds : ℕ). save_text (saved_after named setup.seed setup.window (world_of setting.world) rounds)) plans.rounds_are

  module _ (world red black : List ℕ) (shelf new_shelf : ShelfState) (out new_out : SinkState) (reads : ReadsFiles shelf new_shelf (game_files world red black) (Contents (setting_contents setting))) where
    -- its files were read, and its whole text was written
    pub carries_game : PushedAll out new_out (text_in setting game) → CarriesOut (run_job world red black setup) shelf new_shelf out new_out None
    carries_game pushed =
        carries_done (run_job world red black setup) shelf new_shelf out new_out (setting_contents setting) reads
        (match_output setup (game_read setting)) (tells setting (match_output setup))
        (subst (PushedAll out new_out) output_planned pushed)

    -- its files were read, and its play stopped
    pub carries_game_stopped : {U : Type 0} (result : Result U CommandStop) (fault : PushFault) → IsErrAnd result (λ other. other ≡ stop_of fault) → StoppedBy out new_out (text_in setting game) fault
        → CarriesOut (run_job world red black setup) shelf new_shelf out new_out (ending_of result)
    carries_game_stopped result fault same pushed =
        carries_fault (run_job world red black setup) shelf new_shelf out new_out (setting_contents setting) result fault same reads
        (match_output setup (game_read setting)) (tells setting (match_output setup))
        (subst (λ text. StoppedBy out new_out text fault) output_planned pushed) (λ front. tt)
