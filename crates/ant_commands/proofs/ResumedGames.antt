-- Games are saved and continued.
use Rattle.std.proofs.Common.{◌≡◌, ℕ, ◌+◌, ◌≤◌, List, [], ◌∷◌, ◌++◌, length, Ok, Option, Some, refl, sym, ◌∙◌, ap, subst, arith, append_assoc}
use Rattle.std.specs.List.{AllByRecursion}
use Rattle.ant_base.specs.Fetched.{Fetched}
use Rattle.ant_base.specs.Layout.{◌+++◌}
use Rattle.ant_base.specs.Shelf.{longest}
use Rattle.brain_read.specs.declared.instr.Instr.{Instr}
use Rattle.brain_read.specs.declared.instr.Instr.TheVariants.{Flip}
use Rattle.brain_read.specs.Forms.{HasBound, InstrLine, IsInRange}
use Rattle.brain_read.specs.Grammar.{AreLines, IsBrainText}
use Rattle.brain_read.proofs.SoundnessLemmas.{brain_of}
use Rattle.cell_world.specs.Grid.{world_of}
use Rattle.ant_commands.specs.Setups.{RunSetup, SetupWithin}
use Rattle.dump_print.specs.Texts.{seed_text}
use Rattle.line_tokens.specs.TokenLines.{TokenLine, lines_with_tokens}
use Rattle.line_tokens.proofs.LinesByTokens.{by_lines}
use Rattle.match_run.specs.Counts.{whole_text}
use Rattle.match_run.specs.Run.{dumps_text}
use Rattle.match_save.proofs.AfterRounds.{games_are_advanced, games_are_saved}
use Rattle.match_save.proofs.ResumedGames.{saves_go_on}
use Rattle.match_save.proofs.SaveVerdicts.{every_verdict}
use Rattle.match_save.proofs.TextLength.{saves_are_short}
use Rattle.match_save.specs.Advanced.{advanced}
use Rattle.match_save.specs.Resumed.{IsOfGame, resumed_text}
use Rattle.match_save.specs.Saved.{IsSaveText, IsSaved, SavedValue, save_text}
use Rattle.match_save.specs.Saves.{Starts, saved_after}
use Rattle.world_read.specs.Opened.{OpensAs}
use Rattle.ant_commands.specs.Files.{AreAccepted, Reads}
use Rattle.ant_commands.specs.Files.FileContent.{SaveContent}
use Rattle.ant_commands.specs.Files.FileKind.{SaveFile}
use Rattle.ant_commands.specs.Outputs.{ReadGame, Tells, advance_output, chosen_rounds, game_contents, game_files, is_text_of, match_output, minds_named, resume_output, save_contents, save_output}
use Rattle.ant_commands.specs.Job.{files_of}
use Rattle.ant_commands.specs.Verdict.{IsJudged}
use Rattle.ant_commands.specs.Verdict.FilesVerdict.{AllAccepted}
use Rattle.ant_commands.specs.Jobs.{resume_job}
use Rattle.ant_commands.proofs.ReadContents.{read_game, read_save}
use Rattle.ant_commands.specs.Laws.{IsGameOf, IsSavedAs, SavesAreResumed, front_output, resumed_setup, saved_setup}

-- the bounds of a brain that was read are at most the largest
bound : (instruction : Instr) → IsInRange instruction → HasBound instruction
bound (Flip b m u) range = range.1
bound instruction range = tt

bounds : (lines : List TokenLine) (list : List Instr) → AreLines lines list → AllByRecursion HasBound list
bounds lines [] are = tt
bounds [] (i ∷ list) are = absurd are
bounds (line ∷ lines) (i ∷ list) are = (bound i are.0.in_range, bounds lines list are.1)

-- a game within the limits whose files were accepted
record Begins (setup : RunSetup) (game : ReadGame) : Type 0 where
  within : SetupWithin setup
  world_bytes : List ℕ
  red_bytes : List ℕ
  black_bytes : List ℕ
  opens : OpensAs world_bytes game.world
  is_red : IsBrainText red_bytes game.red
  is_black : IsBrainText black_bytes game.black

-- it starts as games do that can be saved
starts : (setup : RunSetup) (game : ReadGame) (round : ℕ) → Begins setup game → round ≤ setup.rounds → Starts (minds_named setup game.red game.black) setup.seed setup.window round game.world
starts setup game round is early = record {
  kinds = is.opens.kinds;
  plan = is.opens.is.plan;
  opened = is.opens.opened;
  sound = record { red = brain_of is.red_bytes game.red is.is_red; black = brain_of is.black_bytes game.black is.is_black; corpse = is.within.corpse.1 };
  red_bounds = bounds (lines_with_tokens is.red_bytes) game.red (by_lines InstrLine is.red_bytes game.red is.is_red.lines);
  black_bounds = bounds (lines_with_tokens is.black_bytes) game.black (by_lines InstrLine is.black_bytes game.black is.is_black.lines);
  seed_low = is.within.seed.1;
  few = is.within.surround.0;
  many = is.within.surround.1;
  rest = is.within.rest.1;
  some = is.within.window.0;
  sized = is.within.window.1;
  short = (let r = is.within.rounds.1 in omega (arith, r, early));
}

module _ (setup : RunSetup) (game : ReadGame) (round : ℕ) (is : Begins setup game) (early : round ≤ setup.rounds) where
  -- the save after a round
  kept : SavedValue
  kept = saved_after (minds_named setup game.red game.black) setup.seed setup.window (world_of game.world) round

  kept-saved : IsSaved (saved_after (minds_named setup game.red game.black) setup.seed setup.window (world_of game.world) round)
  kept-saved = (games_are_saved (minds_named setup game.red game.black) setup.seed setup.window round game.world (starts setup game round is early)).0

  kept-of : IsOfGame (saved_after (minds_named setup game.red game.black) setup.seed setup.window (world_of game.world) round) (world_of game.world)
  kept-of = (games_are_saved (minds_named setup game.red game.black) setup.seed setup.window round game.world (starts setup game round is early)).1

  kept-text : (workers : ℕ) (text : List ℕ) → text ≡ save_output (saved_setup setup round workers) game
      → IsSaveText text (saved_after (minds_named setup game.red game.black) setup.seed setup.window (world_of game.world) round)
  unfolding save_output
  kept-text workers text told = record { saved = kept-saved; is = told }

  accept : (workers : ℕ) (text : List ℕ) → text ≡ save_output (saved_setup setup round workers) game
      → (saved : SavedValue) × Reads (SaveFile setup.rounds) text (SaveContent saved)
  unfolding saved_after
  accept workers text told = (saved_after (minds_named setup game.red game.black) setup.seed setup.window (world_of game.world) round, (kept-text workers text told, early))

  -- the rest of the save is the rest of the run
  follow : whole_text (minds_named setup game.red game.black) setup.seed setup.rounds (chosen_rounds setup.dumps) setup.window setup.stats (world_of game.world)
      ≡ seed_text setup.seed +++ dumps_text (minds_named setup game.red game.black) setup.seed (chosen_rounds setup.dumps) (world_of game.world) (round + 1)
      +++ resumed_text (saved_after (minds_named setup game.red game.black) setup.seed setup.window (world_of game.world) round) setup.rounds (chosen_rounds setup.dumps) setup.stats
  unfolding saved_after
  follow = saves_go_on (saved_after (minds_named setup game.red game.black) setup.seed setup.window (world_of game.world) round) (world_of game.world) setup.rounds (chosen_rounds setup.dumps) setup.stats kept-of early

  joined : (workers others : ℕ) (saved : List ℕ) (found : SavedValue) (text rest : List ℕ) → saved ≡ save_output (saved_setup setup round workers) game
      → IsSaveText saved found → text ≡ match_output setup game → rest ≡ resume_output (resumed_setup setup others) found
      → text ≡ front_output setup round game ++ rest
  unfolding match_output resume_output front_output
  joined workers others saved found text rest told is_found is_text is_rest =
      let front : List ℕ = dumps_text (minds_named setup game.red game.black) setup.seed (chosen_rounds setup.dumps) (world_of game.world) (round + 1) in
      let one : saved_after (minds_named setup game.red game.black) setup.seed setup.window (world_of game.world) round ≡ found =
      every_verdict.one_save saved (saved_after (minds_named setup game.red game.black) setup.seed setup.window (world_of game.world) round) found (kept-text workers saved told) is_found in
      is_text ∙ follow
      ∙ ap (λ (s : SavedValue). seed_text setup.seed +++ front +++ resumed_text s setup.rounds (chosen_rounds setup.dumps) setup.stats) one
      ∙ ap (λ (t : List ℕ). seed_text setup.seed +++ front +++ t) (sym is_rest)
      ∙ sym (append_assoc (seed_text setup.seed) front rest)

  -- if the save is advanced, it is the save after the later round
  again : (workers others later : ℕ) (saved : List ℕ) (found : SavedValue) (text : List ℕ) → round ≤ later → later ≤ setup.rounds
      → saved ≡ save_output (saved_setup setup round workers) game → IsSaveText saved found → text ≡ advance_output later found
      → text ≡ save_output (saved_setup setup later others) game
  unfolding save_output advance_output
  again workers others later saved found text ordered within told is_found is_text =
      let one : saved_after (minds_named setup game.red game.black) setup.seed setup.window (world_of game.world) round ≡ found =
      every_verdict.one_save saved (saved_after (minds_named setup game.red game.black) setup.seed setup.window (world_of game.world) round) found (kept-text workers saved told) is_found in
      is_text
      ∙ ap (λ (s : SavedValue). save_text (advanced s later)) (sym one)
      ∙ ap save_text (games_are_advanced.game (minds_named setup game.red game.black) setup.seed setup.window round later game.world (starts setup game later is within) ordered)

-- the game of accepted files
begins : (world red black : List ℕ) (setup : RunSetup) (game : ReadGame) (fetches : List Fetched) → SetupWithin setup → AreAccepted (game_files world red black) fetches (game_contents game) → Begins setup game
begins world red black setup game [] within are = absurd are
begins world red black setup game (a ∷ []) within are = absurd are.1
begins world red black setup game (a ∷ b ∷ []) within are = absurd are.1.1
begins world red black setup game (a ∷ b ∷ c ∷ fetches) within are = record {
  within = within;
  world_bytes = are.0.bytes;
  red_bytes = are.1.0.bytes;
  black_bytes = are.1.1.0.bytes;
  opens = are.0.reads;
  is_red = are.1.0.reads;
  is_black = are.1.1.0.reads;
}

-- the text of a game's files, and of a save's
game_told : (world red black : List ℕ) (text_of : ReadGame → List ℕ) (game : ReadGame) (text : List ℕ) → Tells game_contents (is_text_of text_of) (game_contents game) text → text ≡ text_of game
game_told world red black text_of game text is = is.told ∙ ap text_of ((read_game world red black).one is.value game (sym is.read))

save_told : (text_of : SavedValue → List ℕ) (saved : SavedValue) (text : List ℕ) → Tells save_contents (is_text_of text_of) (save_contents saved) text → text ≡ text_of saved
save_told text_of saved text is = is.told ∙ ap text_of ((read_save [] 0).one is.value saved (sym is.read))

goes_on : (world red black : List ℕ) (setup : RunSetup) (game : ReadGame) (round others : ℕ) (saved : SavedValue) (text rest : List ℕ) → IsGameOf world red black setup game
    → IsSavedAs world red black setup game round saved → text ≡ match_output setup game → rest ≡ resume_output (resumed_setup setup others) saved
    → text ≡ front_output setup round game ++ rest
goes_on world red black setup game round others saved text rest is kept is_text is_rest =
    joined setup game round (begins world red black setup game is.fetches is.within is.accepted) kept.early kept.workers others kept.text saved text rest
    (game_told world red black (save_output (saved_setup setup round kept.workers)) game kept.text kept.is_text) kept.reads.0 is_text is_rest

-- what was saved is accepted
accepted : (world red black : List ℕ) (setup : RunSetup) (game : ReadGame) (round workers : ℕ) (text : List ℕ) → IsGameOf world red black setup game → round ≤ setup.rounds
    → text ≡ save_output (saved_setup setup round workers) game → (saved : SavedValue) × Reads (SaveFile setup.rounds) text (SaveContent saved)
accepted world red black setup game round workers text is early told = accept setup game round (begins world red black setup game is.fetches is.within is.accepted) early workers text told

-- the save is short enough for a file
short : (world red black : List ℕ) (setup : RunSetup) (game : ReadGame) (round workers : ℕ) (text : List ℕ) → IsGameOf world red black setup game → round ≤ setup.rounds
    → text ≡ save_output (saved_setup setup round workers) game → length text ≤ longest
unfolding save_output
short world red black setup game round workers text is early told =
    subst (λ (t : List ℕ). length t ≤ longest) (sym told)
    (saves_are_short (saved_after (minds_named setup game.red game.black) setup.seed setup.window (world_of game.world) round)
    (kept-saved setup game round (begins world red black setup game is.fetches is.within is.accepted) early))

-- so if a shelf has the save, it returns it, and it is accepted
fetched : (world red black save : List ℕ) (setup : RunSetup) (game : ReadGame) (round workers others : ℕ) (text : List ℕ) (at : List ℕ → Option (List ℕ)) → IsGameOf world red black setup game
    → round ≤ setup.rounds → text ≡ save_output (saved_setup setup round workers) game → at save ≡ Some text
    → (saved : SavedValue) × IsJudged at (files_of (resume_job save (resumed_setup setup others))) (AllAccepted (SaveContent saved ∷ []))
fetched world red black save setup game round workers others text at is early told there =
    let read = accepted world red black setup game round workers text is early told in (
      read.0,
      record {
        fetches = record { name = save; answer = Ok text } ∷ [];
        told = ((there, short world red black setup game round workers text is early told), tt);
        judged = (record { bytes = text; got = refl; reads = read.1 }, (refl, refl));
      },
    )

pub saves_are_resumed : SavesAreResumed
saves_are_resumed = record {
  accepted = λ world red black setup game round workers text is early told.
      accepted world red black setup game round workers text is early (game_told world red black (save_output (saved_setup setup round workers)) game text told);
  fetched = λ world red black save setup game round workers others text at is early told there.
      fetched world red black save setup game round workers others text at is early (game_told world red black (save_output (saved_setup setup round workers)) game text told) there;
  goes_on = λ world red black save setup game round workers saved text rest is kept is_text is_rest.
      goes_on world red black setup game round workers saved text rest is kept (game_told world red black (match_output setup) game text is_text)
      (save_told (resume_output (resumed_setup setup workers)) saved rest is_rest);
  advanced = λ world red black save setup game round later workers others saved text is kept ordered within is_text. record {
    value = game;
    read = refl;
    told = again setup game round (begins world red black setup game is.fetches is.within is.accepted) kept.early kept.workers others later kept.text saved text ordered within
        (game_told world red black (save_output (saved_setup setup round kept.workers)) game kept.text kept.is_text) kept.reads.0
        (save_told (advance_output later) saved text is_text);
  };
  any_round = λ world red black save other setup game round later workers others saved changed rest last is kept again is_rest is_last.
      sym (goes_on world red black setup game round workers saved (match_output setup game) rest is kept refl (save_told (resume_output (resumed_setup setup workers)) saved rest is_rest))
      ∙ goes_on world red black setup game later others changed (match_output setup game) last is again refl (save_told (resume_output (resumed_setup setup others)) changed last is_last);
}
