-- What a status says follows from the record that each run meets.
use Rattle.std.proofs.Common.{◌≡◌, inl, inr, ℕ, Bool, List, [], ◌∷◌, Ok, refl, sym, ◌∙◌, ap, subst, arith}
use Rattle.ant_base.specs.Fetched.{Fetched}
use Rattle.ant_base.specs.Shelf.{FetchesEach}
use Rattle.ant_base.specs.Sink.{NothingWaits, PushedAll}
use Rattle.command_words.proofs.WordLaws as words_laws
use Rattle.command_words.specs.Command.{IsCommand, PlainAsked}
use Rattle.ant_commands.specs.Setups.{RunSetup, setup_of}
use Rattle.ant_commands.specs.Jobs.{job_by, job_of, run_job}
use Rattle.command_words.specs.declared.table.CommandKind.{CommandKind}
use Rattle.command_words.specs.declared.table.CommandKind.TheVariants.{Run}
use Rattle.ant_turn.specs.Rounds.{start_of}
use Rattle.cell_world.specs.Grid.{world_of}
use Rattle.dump_print.specs.declared.totals.Totals.{Totals}
use Rattle.match_run.specs.Counts.{counts_text, totals_of, whole_text}
use Rattle.match_run.specs.Run.{dumps_text, run_text}
use Rattle.ant_commands.specs.Files.{AreAccepted, FileContent}
use Rattle.ant_commands.specs.Headline.{Headline, NamesTheReason, NamesTheWord, PrintsItsOutput, PrintsTheGame, TellsItsCounts, KeepsPromise}
use Rattle.ant_commands.specs.Job.{IsJobText}
use Rattle.ant_commands.specs.Outputs.{ReadGame, game_contents, game_files, match_output, minds_named}
use Rattle.ant_commands.specs.Outside.{Outside}
use Rattle.ant_commands.specs.Endings.{IsDone}
use Rattle.ant_commands.specs.Run.{Ends, Reports}
use Rattle.ant_commands.specs.Status.{status_number}
use Rattle.ant_commands.specs.FaultLines.{Ending, Reason, ending_status}
use Rattle.ant_commands.specs.FaultLines.Ending.{Done, RefusedWord, Stopped}
use Rattle.ant_commands.specs.FaultLines.Reason.{AtFile, AtInput, AtMemory, AtOutput, AtRoom}
use Rattle.ant_commands.proofs.JobTexts.{ends}
use Rattle.ant_commands.proofs.TextEnds.{lf_match}

-- a run that ended so
record HasEnded (words : List (List ℕ)) (before after : Outside) (ending : Ending) : Type 0 where
  fetches : List Fetched
  fetched : FetchesEach before.shelf after.shelf fetches
  ends : Ends words before after fetches ending
  reports : Reports before.err after.err ending

printed : (words : List (List ℕ)) (before after : Outside) → HasEnded words before after Done → PrintsItsOutput words before after
printed words before after it = record {
  command = it.ends.command;
  is_command = it.ends.is_command;
  fetches = it.fetches;
  fetched = it.fetched;
  contents = it.ends.done.contents;
  accepted = it.ends.done.accepted;
  text = it.ends.done.text;
  is_text = it.ends.done.is_text;
  written = it.ends.done.written;
  flushed = it.ends.flushed;
  kept = it.ends.kept;
  silent = it.reports;
}

-- the game and its counts
abbrev PrintsAll : List ℕ → List ℕ → List ℕ → RunSetup → Outside → Outside → Type 0
PrintsAll world red black setup before after = (game : PrintsTheGame world red black setup before after) × TellsItsCounts world red black setup before after game

-- the game of a world and two brains that were accepted
game_of : (world red black : List ℕ) (setup : RunSetup) (before after : Outside) (fetches : List Fetched) (read : ReadGame) (text : List ℕ) → FetchesEach before.shelf after.shelf fetches
    → AreAccepted (game_files world red black) fetches (game_contents read) → text ≡ match_output setup read → PushedAll before.out after.out text
    → NothingWaits after.out.waiting → after.err ≡ before.err → PrintsAll world red black setup before after
unfolding match_output whole_text run_text dumps_text
game_of world red black setup before after [] read text fetched are is written flushed silent = absurd are
game_of world red black setup before after (a ∷ []) read text fetched are is written flushed silent = absurd are.1
game_of world red black setup before after (a ∷ b ∷ []) read text fetched are is written flushed silent = absurd are.1.1
game_of world red black setup before after (a ∷ b ∷ c ∷ fetches) read text fetched are is written flushed silent =
    let x = are.0 in
    let y = are.1.0 in
    let z = are.1.1.0 in
    let got : List ℕ → List ℕ → Fetched = λ name bytes. record { name = name; answer = Ok bytes } in
    let same : a ∷ b ∷ c ∷ fetches ≡ got world x.bytes ∷ got red y.bytes ∷ got black z.bytes ∷ [] =
    ap (λ (f : Fetched). f ∷ b ∷ c ∷ fetches) x.got ∙ ap (λ (f : Fetched). got world x.bytes ∷ f ∷ c ∷ fetches) y.got
    ∙ ap (λ (f : Fetched). got world x.bytes ∷ got red y.bytes ∷ f ∷ fetches) z.got ∙ ap (λ (more : List Fetched). got world x.bytes ∷ got red y.bytes ∷ got black z.bytes ∷ more) are.1.1.1.0 in
    let totals : Totals = totals_of (minds_named setup read.red read.black) setup.seed setup.window (start_of (world_of read.world)) setup.rounds in
    let game : PrintsTheGame world red black setup before after = record {
      world_bytes = x.bytes;
      red_bytes = y.bytes;
      black_bytes = z.bytes;
      fetched = subst (FetchesEach before.shelf after.shelf) same fetched;
      start = read.world;
      is_world = x.reads;
      red_brain = read.red;
      is_red = y.reads;
      black_brain = read.black;
      is_black = z.reads;
      counts = counts_text setup.stats totals;
      uncounted = λ off. ap (λ (stats : Bool). counts_text stats totals) off;
      written = subst (PushedAll before.out after.out) is written;
      flushed = flushed;
      silent = silent;
    } in
    (game, record { told = refl })

game_done : (world red black : List ℕ) (setup : RunSetup) (before after : Outside) (fetches : List Fetched) (contents : List FileContent) (text : List ℕ) → FetchesEach before.shelf after.shelf fetches
    → AreAccepted (game_files world red black) fetches contents → IsJobText (run_job world red black setup) contents text → PushedAll before.out after.out text
    → after.err ≡ before.err → PrintsAll world red black setup before after
game_done world red black setup before after fetches contents text fetched are is written silent =
    game_of world red black setup before after fetches is.value text fetched (subst (AreAccepted (game_files world red black) fetches) is.read are) is.told written
    (written.flushed (ends is.told (lf_match setup is.value))) silent

game : (words : List (List ℕ)) (before after : Outside) → HasEnded words before after Done → (asked : PlainAsked) → IsCommand words asked → asked.kind ≡ Run
    → PrintsAll (asked.file 0) (asked.file 1) (asked.file 2) (setup_of asked) before after
game words before after it asked is kind =
    let done : IsDone (run_job (asked.file 0) (asked.file 1) (asked.file 2) (setup_of asked)) before after it.fetches =
    subst (λ (k : CommandKind). IsDone (job_by k asked) before after it.fetches) kind
    (subst (λ (command : PlainAsked). IsDone (job_of command) before after it.fetches) (words_laws.one_command words it.ends.command asked it.ends.is_command is) it.ends.done) in
    game_done (asked.file 0) (asked.file 1) (asked.file 2) (setup_of asked) before after it.fetches done.contents done.text it.fetched done.accepted done.is_text done.written it.reports

no_command : (words : List (List ℕ)) (before after : Outside) (word : ℕ) → HasEnded words before after (RefusedWord word) → NamesTheWord words before after
no_command words before after word it = record {
  none = λ command is. words_laws.never_both words command word is it.ends.refused;
  word = word;
  refused = it.ends.refused;
  kept = it.ends.kept;
  unwritten = it.ends.unwritten;
  line = it.reports;
}

stopped : (words : List (List ℕ)) (before after : Outside) (reason : Reason) → HasEnded words before after (Stopped reason) → NamesTheReason words before after reason
stopped words before after reason it = record {
  command = it.ends.command;
  is_command = it.ends.is_command;
  fetches = it.fetches;
  fetched = it.fetched;
  stopped = it.ends.stopped;
  line = it.reports;
}

-- one number is not another
never : {P : Type 0} (number a b : ℕ) → number ≡ a → number ≡ b → (a ≡ b → ⊥) → P
never number a b one two apart = absurd (apart (sym one ∙ two))

-- what an ending says, by its number
by_ending : (words : List (List ℕ)) (before after : Outside) (number : ℕ) (ending : Ending) → HasEnded words before after ending → number ≡ status_number (ending_status ending) → KeepsPromise words before after number
by_ending words before after number Done it is = record {
  printed = λ n. printed words before after it;
  game = λ n. game words before after it;
  no_command = λ n. never number 0 2 is n (λ same. omega arith);
  not_read = λ n. never number 0 3 is n (λ same. omega arith);
  output_failed = λ n. never number 0 4 is n (λ same. omega arith);
  refused = λ n. never number 0 5 is n (λ same. omega arith);
  out_of_memory = λ n. never number 0 6 is n (λ same. omega arith);
  no_other = inl is;
}
by_ending words before after number (RefusedWord word) it is = record {
  printed = λ n. never number 2 0 is n (λ same. omega arith);
  game = λ n. never number 2 0 is n (λ same. omega arith);
  no_command = λ n. no_command words before after word it;
  not_read = λ n. never number 2 3 is n (λ same. omega arith);
  output_failed = λ n. never number 2 4 is n (λ same. omega arith);
  refused = λ n. never number 2 5 is n (λ same. omega arith);
  out_of_memory = λ n. never number 2 6 is n (λ same. omega arith);
  no_other = inr (inl is);
}
by_ending words before after number (Stopped (AtFile name)) it is = record {
  printed = λ n. never number 3 0 is n (λ same. omega arith);
  game = λ n. never number 3 0 is n (λ same. omega arith);
  no_command = λ n. never number 3 2 is n (λ same. omega arith);
  not_read = λ n. (name, stopped words before after (AtFile name) it);
  output_failed = λ n. never number 3 4 is n (λ same. omega arith);
  refused = λ n. never number 3 5 is n (λ same. omega arith);
  out_of_memory = λ n. never number 3 6 is n (λ same. omega arith);
  no_other = inr (inr (inl is));
}
by_ending words before after number (Stopped AtOutput) it is = record {
  printed = λ n. never number 4 0 is n (λ same. omega arith);
  game = λ n. never number 4 0 is n (λ same. omega arith);
  no_command = λ n. never number 4 2 is n (λ same. omega arith);
  not_read = λ n. never number 4 3 is n (λ same. omega arith);
  output_failed = λ n. stopped words before after AtOutput it;
  refused = λ n. never number 4 5 is n (λ same. omega arith);
  out_of_memory = λ n. never number 4 6 is n (λ same. omega arith);
  no_other = inr (inr (inr (inl is)));
}
by_ending words before after number (Stopped (AtInput name fault)) it is = record {
  printed = λ n. never number 5 0 is n (λ same. omega arith);
  game = λ n. never number 5 0 is n (λ same. omega arith);
  no_command = λ n. never number 5 2 is n (λ same. omega arith);
  not_read = λ n. never number 5 3 is n (λ same. omega arith);
  output_failed = λ n. never number 5 4 is n (λ same. omega arith);
  refused = λ n. inl (name, fault, stopped words before after (AtInput name fault) it);
  out_of_memory = λ n. never number 5 6 is n (λ same. omega arith);
  no_other = inr (inr (inr (inr (inl is))));
}
by_ending words before after number (Stopped (AtRoom element)) it is = record {
  printed = λ n. never number 5 0 is n (λ same. omega arith);
  game = λ n. never number 5 0 is n (λ same. omega arith);
  no_command = λ n. never number 5 2 is n (λ same. omega arith);
  not_read = λ n. never number 5 3 is n (λ same. omega arith);
  output_failed = λ n. never number 5 4 is n (λ same. omega arith);
  refused = λ n. inr (element, stopped words before after (AtRoom element) it);
  out_of_memory = λ n. never number 5 6 is n (λ same. omega arith);
  no_other = inr (inr (inr (inr (inl is))));
}
by_ending words before after number (Stopped AtMemory) it is = record {
  printed = λ n. never number 6 0 is n (λ same. omega arith);
  game = λ n. never number 6 0 is n (λ same. omega arith);
  no_command = λ n. never number 6 2 is n (λ same. omega arith);
  not_read = λ n. never number 6 3 is n (λ same. omega arith);
  output_failed = λ n. never number 6 4 is n (λ same. omega arith);
  refused = λ n. never number 6 5 is n (λ same. omega arith);
  out_of_memory = λ n. stopped words before after AtMemory it;
  no_other = inr (inr (inr (inr (inr is))));
}

pub headline : Headline
headline words before after number it =
    by_ending words before after number it.run.ending (record { fetches = it.run.fetches; fetched = it.run.fetched; ends = it.run.ends; reports = it.run.reports }) (it.is_number ∙ ap status_number it.run.is_status)
