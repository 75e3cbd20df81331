-- Each law of the commands, used on closed command lines. A law that says less, or that requires more, doesn't give
-- these.
use Rattle.std.proofs.Common.{◌≡◌, ◌≢◌, inl, inr, ℕ, zero, suc, ◌+◌, ◌<◌, ◌≤◌, Bool, true, false, List, [], ◌∷◌, ◌++◌, Option, Some, None, Ok, Err, codes, cond, nat_le, slice_get, unwrap_or, refl, sym, ap, ◌∙◌, subst, arith}
use Rattle.std.proofs.lemmas.Bool.{lt-leb}
use Rattle.std.specs.List.{Contains}
use Rattle.ant_asm.specs.Assembled.{IsAssembled}
use Rattle.ant_asm.specs.Match.{label_game, numbered_moment}
use Rattle.ant_asm.specs.Places.{Address}
use Rattle.ant_asm.specs.Program.{Items}
use Rattle.ant_base.specs.Faults.{Rose}
use Rattle.ant_base.specs.Fetched.{Fetched}
use Rattle.ant_base.specs.Layout.{◌+++◌}
use Rattle.ant_base.specs.Lines.{ends_in_lf}
use Rattle.ant_base.specs.Number.{decimal_value}
use Rattle.ant_base.specs.Shelf.{FetchesEach}
use Rattle.ant_base.specs.Sink.{NothingWaits, PushedAll, PushedFront}
use Rattle.ant_turn.specs.Minds.{AreSound, Minds}
use Rattle.ant_turn.specs.Renumber.{renumbered_moment, with_mind}
use Rattle.ant_turn.specs.Rounds.{start_of}
use Rattle.brain_minimise.specs.Match.{game}
use Rattle.brain_minimise.specs.Minimised.{IsMinimised, new_number}
use Rattle.brain_read.specs.Grammar.{IsBrainText}
use Rattle.brain_read.specs.declared.instr.Instr.{Instr}
use Rattle.brain_read.specs.declared.instr.Instr.TheVariants.{Drop}
use Rattle.cell_world.specs.Grid.{Grid, world_of}
use Rattle.cell_world.specs.Opening.{opening}
use Rattle.cell_world.specs.Score.{score_of}
use Rattle.cell_world.specs.Valid.{Valid}
use Rattle.cell_world.specs.declared.ant.Colour.TheVariants.{Red}
use Rattle.cell_world.specs.declared.kind.Kind.{Kind}
use Rattle.command_words.proofs.ReadLemmas.{read-accepts, read-none, read-refuses}
use Rattle.command_words.proofs.WordLaws.{one_refused_word, within_limits}
use Rattle.command_words.proofs.WorkedLines.{words_of}
use Rattle.command_words.specs.Command.{AskedWithin, PlainAsked, asked_in, is_among, rest_after}
use Rattle.command_words.specs.Inner.Walk.{choice_of, command_kind_of, read_of}
use Rattle.command_words.specs.Slots.{dumps_of, is_dumps, is_file_name}
use Rattle.command_words.specs.Slots.DumpChoice.{EveryDump, NoDump}
use Rattle.command_words.specs.declared.table.Choice.{Choice}
use Rattle.command_words.specs.declared.table.Choice.TheVariants.{Far, Workers}
use Rattle.command_words.specs.declared.table.CommandKind.{CommandKind}
use Rattle.command_words.specs.declared.table.CommandKind.TheVariants.{Advance, Asm, Run, Version}
use Rattle.command_words.specs.declared.table.NameList.{NameList}
use Rattle.command_words.specs.declared.table.NameList.TheVariants.{Brains, Worlds}
use Rattle.dump_print.specs.Texts.{score_text, seed_text}
use Rattle.match_run.specs.Counts.{counts_text, totals_of}
use Rattle.match_run.specs.Run.{dumps_text, run_text, world_after}
use Rattle.match_save.proofs.SaveWorked.{saved}
use Rattle.match_save.specs.Saved.{SavedValue}
use Rattle.world_read.specs.Opened.{OpensAs}
use Rattle.ant_commands.specs.FaultLines.{fault_line, word_line}
use Rattle.ant_commands.specs.FaultLines.Reason.{AtFile, AtMemory, AtOutput}
use Rattle.ant_commands.specs.Files.{AreAccepted, File, FileContent, Reads}
use Rattle.ant_commands.specs.Files.FileContent.{BrainContent, SaveContent}
use Rattle.ant_commands.specs.Files.FileKind.{BrainFile, SaveFile}
use Rattle.ant_commands.specs.Headline.{Headline, NamesTheWord}
use Rattle.ant_commands.specs.Help.{version_text}
use Rattle.ant_commands.specs.Job.{Job, IsJobText, files_of}
use Rattle.ant_commands.specs.Jobs.{advance_job, asm_job, job_of, resume_job, run_job, save_job, version_job}
use Rattle.ant_commands.specs.Laws.{AreAlikeButForWorkers, AssembledAndMinimised, CupGamesAreRuns, HasOutput, IsGameOf, IsSavedAs, OneText, SavesAreResumed, TextsEndInLf, WindowsChangeCountsAlone, WorkersChangeNothing, front_output, saved_setup}
use Rattle.ant_commands.specs.Outputs.{ReadGame, advance_output, chosen_rounds, game_contents, match_output, minds_named, save_contents, score_between}
use Rattle.ant_commands.specs.Outside.{Outside}
use Rattle.ant_commands.specs.Run.{GotLine, IsRunTo}
use Rattle.ant_commands.specs.RunPromise.{IsRunOf, RunAsked, RunPromise, RunShelf, RefusedWords, fetch}
use Rattle.ant_commands.specs.Setups.{RunSetup}
use Rattle.ant_commands.specs.Verdict.{FilesVerdict, IsJudged, JudgesOnce}
use Rattle.ant_commands.specs.Verdict.FilesVerdict.{AllAccepted}
use Rattle.ant_commands.proofs.RunWorked.{reordered, two_rounds}
use Rattle.ant_commands.proofs.WorkedJobs.{advance_told, later_save}

-- two command lines of one game: it is played by one worker, or by sixteen that stay ready
abbrev one_worker : PlainAsked
one_worker = asked_in Run (words_of (codes "run w r b --seed 1 --rounds 2 --workers 1"))

abbrev sixteen_far : PlainAsked
sixteen_far = asked_in Run (words_of (codes "run w r b --seed 1 --rounds 2 --workers 16 --far"))

-- beyond the three files of a game no word has a place
no_place : (words : List (List ℕ)) (place : ℕ) → 2 < place → unwrap_or (cond (nat_le (place + 1) 3) (slice_get words (place + 1)) None) [] ≡ []
no_place words place beyond = ap (λ (inside : Bool). unwrap_or (cond inside (slice_get words (place + 1)) None) []) (lt-leb (place + 1) 3 (omega arith))

alike_file : (place : ℕ) → one_worker.file place ≡ sixteen_far.file place
alike_file zero = refl
alike_file (suc zero) = refl
alike_file (suc (suc zero)) = refl
alike_file (suc (suc (suc place))) =
    no_place (words_of (codes "run w r b --seed 1 --rounds 2 --workers 1")) (suc (suc (suc place))) (omega arith)
    ∙ sym (no_place (words_of (codes "run w r b --seed 1 --rounds 2 --workers 16 --far")) (suc (suc (suc place))) (omega arith))

alike_number : (place : ℕ) → one_worker.number place ≡ sixteen_far.number place
alike_number zero = refl
alike_number (suc zero) = refl
alike_number (suc (suc zero)) = refl
alike_number (suc (suc (suc place))) = refl

alike_names : (list : NameList) → one_worker.names list ≡ sixteen_far.names list
unfolding rest_after is_file_name
alike_names Worlds = refl
alike_names Brains = refl

alike_option : (choice : Choice) → choice ≢ Workers → one_worker.option choice ≡ sixteen_far.option choice
unfolding rest_after decimal_value
alike_option Workers other = absurd (other refl)
alike_option choice other = refl

alike_has : (choice : Choice) → choice ≢ Workers → choice ≢ Far → one_worker.has choice ≡ sixteen_far.has choice
unfolding is_among
alike_has Far other apart = absurd (apart refl)
alike_has choice other apart = refl

-- they are alike, so the premise of the law can be met
pub alike : AreAlikeButForWorkers one_worker sixteen_far
unfolding rest_after dumps_of
alike = record {
  kind = refl;
  file = alike_file;
  number = λ place other. alike_number place;
  names = alike_names;
  option = alike_option;
  dumps = refl;
  has = alike_has;
}

workers_change_nothing_used : WorkersChangeNothing → (files_of (job_of one_worker) ≡ files_of (job_of sixteen_far))
    × ((contents : List FileContent) (text : List ℕ) → IsJobText (job_of one_worker) contents text → IsJobText (job_of sixteen_far) contents text)
workers_change_nothing_used law = (law.files one_worker sixteen_far alike, law.text one_worker sixteen_far alike)

-- a game with all its dumps and no counts
abbrev uncounted : ℕ → RunSetup
uncounted window = record { seed = 7; rounds = 5; dumps = EveryDump; workers = 4; window = window; surround = 6; corpse = 2; rest = 1; stats = false; far = false }

windows_change_counts_alone_used : WindowsChangeCountsAlone → (contents : List FileContent) (text : List ℕ)
    → IsJobText (run_job (codes "w") (codes "r") (codes "b") (uncounted 3)) contents text → IsJobText (run_job (codes "w") (codes "r") (codes "b") (uncounted 16384)) contents text
windows_change_counts_alone_used law contents text = law (codes "w") (codes "r") (codes "b") (uncounted 3) 16384 contents text refl

-- a game by the contest's rules without dumps and counts, and two brains
abbrev plain : RunSetup
plain = record { seed = 7; rounds = 5; dumps = NoDump; workers = 4; window = 3; surround = 5; corpse = 3; rest = 14; stats = false; far = false }

abbrev two_brains : List (List Instr)
two_brains = (Drop 0 ∷ []) ∷ (Drop 1 ∷ Drop 0 ∷ []) ∷ []

cup_games_are_runs_used : CupGamesAreRuns → (world : Grid)
    → match_output plain (record { world = world; red = Drop 1 ∷ Drop 0 ∷ []; black = Drop 0 ∷ [] }) ≡ seed_text 7 +++ score_text (score_between (world ∷ []) two_brains 7 5 0 1 0)
cup_games_are_runs_used law world = law (world ∷ []) two_brains (record { first = 6; count = 2 }) plain 1 1 0 refl refl refl refl

-- the save of a game, two rounds later
abbrev advance_asked_later : PlainAsked
advance_asked_later = asked_in Advance (words_of (codes "advance s --workers 4 --rounds 3"))

one_text_used : OneText → (text : List ℕ) → IsJobText (advance_job (codes "s") 3 4) (save_contents saved) text → text ≡ later_save
unfolding rest_after decimal_value
one_text_used law text is = law advance_asked_later (save_contents saved) text (advance_output 3 saved) is (record { value = saved; read = refl; told = refl }) ∙ advance_told

-- the words of a line are within the limits, if they are a command
within : (kind : CommandKind) (line : List ℕ) → read_of (words_of line) ≡ Ok (asked_in kind (words_of line)) → AskedWithin (asked_in kind (words_of line))
within kind line read = within_limits (words_of line) (asked_in kind (words_of line)) (read-accepts (words_of line) (asked_in kind (words_of line)) read)

version_within : AskedWithin (asked_in Version (words_of (codes "--version")))
unfolding command_kind_of choice_of is_among rest_after is_file_name is_dumps dumps_of decimal_value
version_within = within Version (codes "--version") refl

has_output_used : HasOutput → (text : List ℕ) × IsJobText version_job [] text
has_output_used law = law (asked_in Version (words_of (codes "--version"))) [] [] version_within (refl, refl) (λ element lacks. lacks)

-- the output of a program's labels or lines
abbrev asm_line : List ℕ → PlainAsked
asm_line line = asked_in Asm (words_of line)

asm_within : AskedWithin (asm_line (codes "asm p")) × AskedWithin (asm_line (codes "asm p --labels")) × AskedWithin (asm_line (codes "asm p --lines --labels"))
unfolding command_kind_of choice_of is_among rest_after is_file_name is_dumps dumps_of decimal_value
asm_within = (within Asm (codes "asm p") refl, within Asm (codes "asm p --labels") refl, within Asm (codes "asm p --lines --labels") refl)

-- each output of the job ends in LF
abbrev EachEndsInLf : Job → Type 0
EachEndsInLf job = (fetches : List Fetched) (contents : List FileContent) (text : List ℕ) → AreAccepted (files_of job) fetches contents → IsJobText job contents text → ends_in_lf text ≡ true

-- the version's line ends in LF, and so does each output of `asm`, except an empty one of `--labels` alone
texts_end_in_lf_used : TextsEndInLf → (ends_in_lf version_text ≡ true) × EachEndsInLf (asm_job (codes "p") false false) × EachEndsInLf (asm_job (codes "p") true true)
    × ((fetches : List Fetched) (contents : List FileContent) (text : List ℕ) → AreAccepted (files_of (asm_job (codes "p") true false)) fetches contents
    → IsJobText (asm_job (codes "p") true false) contents text → text ≢ [] → ends_in_lf text ≡ true)
unfolding is_among
texts_end_in_lf_used law = (
  elim (law (asked_in Version (words_of (codes "--version"))) [] [] version_text version_within (refl, refl) (record { value = tt; read = refl; told = refl })) [
    | inl ends ↦ ends
    | inr none ↦ absurd (let no : ⊥ = (let same = none.is in cc) in no)
  ],
  λ fetches contents text are is. elim (law (asm_line (codes "asm p")) fetches contents text asm_within.0 are is) [
    | inl ends ↦ ends
    | inr none ↦ absurd (let no : ⊥ = (let same : false ≡ true = none.labels in cc) in no)
  ],
  λ fetches contents text are is. elim (law (asm_line (codes "asm p --lines --labels")) fetches contents text asm_within.2 are is) [
    | inl ends ↦ ends
    | inr none ↦ absurd (let no : ⊥ = (let same : true ≡ false = none.no_lines in cc) in no)
  ],
  λ fetches contents text are is some. elim (law (asm_line (codes "asm p --labels")) fetches contents text asm_within.1 are is) [ inl ends ↦ ends | inr none ↦ absurd (some none.empty) ],
)

-- a shelf on which each name has a brain of one instruction
abbrev drop_brain : List ℕ → Option (List ℕ)
drop_brain name = Some (codes "Drop 0")

abbrev brain_file : List File
brain_file = record { name = codes "b"; kind = BrainFile } ∷ []

drop_text : IsBrainText (codes "Drop 0") (Drop 0 ∷ [])
unfolding decimal_value
drop_text = record {
  lines = (record { spelled = (refl, (refl, tt)); in_range = tt }, tt);
  some = (let some : 1 ≤ 1 = omega arith in some);
  few = (let few : 1 ≤ 10000 = omega arith in few);
  states = (((let below : 0 < 1 = omega arith in below), tt), tt);
}

drop_judged : IsJudged drop_brain brain_file (AllAccepted (BrainContent (Drop 0 ∷ []) ∷ []))
drop_judged = record {
  fetches = record { name = codes "b"; answer = Ok (codes "Drop 0") } ∷ [];
  told = ((refl, (let few : 6 ≤ 4194304 = omega arith in few)), tt);
  judged = (record { bytes = codes "Drop 0"; got = refl; reads = drop_text }, (refl, refl));
}

-- one file is judged in this way, and in no other
contents_judge_once_used : JudgesOnce → ((verdict : FilesVerdict) × IsJudged drop_brain brain_file verdict)
    × ((verdict : FilesVerdict) → IsJudged drop_brain brain_file verdict → verdict ≡ AllAccepted (BrainContent (Drop 0 ∷ []) ∷ []))
contents_judge_once_used law =
    let one = law drop_brain brain_file (refl, tt) in
    ((one.verdict, one.judged), λ verdict judged. one.only verdict judged ∙ sym (one.only (AllAccepted (BrainContent (Drop 0 ∷ []) ∷ [])) drop_judged))

-- the words of a game without its number of rounds
abbrev no_rounds_words : List (List ℕ)
no_rounds_words = words_of (codes "run w r b --seed 1")

no_rounds_read : read_of no_rounds_words ≡ Err 7
unfolding command_kind_of choice_of is_among rest_after is_file_name is_dumps dumps_of decimal_value
no_rounds_read = refl

-- their line names word 7, and nothing was fetched or written
at_word_7 : (before after : Outside) → NamesTheWord no_rounds_words before after → (after.shelf ≡ before.shelf) × (after.out ≡ before.out) × GotLine before.err after.err (word_line 7)
at_word_7 before after it = (
  it.kept,
  it.unwritten,
  subst (λ (word : ℕ). GotLine before.err after.err (word_line word)) (one_refused_word no_rounds_words it.word 7 it.refused (read-refuses no_rounds_words 7 no_rounds_read)) it.line,
)

-- the words of a game with all options, and what they say
abbrev all_words : List (List ℕ)
all_words = words_of (codes "run w r b --stats --rest 1 --corpse 2 --surround 6 --window 3 --workers 4 --dump all --rounds 5 --seed 7")

all_read : read_of all_words ≡ Ok (asked_in Run all_words)
unfolding command_kind_of choice_of is_among rest_after is_file_name is_dumps dumps_of decimal_value
all_read = refl

abbrev counted : RunSetup
counted = record { seed = 7; rounds = 5; dumps = EveryDump; workers = 4; window = 3; surround = 6; corpse = 2; rest = 1; stats = true; far = false }

-- what a run of these words prints, and its counts
abbrev played_text : List Instr → List Instr → Grid → List ℕ
played_text red black start =
    seed_text 7
    +++ dumps_text (minds_named counted red black) 7 (chosen_rounds EveryDump) (world_of start) 6
    +++ score_text (score_of (world_after (minds_named counted red black) 7 (world_of start) 5))

abbrev played_counts : List Instr → List Instr → Grid → List ℕ
played_counts red black start = counts_text true (totals_of (minds_named counted red black) 7 3 (start_of (world_of start)) 5)

-- Three files were fetched, which are a world and two brains. The output got the whole text of their game. The errors
-- got nothing.
record Played (before after : Outside) : Type 0 where
  first : List ℕ
  second : List ℕ
  third : List ℕ
  fetched : FetchesEach before.shelf after.shelf (fetch (codes "w") (Ok first) ∷ fetch (codes "r") (Ok second) ∷ fetch (codes "b") (Ok third) ∷ [])
  start : Grid
  red : List Instr
  black : List Instr
  is_world : OpensAs first start
  is_red : IsBrainText second red
  is_black : IsBrainText third black
  written : PushedAll before.out after.out (played_text red black start +++ played_counts red black start)
  flushed : NothingWaits after.out.waiting
  silent : after.err ≡ before.err

headline_played : Headline → (before after : Outside) → IsRunTo all_words before after 0 → Played before after
unfolding is_among rest_after is_file_name is_dumps dumps_of decimal_value
headline_played law before after run =
    let both = (law all_words before after 0 run).game refl (asked_in Run all_words) (read-accepts all_words (asked_in Run all_words) all_read) refl in
    let game = both.0 in record {
      first = game.world_bytes;
      second = game.red_bytes;
      third = game.black_bytes;
      fetched = game.fetched;
      start = game.start;
      red = game.red_brain;
      black = game.black_brain;
      is_world = game.is_world;
      is_red = game.is_red;
      is_black = game.is_black;
      written = subst (λ (counts : List ℕ). PushedAll before.out after.out (played_text game.red_brain game.black_brain game.start +++ counts)) both.1.told game.written;
      flushed = game.flushed;
      silent = game.silent;
    }

-- A run of a whole game prints it. If it says that a file wasn't read, that is so, and nothing was written. If a file
-- is refused, nothing was written either. If the output failed, a prefix was written. If memory ran out, the run says
-- so. It has no other status. Words without a number of rounds are refused at word 7.
headline_used : Headline → (before after : Outside)
    → (IsRunTo all_words before after 0 → Played before after)
    × (IsRunTo all_words before after 3 → (name : List ℕ) × (after.out ≡ before.out) × Rose before.shelf.faults after.shelf.faults × GotLine before.err after.err (fault_line (AtFile name)))
    × (IsRunTo all_words before after 4 → ((text : List ℕ) × PushedFront before.out after.out text) × GotLine before.err after.err (fault_line AtOutput))
    × (IsRunTo all_words before after 5 → after.out ≡ before.out)
    × (IsRunTo all_words before after 6 → GotLine before.err after.err (fault_line AtMemory))
    × (IsRunTo all_words before after 1 → ⊥)
    × (IsRunTo no_rounds_words before after 2 → (after.shelf ≡ before.shelf) × (after.out ≡ before.out) × GotLine before.err after.err (word_line 7))
headline_used law before after = (
  headline_played law before after,
  λ run. let it = (law all_words before after 3 run).not_read refl in (it.0, it.1.stopped.unwritten, it.1.stopped.rose, it.1.line),
  λ run. let it = (law all_words before after 4 run).output_failed refl in ((it.stopped.text, it.stopped.cut), it.line),
  λ run. elim ((law all_words before after 5 run).refused refl) [ inl it ↦ it.2.stopped.unwritten | inr it ↦ it.1.stopped.unwritten ],
  λ run. ((law all_words before after 6 run).out_of_memory refl).line,
  λ run. elim ((law all_words before after 1 run).no_other) [
    | inl e ↦ omega (arith, e)
    | inr (inl e) ↦ omega (arith, e)
    | inr (inr (inl e)) ↦ omega (arith, e)
    | inr (inr (inr (inl e))) ↦ omega (arith, e)
    | inr (inr (inr (inr (inl e)))) ↦ omega (arith, e)
    | inr (inr (inr (inr (inr e)))) ↦ omega (arith, e)
  ],
  λ run. at_word_7 before after ((law no_rounds_words before after 2 run).no_command refl),
)

-- the words of a run without counts, in a different order from the table's, and what they request
abbrev plain_words : List (List ℕ)
plain_words = words_of (codes "run w r b --rest 1 --far --dump 0,10 --rounds 5 --seed 7")

abbrev plain_asked : RunAsked
plain_asked = record { world = codes "w"; red = codes "r"; black = codes "b"; seed = 7; rounds = 5; dumps = two_rounds; sheet = record { surround = 5; corpse = 3; rest = 1 } }

-- the output got the whole text of the game of three files, and the errors got nothing
record PlainPlayed (before after : Outside) : Type 0 where
  first : List ℕ
  second : List ℕ
  third : List ℕ
  fetched : after.shelf.log ≡ before.shelf.log ++ (fetch (codes "w") (Ok first) ∷ fetch (codes "r") (Ok second) ∷ fetch (codes "b") (Ok third) ∷ [])
  grid : Grid
  minds : Minds
  is_world : OpensAs first grid
  is_red : IsBrainText second minds.red
  is_black : IsBrainText third minds.black
  rules : minds.sheet ≡ record { surround = 5; corpse = 3; rest = 1 }
  written : PushedAll before.out after.out (run_text minds 7 5 two_rounds (world_of grid))
  flushed : NothingWaits after.out.waiting
  silent : after.err ≡ before.err

plain_played : RunPromise → (before after : Outside) → IsRunTo plain_words before after 0 → PlainPlayed before after
plain_played law before after run = elim (law.kept plain_words plain_asked reordered before after 0 run) [
  | inl it ↦ let plays = it.1.plays in record {
    first = plays.first;
    second = plays.second;
    third = plays.third;
    fetched = plays.fetched;
    grid = plays.grid;
    minds = plays.minds;
    is_world = plays.is_world;
    is_red = plays.is_red;
    is_black = plays.is_black;
    rules = plays.rules;
    written = plays.written;
    flushed = it.1.flushed;
    silent = it.1.silent;
  }
  | inr (inl three) ↦ absurd (let no : ⊥ = (let same = three.0 in omega (arith, same)) in no)
  | inr (inr (inl four)) ↦ absurd (let no : ⊥ = (let same = four.0 in omega (arith, same)) in no)
  | inr (inr (inr (inl five))) ↦ absurd (let no : ⊥ = (let same = five.0 in omega (arith, same)) in no)
  | inr (inr (inr (inr six))) ↦ absurd (let no : ⊥ = (let same = six.0 in omega (arith, same)) in no)
]

none_among : ¬ Contains [] (codes "--stats")
none_among it = (let no = it.1 in omega (arith, no))

-- At 0 the game was printed. The words request one run. Words that begin with `run`, without `--stats`, request a run
-- if the program printed a text.
run_promise_used : RunPromise →
    ((before after : Outside) → IsRunTo plain_words before after 0 → PlainPlayed before after)
    × ((asked : RunAsked) → IsRunOf plain_words asked → asked ≡ plain_asked)
    × ((before after : Outside) → IsRunTo (codes "run" ∷ []) before after 0 → (asked : RunAsked) × IsRunOf (codes "run" ∷ []) asked)
run_promise_used law = (
  plain_played law,
  λ asked is. law.one plain_words asked plain_asked is reordered,
  λ before after run. law.every [] before after 0 run (λ e. omega (arith, e)) none_among,
)

-- If it says that a file wasn't read, the shelf wasn't sure of the file and failed. Each fetch agrees with what the
-- shelf reports.
run_shelf_used : RunShelf → (before after : Outside) → IsRunTo plain_words before after 3
    → ((name : List ℕ) × (before.shelf.sure name ≡ false) × Rose before.shelf.faults after.shelf.faults) × (fetches : List Fetched) × FetchesEach before.shelf after.shelf fetches
run_shelf_used law before after run =
    let it = law.unread plain_words plain_asked reordered before after run in
    let each = law.each plain_words plain_asked reordered before after 3 run in
    ((it.1, it.3, it.4), each.0, each.1)

plain_read : read_of plain_words ≡ Ok (asked_in Run plain_words)
unfolding command_kind_of choice_of is_among rest_after is_file_name is_dumps dumps_of decimal_value
plain_read = refl

-- words that request a run
abbrev SomeRun : List (List ℕ) → Type 0
SomeRun words = (asked : RunAsked) × IsRunOf words asked

-- words that are refused end with status 2, and what is a run by the table is a run by the definition
refused_words_used : RefusedWords →
    ((before after : Outside) (number : ℕ) → IsRunTo no_rounds_words before after number → (number ≡ 2) × (after.shelf ≡ before.shelf) × (after.out ≡ before.out) × GotLine before.err after.err (word_line 7))
    × SomeRun plain_words
unfolding is_among
refused_words_used law = (
  λ before after number run.
      let it = law.refused no_rounds_words before after number run (read-none no_rounds_words 7 no_rounds_read) in
      let at = at_word_7 before after it.1 in
      (it.0, at.0, at.1, at.2),
  law.accepted plain_words (asked_in Run plain_words) (read-accepts plain_words (asked_in Run plain_words) plain_read) refl refl,
)

-- red plays the same game by a labelled program and by its minimised brain
assembled_and_minimised_used : AssembledAndMinimised → (main : Items) (brain new : List Instr) (list : List Address) (numbers : List (Option ℕ)) → IsAssembled main brain list → IsMinimised brain new numbers
    → (minds : Minds) (kinds : List Kind) → AreSound (with_mind minds Red brain) → Valid (world_of (opening 3 3 kinds))
    → (game (with_mind minds Red new) 7 3 3 kinds 5 ≡ renumbered_moment (new_number numbers) Red (numbered_moment list Red (label_game main Red minds 7 3 3 kinds 5)))
    × (score_of (game (with_mind minds Red new) 7 3 3 kinds 5).world ≡ score_of (label_game main Red minds 7 3 3 kinds 5).world)
assembled_and_minimised_used law main brain new list numbers assembled minimised minds kinds sound valid =
    let it = law main brain new list numbers assembled minimised in
    (it.plays Red minds 7 3 3 kinds 5 sound valid, it.scores Red minds 7 3 3 kinds 5 sound valid)

-- a game with these words was saved after round 2 by one worker; and what `resume` prints of it by sixteen
abbrev IsSave : ReadGame → List ℕ → Type 0
IsSave game text = IsJobText (save_job (codes "w") (codes "r") (codes "b") (saved_setup counted 2 1)) (game_contents game) text

abbrev IsAfter : ReadGame → ℕ → SavedValue → Type 0
IsAfter game round saved = IsSavedAs (codes "w") (codes "r") (codes "b") counted game round saved

abbrev resumed : Job
resumed = resume_job (codes "s") (record { rounds = 5; dumps = EveryDump; workers = 16; stats = true })

-- The save is accepted, from a shelf too. What `resume` prints continues where the save was made. The same holds for a
-- save after round 4, which `advance` makes.
saves_are_resumed_used : SavesAreResumed → (game : ReadGame) → IsGameOf (codes "w") (codes "r") (codes "b") counted game →
    ((text : List ℕ) → IsSave game text → (saved : SavedValue) × Reads (SaveFile 5) text (SaveContent saved))
    × ((text : List ℕ) (at : List ℕ → Option (List ℕ)) → IsSave game text → at (codes "s") ≡ Some text → (saved : SavedValue) × IsJudged at (files_of resumed) (AllAccepted (SaveContent saved ∷ [])))
    × ((saved : SavedValue) (text rest : List ℕ) → IsAfter game 2 saved → IsJobText (run_job (codes "w") (codes "r") (codes "b") counted) (game_contents game) text
    → IsJobText resumed (save_contents saved) rest → text ≡ front_output counted 2 game ++ rest)
    × ((saved : SavedValue) (text : List ℕ) → IsAfter game 2 saved → IsJobText (advance_job (codes "s") 4 1) (save_contents saved) text
    → IsJobText (save_job (codes "w") (codes "r") (codes "b") (saved_setup counted 4 16)) (game_contents game) text)
    × ((saved changed : SavedValue) (rest last : List ℕ) → IsAfter game 2 saved → IsAfter game 4 changed → IsJobText resumed (save_contents saved) rest → IsJobText resumed (save_contents changed) last
    → front_output counted 2 game ++ rest ≡ front_output counted 4 game ++ last)
saves_are_resumed_used law game is = (
  λ text save. law.accepted (codes "w") (codes "r") (codes "b") counted game 2 1 text is (omega arith) save,
  λ text at save there. law.fetched (codes "w") (codes "r") (codes "b") (codes "s") counted game 2 1 16 text at is (omega arith) save there,
  λ saved text rest after played resumes. law.goes_on (codes "w") (codes "r") (codes "b") (codes "s") counted game 2 16 saved text rest is after played resumes,
  λ saved text after advances. law.advanced (codes "w") (codes "r") (codes "b") (codes "s") counted game 2 4 1 16 saved text is after (omega arith) (omega arith) advances,
  λ saved changed rest last early late resumes others. law.any_round (codes "w") (codes "r") (codes "b") (codes "s") (codes "s") counted game 2 4 16 16 saved changed rest last is early late resumes others,
)
