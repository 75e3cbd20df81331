-- Each command's job: its text ends in LF, there is at most one, and there is one.
use Rattle.std.proofs.Common.{◌*◌, Bool, List, [], ap, ap₂, append-nil, arith, false, inl, inr, length, refl, subst, sym, true, ℕ, ◌++◌, ◌∙◌, ◌∷◌, ◌≡◌, ◌≤◌, ◌⊎◌, ◌||◌}
use Rattle.ant_asm.proofs.HasAssembled.{assembled-some, has_assembled}
use Rattle.ant_asm.proofs.LineInstructions.{line_for_each}
use Rattle.ant_asm.specs.Labels.{labels_text}
use Rattle.ant_asm.specs.Source.{ReadSource}
use Rattle.ant_asm.specs.StateLines.{AreStateLinesOf, StateLine, state_lines_text}
use Rattle.ant_base.specs.Fetched.{Fetched}
use Rattle.ant_base.specs.Lines.{ends_in_lf}
use Rattle.ant_turn.specs.Minds.{contest_minds}
use Rattle.brain_minimise.proofs.HasMinimised.{has_minimised}
use Rattle.brain_minimise.proofs.Uniqueness.{one_minimised}
use Rattle.brain_read.proofs.SoundnessLemmas.{brain_of}
use Rattle.brain_read.specs.declared.instr.Instr.{Instr}
use Rattle.brain_same.proofs.HasComparison.{has_comparison}
use Rattle.brain_same.proofs.SameLaws.{one_comparison}
use Rattle.brain_same.proofs.WayLemmas.{has_way, one_way}
use Rattle.brain_same.specs.Text.{comparison_text, way_text}
use Rattle.break_view.proofs.ViewLaws.{one_first_stop}
use Rattle.break_view.specs.Texts.{view_of}
use Rattle.cell_world.specs.Grid.{Grid, world_of}
use Rattle.ant_commands.specs.Setups.{CupWithin, RunSetup, ShapeWithin, ant_of, report_of, format_of, resume_of, save_setup_of, setup_of, shape_of}
use Rattle.ant_commands.specs.Jobs.{asm_job, brain_job, cup_job, gen_job, help_job, job_by, job_of, minimise_job, same_job, version_job, view_job, workload_job}
use Rattle.ant_commands.specs.declared.commands.setups.GenShape.{GenShape}
use Rattle.match_run.specs.Counts.{whole_text}
use Rattle.tournament.proofs.LawsLemmas.{standing_law}
use Rattle.tournament.proofs.SortedLines.{has_standing}
use Rattle.tournament.specs.Text.{standing_text}
use Rattle.tournament.specs.Printed.{cup_played, games_text}
use Rattle.tournament.specs.declared.format.Format.{Format}
use Rattle.tournament.specs.declared.standing.Line.{Line}
use Rattle.world_gen.proofs.HasWorlds.{has_outcome}
use Rattle.world_gen.proofs.Unique.{one_outcome}
use Rattle.world_gen.specs.Generated.{IsGenerated, IsShape}
use Rattle.world_gen.specs.Placing.{HasNoRoom}
use Rattle.world_gen.specs.declared.shape.Shape.{Shape}
use Rattle.world_read.specs.Canonical.{canonical_text}
use Rattle.world_read.specs.Opened.{kinds_of}
use Rattle.ant_commands.specs.Files.{AreAccepted, File, FileContent}
use Rattle.ant_commands.specs.Help.{help_text, version_text}
use Rattle.ant_commands.specs.Outputs.{IsAsmOutput, IsCupOutput, IsViewOutput, ReadCup, ReadGame, ReadPair, ReadProgram, ReadView, Tells, TellsGenerated, TellsMinimised, TellsSame, TellsWorkload, acts_output, advance_output, brain_contents, brain_file, pair_contents, contest_shape, roster_contents, cup_files, events_output, game_contents, game_files, is_text_of, labelled_file, match_output, minimise_output, profile_output, program_contents, resume_output, save_output, score_in_cup, shape_named, show_output, source_contents, source_text, summary_of, trace_output, workload_text}
use Rattle.ant_commands.specs.Job.{Job, plain_job}
use Rattle.command_words.specs.Command.{AskedWithin, PlainAsked}
use Rattle.command_words.specs.declared.table.CommandKind.{CommandKind}
use Rattle.command_words.specs.declared.table.CommandKind.TheVariants.{Acts, Advance, Asm, Brain, Cup, Events, Gen, Help, HelpWord, Minimise, Profile, Resume, Run, Same, Save, Show, Trace, Version, View, Workload}
use Rattle.command_words.specs.declared.table.Choice.TheVariants.{Seed, Rounds, Workers, From, Labels, Lines, Way, States, Games, Food}
use Rattle.command_words.specs.declared.table.NameList.TheVariants.{Worlds, Brains}
use Rattle.ant_commands.proofs.SetupLemmas.{cup-within, shape-within}
use Rattle.ant_commands.specs.Laws.{HasOutput, OneText, TellsNoLabel, TextsEndInLf, WindowsChangeCountsAlone}
use Rattle.ant_commands.proofs.Cups.{players_counted}
use Rattle.ant_commands.proofs.ReadContents.{IsReading, has_text_of, has_told, one_text_of, one_told, read_brain, read_cup, read_game, read_none, read_pair, read_program, read_save, read_source, read_view, read_world}
use Rattle.ant_commands.proofs.TextEnds.{EndsInLf, lf_acts, lf_advance, lf_brain, lf_canonical, lf_comparison, lf_difference, lf_events, lf_last, lf_help, lf_match, lf_minimised, lf_profile, lf_rest, lf_save, lf_show, lf_standing, lf_state_lines, lf_states, lf_printed, lf_trace, lf_version, lf_view, lf_workload, lines_labels}
use Rattle.ant_commands.proofs.Viewed.{view_of-view}

-- the text of a value ends in LF
pub ends : {text other : List ℕ} → text ≡ other → EndsInLf other → ends_in_lf text ≡ true
ends {text} {other} is last = subst (λ (t : List ℕ). ends_in_lf t ≡ true) (sym is) last.is

-- a brain that was accepted has a state
brain-some : (name : List ℕ) (fetches : List Fetched) (list : List Instr) → AreAccepted (brain_file name ∷ []) fetches (brain_contents list) → 1 ≤ length list
brain-some name [] list are = absurd are
brain-some name (fetch ∷ fetches) list are = (brain_of are.0.bytes list are.0.reads).some

program-some : (name : List ℕ) (fetches : List Fetched) (program : ReadProgram) → AreAccepted (labelled_file false name ∷ []) fetches (program_contents program) → 1 ≤ length program.brain
program-some name [] program are = absurd are
program-some name (fetch ∷ fetches) program are = assembled-some are.0.bytes program.brain program.places are.0.reads

cup-ends : (games : Bool) (worlds brains : List (List ℕ)) (format : Format) (rounds workers : ℕ) (fetches : List Fetched) (cup : ReadCup) (text : List ℕ) → CupWithin worlds brains format rounds workers
    → AreAccepted (cup_files worlds brains) fetches (roster_contents cup) → IsCupOutput games worlds brains format rounds cup text → ends_in_lf text ≡ true
cup-ends false worlds brains format rounds workers fetches cup text within are told =
    let counted = players_counted worlds brains fetches cup.worlds cup.players are in
    let enough : 2 ≤ length brains = within.brain_names.enough in
    let some : 1 ≤ length cup.players = omega (arith, counted, enough) in
    ends told.is (lf_standing format.leads format.gauntlet brains (length cup.players) (length cup.worlds * format.seeds.count) (score_in_cup cup.worlds cup.players format.seeds rounds) told.lines some told.standing)
cup-ends true worlds brains format rounds workers fetches cup text within are told =
    let enough : 2 ≤ length brains = within.brain_names.enough in
    let some : 1 ≤ length brains = omega (arith, enough) in
    (lf_printed format worlds brains (score_in_cup cup.worlds cup.players format.seeds rounds) text some told).is

minimise-ends : (states : Bool) (name : List ℕ) (fetches : List Fetched) (old : List Instr) (text : List ℕ) → AreAccepted (brain_file name ∷ []) fetches (brain_contents old)
    → TellsMinimised states old text → ends_in_lf text ≡ true
minimise-ends false name fetches old text are told = ends told.told (lf_minimised old told.new)
minimise-ends true name fetches old text are told =
    let some = brain-some name fetches old are in
    let each : length told.numbers ≡ length old = told.minimised.each in
    ends told.told (lf_states told.numbers (omega (arith, each, some)))

-- so have the lines of its states
lines-some : (text : List ℕ) (lines : List StateLine) → AreStateLinesOf text lines → 1 ≤ length lines
lines-some text lines are =
    let made = has_assembled text are.main are.is in
    let some = assembled-some text made.0 made.1 (record { main = are.main; is = are.is; assembled = made.2 }) in
    let many = line_for_each.as_many text made.0 made.1 lines (record { main = are.main; is = are.is; assembled = made.2 }) are in
    omega (arith, some, many)

source-some : (name : List ℕ) (fetches : List Fetched) (source : ReadSource) → AreAccepted (labelled_file true name ∷ []) fetches (source_contents source) → 1 ≤ length source.lines
source-some name [] source are = absurd are
source-some name (fetch ∷ fetches) source are = lines-some are.0.bytes source.lines are.0.reads.1

-- what ends with the lines of states
lines-end : (labels : Bool) (file : List ℕ) (fetches : List Fetched) (source : ReadSource) (text : List ℕ) → AreAccepted (labelled_file true file ∷ []) fetches (source_contents source)
    → text ≡ source_text labels true source → ends_in_lf text ≡ true
lines-end labels file fetches source text are told = ends told (lf_last _ (state_lines_text source.lines) (lf_state_lines source.lines (source-some file fetches source are)))

asm-ends : (a : PlainAsked) → a.kind ≡ Asm → (labels lines : Bool) → a.has Labels ≡ labels → a.has Lines ≡ lines → (file : List ℕ) (fetches : List Fetched) (contents : List FileContent) (text : List ℕ)
    → AreAccepted (labelled_file (labels || lines) file ∷ []) fetches contents → IsAsmOutput labels lines contents text → (ends_in_lf text ≡ true) ⊎ TellsNoLabel a text
asm-ends a kind false true off on file fetches contents text are is = inl (lines-end false file fetches is.value text (subst (AreAccepted (labelled_file true file ∷ []) fetches) is.read are) is.told)
asm-ends a kind true true on too file fetches contents text are is = inl (lines-end true file fetches is.value text (subst (AreAccepted (labelled_file true file ∷ []) fetches) is.read are) is.told)
asm-ends a kind false false off none file fetches contents text are is =
    inl (ends is.told (lf_brain is.value.brain (program-some file fetches is.value (subst (AreAccepted (labelled_file false file ∷ []) fetches) is.read are))))
asm-ends a kind true false on off file fetches contents text are is = elim (lines_labels is.value.labels) [
  | inl none ↦ inr (record { is = kind; labels = on; no_lines = off; empty = is.told ∙ append-nil (labels_text is.value.labels) ∙ none })
  | inr last ↦ inl (ends (is.told ∙ append-nil (labels_text is.value.labels)) last)
]

same-ends : (way : Bool) (pair : ReadPair) (text : List ℕ) → TellsSame way pair text → ends_in_lf text ≡ true
same-ends false pair text told = ends told.told (lf_comparison told.comparison)
same-ends true pair text told = ends told.told (lf_difference told.comparison told.steps)

-- one value has one text
one-minimised : (states : Bool) (list : List Instr) (text other : List ℕ) → TellsMinimised states list text → TellsMinimised states list other → text ≡ other
one-minimised states list text other a b =
    let same = one_minimised list a.new b.new a.numbers b.numbers a.minimised b.minimised in
    a.told ∙ ap₂ (minimise_output states list) same.0 same.1 ∙ sym b.told

one-view : (seed rounds from : ℕ) (view : ReadView) (text other : List ℕ) → IsViewOutput seed rounds from view text → IsViewOutput seed rounds from view other → text ≡ other
one-view seed rounds from view text other a b = one_first_stop.one_view (contest_minds view.game.red view.game.black) seed rounds from (world_of view.game.world) view.breaks text other a b

one-cup : (games : Bool) (worlds names : List (List ℕ)) (format : Format) (rounds : ℕ) (cup : ReadCup) (text other : List ℕ) → IsCupOutput games worlds names format rounds cup text → IsCupOutput games worlds names format rounds cup other
    → text ≡ other
one-cup false worlds names format rounds cup text other a b =
    a.is
    ∙ ap (standing_text format.leads names) (standing_law format.gauntlet (length cup.players) (length cup.worlds * format.seeds.count) (score_in_cup cup.worlds cup.players format.seeds rounds) a.lines b.lines a.standing b.standing)
    ∙ sym b.is
one-cup true worlds names format rounds cup text other a b =
    let score = score_in_cup cup.worlds cup.players format.seeds rounds in
    a.is ∙ ap (λ (lines : List Line). games_text format worlds names (cup_played format worlds names score) 1 ++ standing_text format.leads names lines) (standing_law format.gauntlet (length names) (length worlds * format.seeds.count) score a.lines b.lines a.standing b.standing)
    ∙ sym b.is

one-generated : (seed : ℕ) (shape : Shape) (text other : List ℕ) → TellsGenerated seed shape text → TellsGenerated seed shape other → text ≡ other
one-generated seed shape text other a b =
    a.told ∙ ap (λ (w : Grid). canonical_text w.width w.height (kinds_of w)) (one_outcome.world seed shape a.world b.world a.generated b.generated) ∙ sym b.told

one-workload : (seed rounds : ℕ) (text other : List ℕ) → TellsWorkload seed rounds text → TellsWorkload seed rounds other → text ≡ other
one-workload seed rounds text other a b =
    a.told ∙ ap (λ (w : Grid). workload_text seed rounds (summary_of seed rounds (world_of w))) (one_outcome.world seed contest_shape a.world b.world a.generated b.generated) ∙ sym b.told

one-same : (way : Bool) (pair : ReadPair) (text other : List ℕ) → TellsSame way pair text → TellsSame way pair other → text ≡ other
one-same true pair text other a b =
    let same = one_way pair.first pair.second a.comparison b.comparison a.steps b.steps a.is b.is in
    a.told ∙ ap₂ way_text same.0 same.1 ∙ sym b.told
one-same false pair text other a b = a.told ∙ ap comparison_text (one_comparison pair.first pair.second a.comparison b.comparison a.is b.is) ∙ sym b.told

one-asm : (labels lines : Bool) (file : List ℕ) (contents : List FileContent) (text other : List ℕ) → IsAsmOutput labels lines contents text → IsAsmOutput labels lines contents other → text ≡ other
one-asm false false file contents text other a b = one_told (read_program file) contents text other (λ program x y. x ∙ sym y) a b
one-asm false true file contents text other a b = one_text_of (read_source file) (source_text false true) contents text other a b
one-asm true lines file contents text other a b = one_text_of (read_source file) (source_text true lines) contents text other a b

-- each value has a text
has-minimised : (states : Bool) (name : List ℕ) (fetches : List Fetched) (list : List Instr) → AreAccepted (brain_file name ∷ []) fetches (brain_contents list) → (text : List ℕ) × TellsMinimised states list text
has-minimised states name [] list are = absurd are
has-minimised states name (fetch ∷ fetches) list are =
    let minimised = has_minimised list (brain_of are.0.bytes list are.0.reads) in
    (minimise_output states list minimised.0 minimised.1, record { new = minimised.0; numbers = minimised.1; minimised = minimised.2; told = refl })

has-same : (way : Bool) (one two : List ℕ) (fetches : List Fetched) (pair : ReadPair) → AreAccepted (brain_file one ∷ brain_file two ∷ []) fetches (pair_contents pair) → (text : List ℕ) × TellsSame way pair text
has-same way one two [] pair are = absurd are
has-same way one two (first ∷ []) pair are = absurd are.1
has-same true one two (first ∷ second ∷ fetches) pair are =
    let found = has_way pair.first pair.second (brain_of are.0.bytes pair.first are.0.reads) (brain_of are.1.0.bytes pair.second are.1.0.reads) in
    (way_text found.0 found.1, record { comparison = found.0; steps = found.1; is = found.2; told = refl })
has-same false one two (first ∷ second ∷ fetches) pair are =
    let found = has_comparison pair.first pair.second (brain_of are.0.bytes pair.first are.0.reads) (brain_of are.1.0.bytes pair.second are.1.0.reads) in
    (comparison_text found.0, record { comparison = found.0; is = found.1; told = refl })

has-cup : (games : Bool) (worlds names : List (List ℕ)) (format : Format) (rounds : ℕ) (cup : ReadCup) → (text : List ℕ) × IsCupOutput games worlds names format rounds cup text
has-cup false worlds names format rounds cup =
    let standing = has_standing format.gauntlet (length cup.players) (length cup.worlds * format.seeds.count) (score_in_cup cup.worlds cup.players format.seeds rounds) in
    (standing_text format.leads names standing.0, record { lines = standing.0; standing = standing.1; is = refl })
has-cup true worlds names format rounds cup =
    let score = score_in_cup cup.worlds cup.players format.seeds rounds in
    let standing = has_standing format.gauntlet (length names) (length worlds * format.seeds.count) score in
    (games_text format worlds names (cup_played format worlds names score) 1 ++ standing_text format.leads names standing.0, record { lines = standing.0; standing = standing.1; is = refl })

has-view : (seed rounds from : ℕ) (view : ReadView) → (text : List ℕ) × IsViewOutput seed rounds from view text
has-view seed rounds from view =
    let minds = contest_minds view.game.red view.game.black in
    (view_of minds seed rounds from (world_of view.game.world) view.breaks, view_of-view minds seed rounds from (world_of view.game.world) view.breaks)

-- a world whose elements have room
has_world : (seed : ℕ) (shape : Shape) → IsShape shape → ((element : ℕ) → HasNoRoom seed shape element → ⊥) → (world : Grid) × IsGenerated seed shape world
has_world seed shape is room = elim (has_outcome seed shape is) [ inl world ↦ world | inr none ↦ absurd (room none.0 none.1) ]

is_shape_named : (shape : GenShape) → ShapeWithin shape → IsShape (shape_named shape)
is_shape_named shape within = record { wide = within.width.0; narrow = within.width.1; tall = within.height.0; low = within.height.1 }

is_shape_contest : IsShape contest_shape
is_shape_contest = record { wide = omega arith; narrow = omega arith; tall = omega arith; low = omega arith }

has-generated : (seed : ℕ) (shape : Shape) → IsShape shape → ((element : ℕ) → HasNoRoom seed shape element → ⊥) → (text : List ℕ) × TellsGenerated seed shape text
has-generated seed shape is room =
    let world = has_world seed shape is room in
    (canonical_text world.0.width world.0.height (kinds_of world.0), record { world = world.0; generated = world.1; told = refl })

has-workload : (seed rounds : ℕ) → ((element : ℕ) → HasNoRoom seed contest_shape element → ⊥) → (text : List ℕ) × TellsWorkload seed rounds text
has-workload seed rounds room =
    let world = has_world seed contest_shape is_shape_contest room in
    (workload_text seed rounds (summary_of seed rounds (world_of world.0)), record { world = world.0; generated = world.1; told = refl })

has-asm : (labels lines : Bool) (file : List ℕ) (fetches : List Fetched) (contents : List FileContent) → AreAccepted (labelled_file (labels || lines) file ∷ []) fetches contents
    → (text : List ℕ) × IsAsmOutput labels lines contents text
has-asm false false file fetches contents are = has_told (read_program file) fetches contents are (λ program accepted. (_, refl))
has-asm false true file fetches contents are = has_text_of (read_source file) (source_text false true) fetches contents are
has-asm true lines file fetches contents are = has_text_of (read_source file) (source_text true lines) fetches contents are

-- what holds of a command's job, whatever its line says
pub record JobLaws (a : PlainAsked) (job : Job) : Type 0 where
  -- each output ends in LF, or has no label to print
  pub ends : AskedWithin a → (fetches : List Fetched) (contents : List FileContent) (text : List ℕ) → AreAccepted job.files fetches contents → job.IsText contents text
      → (ends_in_lf text ≡ true) ⊎ TellsNoLabel a text
  -- there is at most one
  pub one : (contents : List FileContent) (text other : List ℕ) → job.IsText contents text → job.IsText contents other → text ≡ other
  -- there is one, if each element has room
  pub has : AskedWithin a → (fetches : List Fetched) (contents : List FileContent) → AreAccepted job.files fetches contents → ((element : ℕ) → ¬ job.Lacks element)
      → (text : List ℕ) × job.IsText contents text
  -- if an element has no room, there is no file, and no output
  pub crowded : (element : ℕ) → job.Lacks element → (job.files ≡ []) × ((contents : List FileContent) (text : List ℕ) → job.IsText contents text → ⊥)

-- the laws of a job whose text is a function of what was read; it may write while it plays, and name workers
text_laws : {A : Type 0} {files : List File} {contents_of : A → List FileContent} (a : PlainAsked) (InPlay : List FileContent → List ℕ → Type 0) (workers : ℕ)
    → IsReading files contents_of → (text_of : A → List ℕ) → ((value : A) → EndsInLf (text_of value))
    → JobLaws a (record (plain_job files (Tells contents_of (is_text_of text_of))) { InPlay = InPlay; workers = workers })
text_laws a InPlay workers reading text_of lf = record {
  ends = λ within fetches contents text are is. inl (ends is.told (lf is.value));
  one = λ contents text other x y. one_text_of reading text_of contents text other x y;
  has = λ within fetches contents are room. has_text_of reading text_of fetches contents are;
  crowded = λ element lacks. absurd lacks;
}

brain-laws : (a : PlainAsked) (file : List ℕ) → JobLaws a (brain_job file)
brain-laws a file = record {
  ends = λ within fetches contents text are is. inl (ends is.told (lf_brain is.value (brain-some file fetches is.value (subst (AreAccepted (brain_file file ∷ []) fetches) is.read are))));
  one = λ contents text other x y. one_told (read_brain file) contents text other (λ list p q. p ∙ sym q) x y;
  has = λ within fetches contents are room. has_told (read_brain file) fetches contents are (λ list accepted. (_, refl));
  crowded = λ element lacks. absurd lacks;
}

minimise-laws : (a : PlainAsked) (file : List ℕ) (states : Bool) → JobLaws a (minimise_job file states)
minimise-laws a file states = record {
  ends = λ within fetches contents text are is. inl (minimise-ends states file fetches is.value text (subst (AreAccepted (brain_file file ∷ []) fetches) is.read are) is.told);
  one = λ contents text other x y. one_told (read_brain file) contents text other (λ list. one-minimised states list text other) x y;
  has = λ within fetches contents are room. has_told (read_brain file) fetches contents are (λ list accepted. has-minimised states file fetches list accepted);
  crowded = λ element lacks. absurd lacks;
}

gen-laws : (a : PlainAsked) (seed : ℕ) → JobLaws a (gen_job seed (shape_of a))
gen-laws a seed = record {
  ends = λ within fetches contents text are is. inl (ends is.told.told (lf_canonical is.told.world.width is.told.world.height (kinds_of is.told.world)));
  one = λ contents text other x y. one-generated seed (shape_named (shape_of a)) text other x.told y.told;
  has = λ within fetches contents are room. has_told read_none fetches contents are (λ nothing accepted. has-generated seed (shape_named (shape_of a)) (is_shape_named (shape_of a) (shape-within a within)) room);
  crowded = λ element lacks. (refl, λ contents text is. one_outcome.none seed (shape_named (shape_of a)) is.told.generated.placed element is.told.generated.placing lacks);
}

cup-laws : (a : PlainAsked) → a.kind ≡ Cup → JobLaws a (cup_job (a.names Worlds) (a.names Brains) (format_of a) (a.option Rounds) (a.option Workers) (a.has Games))
cup-laws a kind = record {
  ends = λ within fetches contents text are is. inl (cup-ends (a.has Games) (a.names Worlds) (a.names Brains) (format_of a) (a.option Rounds) (a.option Workers) fetches is.value text (cup-within a kind within) (subst (AreAccepted (cup_files (a.names Worlds) (a.names Brains)) fetches) is.read are) is.told);
  one = λ contents text other x y. one_told (read_cup (a.names Worlds) (a.names Brains)) contents text other (λ cup. one-cup (a.has Games) (a.names Worlds) (a.names Brains) (format_of a) (a.option Rounds) cup text other) x y;
  has = λ within fetches contents are room. has_told (read_cup (a.names Worlds) (a.names Brains)) fetches contents are (λ cup accepted. has-cup (a.has Games) (a.names Worlds) (a.names Brains) (format_of a) (a.option Rounds) cup);
  crowded = λ element lacks. absurd lacks;
}

view-laws : (a : PlainAsked) (world red black : List ℕ) (breaks : List ℕ) (seed rounds from : ℕ) → JobLaws a (view_job world red black breaks seed rounds from)
view-laws a world red black breaks seed rounds from = record {
  ends = λ within fetches contents text are is. inl (ends is.told.view (lf_view is.told.end seed rounds is.told.stop));
  one = λ contents text other x y. one_told (read_view world red black breaks) contents text other (λ view. one-view seed rounds from view text other) x y;
  has = λ within fetches contents are room. has_told (read_view world red black breaks) fetches contents are (λ view accepted. has-view seed rounds from view);
  crowded = λ element lacks. absurd lacks;
}

workload-laws : (a : PlainAsked) (seed rounds workers : ℕ) → JobLaws a (workload_job seed rounds workers)
workload-laws a seed rounds workers = record {
  ends = λ within fetches contents text are is. inl (ends is.told.told (lf_workload seed rounds (summary_of seed rounds (world_of is.told.world))));
  one = λ contents text other x y. one-workload seed rounds text other x.told y.told;
  has = λ within fetches contents are room. has_told read_none fetches contents are (λ nothing accepted. has-workload seed rounds room);
  crowded = λ element lacks. (refl, λ contents text is. one_outcome.none seed contest_shape is.told.generated.placed element is.told.generated.placing lacks);
}

help-laws : (a : PlainAsked) → JobLaws a (help_job)
help-laws a = record {
  ends = λ within fetches contents text are is. inl (ends is.told lf_help);
  one = λ contents text other x y. x.told ∙ sym y.told;
  has = λ within fetches contents are room. has_told read_none fetches contents are (λ nothing accepted. (help_text, refl));
  crowded = λ element lacks. absurd lacks;
}

version-laws : (a : PlainAsked) → JobLaws a (version_job)
version-laws a = record {
  ends = λ within fetches contents text are is. inl (ends is.told lf_version);
  one = λ contents text other x y. x.told ∙ sym y.told;
  has = λ within fetches contents are room. has_told read_none fetches contents are (λ nothing accepted. (version_text, refl));
  crowded = λ element lacks. absurd lacks;
}

asm-laws : (a : PlainAsked) → a.kind ≡ Asm → (file : List ℕ) → JobLaws a (asm_job file (a.has Labels) (a.has Lines))
asm-laws a kind file = record {
  ends = λ within fetches contents text are is. asm-ends a kind (a.has Labels) (a.has Lines) refl refl file fetches contents text are is;
  one = λ contents text other x y. one-asm (a.has Labels) (a.has Lines) file contents text other x y;
  has = λ within fetches contents are room. has-asm (a.has Labels) (a.has Lines) file fetches contents are;
  crowded = λ element lacks. absurd lacks;
}

same-laws : (a : PlainAsked) (first second : List ℕ) (way : Bool) → JobLaws a (same_job first second way)
same-laws a first second way = record {
  ends = λ within fetches contents text are is. inl (same-ends way is.value text is.told);
  one = λ contents text other x y. one_told (read_pair first second) contents text other (λ pair. one-same way pair text other) x y;
  has = λ within fetches contents are room. has_told (read_pair first second) fetches contents are (λ pair accepted. has-same way first second fetches pair accepted);
  crowded = λ element lacks. absurd lacks;
}

-- the files of a game
read_of : (a : PlainAsked) → IsReading (game_files (a.file 0) (a.file 1) (a.file 2)) game_contents
read_of a = read_game (a.file 0) (a.file 1) (a.file 2)

-- the laws of each command, a row a command
laws_by : (kind : CommandKind) (a : PlainAsked) → a.kind ≡ kind → JobLaws a (job_by kind a)
laws_by Show a is = text_laws a _ _ (read_world (a.file 0)) (show_output (a.number 1)) (lf_show (a.number 1))
laws_by Brain a is = brain-laws a (a.file 0)
laws_by Minimise a is = minimise-laws a (a.file 0) (a.has States)
laws_by Run a is = text_laws a _ _ (read_of a) (match_output (setup_of a)) (lf_match (setup_of a))
laws_by Gen a is = gen-laws a (a.number 0)
laws_by Cup a is = cup-laws a is
laws_by View a is = view-laws a (a.file 0) (a.file 1) (a.file 2) (a.file 3) (a.option Seed) (a.option Rounds) (a.option From)
laws_by Workload a is = workload-laws a (a.number 0) (a.number 1) (a.number 2)
laws_by Help a is = help-laws a
laws_by HelpWord a is = help-laws a
laws_by Version a is = version-laws a
laws_by Asm a is = asm-laws a is (a.file 0)
laws_by Save a is = text_laws a _ _ (read_of a) (save_output (save_setup_of a)) (lf_save (save_setup_of a))
laws_by Resume a is = text_laws a _ _ (read_save (a.file 0) (a.option Rounds)) (resume_output (resume_of a)) (lf_rest (resume_of a))
laws_by Trace a is = text_laws a _ _ (read_of a) (trace_output (a.number 3) (report_of a)) (lf_trace (a.number 3) (report_of a))
laws_by Same a is = same-laws a (a.file 0) (a.file 1) (a.has Way)
laws_by Events a is = text_laws a _ _ (read_of a) (events_output (a.has Food) (report_of a)) (lf_events (a.has Food) (report_of a))
laws_by Acts a is = text_laws a _ _ (read_of a) (acts_output (ant_of a) (report_of a)) (lf_acts (ant_of a) (report_of a))
laws_by Profile a is = text_laws a _ _ (read_of a) (profile_output (report_of a)) (lf_profile (report_of a))
laws_by Advance a is = text_laws a _ _ (read_save (a.file 0) (a.option Rounds)) (advance_output (a.option Rounds)) (lf_advance (a.option Rounds))

pub laws_of : (a : PlainAsked) → JobLaws a (job_of a)
laws_of a = laws_by a.kind a refl

pub texts_end_in_lf : TextsEndInLf
texts_end_in_lf a fetches contents text within are is = (laws_of a).ends within fetches contents text are is

pub one_text : OneText
one_text a contents text other x y = (laws_of a).one contents text other x y

pub has_output : HasOutput
has_output a fetches contents within are room = (laws_of a).has within fetches contents are room

-- the text of a game is the same with another setup, if the texts of all games are
other_game : (setup other : RunSetup) (contents : List FileContent) (text : List ℕ) → ((game : ReadGame) → match_output setup game ≡ match_output other game)
    → Tells game_contents (is_text_of (match_output setup)) contents text → Tells game_contents (is_text_of (match_output other)) contents text
other_game setup other contents text same is = record { value = is.value; read = is.read; told = is.told ∙ same is.value }

same_windows : (setup : RunSetup) (window : ℕ) (game : ReadGame) → setup.stats ≡ false → match_output setup game ≡ match_output (record setup { window = window }) game
unfolding match_output whole_text
same_windows setup window game off = rw off refl

pub windows_change_counts_alone : WindowsChangeCountsAlone
windows_change_counts_alone world red black setup window contents text off is = other_game setup (record setup { window = window }) contents text (λ game. same_windows setup window game off) is
