-- The job of each command.
use Rattle.std.specs.Prelude.{ℕ, Bool, ◌||◌, List, [], ◌∷◌, ◌++◌, Option}
use Rattle.brain_read.specs.Canonical.{brain_text}
use Rattle.world_gen.specs.Placing.{HasNoRoom}
use Rattle.command_words.specs.Command.{PlainAsked}
use Rattle.command_words.specs.declared.table.CommandKind.{CommandKind}
use Rattle.command_words.specs.declared.table.CommandKind.TheVariants.{Show, Brain, Minimise, Run, Gen, Cup, View, Workload, Help, HelpWord, Version, Asm, Save, Resume, Trace, Same, Events, Acts, Profile, Advance}
use Rattle.command_words.specs.declared.table.Choice.TheVariants.{Seed, Rounds, Workers, From, Labels, Lines, Way, States, Games, Food}
use Rattle.command_words.specs.declared.table.NameList.TheVariants.{Worlds, Brains}
use Rattle.ant_commands.specs.declared.commands.setups.GenShape.{GenShape}
use Rattle.ant_commands.specs.Help.{help_text, version_text}
use Rattle.ant_commands.specs.Job.{Job, plain_job}
use Rattle.tournament.specs.declared.format.Format.{Format}
use Rattle.ant_commands.specs.Outputs.{CupInPlay, IsAsmOutput, IsCupOutput, IsViewOutput, Tells, TellsGenerated, TellsMinimised, TellsSame, TellsWorkload, acts_output, advance_output, brain_contents, brain_file, break_file, contest_shape, cup_files, events_output, game_contents, game_files, is_text_of, labelled_file, match_output, no_contents, pair_contents, profile_output, resume_output, roster_contents, save_contents, save_file, save_output, shape_named, show_output, trace_output, view_contents, world_contents, world_file}
use Rattle.ant_commands.specs.Setups.{ResumeSetup, RunSetup, ReportSetup, ant_of, format_of, report_of, resume_of, save_setup_of, setup_of, shape_of}

abbrev pub show_job : List ℕ → ℕ → Job
show_job world seed = plain_job (world_file world ∷ []) (Tells world_contents (is_text_of (show_output seed)))

abbrev pub brain_job : List ℕ → Job
brain_job file = plain_job (brain_file file ∷ []) (Tells brain_contents (is_text_of brain_text))

abbrev pub minimise_job : List ℕ → Bool → Job
minimise_job file states = plain_job (brain_file file ∷ []) (Tells brain_contents (TellsMinimised states))

abbrev pub run_job : List ℕ → List ℕ → List ℕ → RunSetup → Job
run_job world red black setup =
    record (plain_job (game_files world red black) (Tells game_contents (is_text_of (match_output setup)))) {
      InPlay = λ contents front. Unit {0};
      workers = setup.workers;
    }

abbrev pub gen_job : ℕ → GenShape → Job
gen_job seed shape =
    record (plain_job [] (Tells no_contents (λ nothing. TellsGenerated seed (shape_named shape)))) {
      Lacks = HasNoRoom seed (shape_named shape);
    }

abbrev pub cup_job : List (List ℕ) → List (List ℕ) → Format → ℕ → ℕ → Bool → Job
cup_job worlds brains format rounds workers games =
    record (plain_job (cup_files worlds brains)
    (Tells roster_contents (IsCupOutput games worlds brains format rounds))) {
      InPlay = CupInPlay games worlds brains format rounds;
    }

abbrev pub view_job : List ℕ → List ℕ → List ℕ → List ℕ → ℕ → ℕ → ℕ → Job
view_job world red black breaks seed rounds from =
    plain_job (game_files world red black ++ break_file breaks ∷ [])
    (Tells view_contents (IsViewOutput seed rounds from))

abbrev pub workload_job : ℕ → ℕ → ℕ → Job
workload_job seed rounds workers =
    record (plain_job [] (Tells no_contents (λ nothing. TellsWorkload seed rounds))) {
      Lacks = HasNoRoom seed contest_shape;
      workers = workers;
    }

abbrev pub help_job : Job
help_job = plain_job [] (Tells no_contents (is_text_of (λ nothing. help_text)))

abbrev pub version_job : Job
version_job = plain_job [] (Tells no_contents (is_text_of (λ nothing. version_text)))

abbrev pub asm_job : List ℕ → Bool → Bool → Job
asm_job file labels lines = plain_job (labelled_file (labels || lines) file ∷ []) (IsAsmOutput labels lines)

abbrev pub save_job : List ℕ → List ℕ → List ℕ → RunSetup → Job
save_job world red black setup =
    record (plain_job (game_files world red black) (Tells game_contents (is_text_of (save_output setup)))) {
      workers = setup.workers;
    }

abbrev pub resume_job : List ℕ → ResumeSetup → Job
resume_job save setup =
    record (plain_job (save_file save setup.rounds ∷ []) (Tells save_contents (is_text_of (resume_output setup)))) {
      InPlay = λ contents front. Unit {0};
      workers = setup.workers;
    }

abbrev pub advance_job : List ℕ → ℕ → ℕ → Job
advance_job save rounds workers = record (plain_job (save_file save rounds ∷ []) (Tells save_contents (is_text_of (advance_output rounds)))) { workers = workers }

abbrev pub trace_job : List ℕ → List ℕ → List ℕ → ℕ → ReportSetup → Job
trace_job world red black id setup =
    plain_job (game_files world red black) (Tells game_contents (is_text_of (trace_output id setup)))

abbrev pub same_job : List ℕ → List ℕ → Bool → Job
same_job first second way = plain_job (brain_file first ∷ brain_file second ∷ []) (Tells pair_contents (TellsSame way))

abbrev pub events_job : List ℕ → List ℕ → List ℕ → Bool → ReportSetup → Job
events_job world red black food setup =
    plain_job (game_files world red black) (Tells game_contents (is_text_of (events_output food setup)))

abbrev pub acts_job : List ℕ → List ℕ → List ℕ → Option ℕ → ReportSetup → Job
acts_job world red black one setup =
    plain_job (game_files world red black) (Tells game_contents (is_text_of (acts_output one setup)))

abbrev pub profile_job : List ℕ → List ℕ → List ℕ → ReportSetup → Job
profile_job world red black setup =
    plain_job (game_files world red black) (Tells game_contents (is_text_of (profile_output setup)))

-- the job of a command line, one row for each command
abbrev pub job_by : CommandKind → PlainAsked → Job
job_by Show a = show_job (a.file 0) (a.number 1)
job_by Brain a = brain_job (a.file 0)
job_by Minimise a = minimise_job (a.file 0) (a.has States)
job_by Run a = run_job (a.file 0) (a.file 1) (a.file 2) (setup_of a)
job_by Gen a = gen_job (a.number 0) (shape_of a)
job_by Cup a =
    cup_job (a.names Worlds) (a.names Brains) (format_of a) (a.option Rounds) (a.option Workers) (a.has Games)
job_by View a = view_job (a.file 0) (a.file 1) (a.file 2) (a.file 3) (a.option Seed) (a.option Rounds) (a.option From)
job_by Workload a = workload_job (a.number 0) (a.number 1) (a.number 2)
job_by Help a = help_job
job_by HelpWord a = help_job
job_by Version a = version_job
job_by Asm a = asm_job (a.file 0) (a.has Labels) (a.has Lines)
job_by Save a = save_job (a.file 0) (a.file 1) (a.file 2) (save_setup_of a)
job_by Resume a = resume_job (a.file 0) (resume_of a)
job_by Trace a = trace_job (a.file 0) (a.file 1) (a.file 2) (a.number 3) (report_of a)
job_by Same a = same_job (a.file 0) (a.file 1) (a.has Way)
job_by Events a = events_job (a.file 0) (a.file 1) (a.file 2) (a.has Food) (report_of a)
job_by Acts a = acts_job (a.file 0) (a.file 1) (a.file 2) (ant_of a) (report_of a)
job_by Profile a = profile_job (a.file 0) (a.file 1) (a.file 2) (report_of a)
job_by Advance a = advance_job (a.file 0) (a.option Rounds) (a.option Workers)

abbrev pub job_of : PlainAsked → Job
job_of asked = job_by asked.kind asked
