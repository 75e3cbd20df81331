-- The job that a command line of each command requests: which word is which file, and which option which number.
use Rattle.std.proofs.Common.{◌≡◌, ℕ, List, ◌∷◌, [], Some, None, ap, codes, false, true, refl, ◌∙◌}
use Rattle.std.specs.Fmt.{digits}
use Rattle.ant_asm.specs.Source.{ReadSource}
use Rattle.ant_base.specs.Layout.{◌+++◌}
use Rattle.ant_base.specs.Number.{decimal_value}
use Rattle.cell_world.specs.Cell.{rock}
use Rattle.cell_world.specs.Grid.{cell_in}
use Rattle.cell_world.specs.Opening.{floor}
use Rattle.cell_world.specs.World.{place_in}
use Rattle.cell_world.specs.declared.ant.Colour.TheVariants.{Red}
use Rattle.hex_geometry.specs.declared.direction.Dir.TheVariants.{West}
use Rattle.match_save.proofs.AdvancedWorked.{row_advanced}
use Rattle.match_save.proofs.SaveWorked.{hill, saved}
use Rattle.match_save.specs.Saved.{SavedValue, draft_of, save_text}
use Rattle.match_save.specs.Text.{draft_lines, draft_text, instruction_line}
use Rattle.command_words.specs.Command.{asked_in, is_among, rest_after}
use Rattle.command_words.specs.Slots.{dumps_of, is_dumps, is_file_name}
use Rattle.command_words.specs.Slots.DumpChoice.{EveryDump, NoDump}
use Rattle.command_words.specs.declared.table.CommandKind.TheVariants.{Acts, Advance, Asm, Brain, Cup, Events, Gen, Help, HelpWord, Minimise, Profile, Resume, Run, Same, Save, Show, Trace, Version, View, Workload}
use Rattle.command_words.proofs.WorkedLines.{words_of}
use Rattle.ant_commands.specs.Files.FileKind.{LabelledFile, SaveFile}
use Rattle.ant_commands.specs.Job.{files_of}
use Rattle.ant_commands.specs.Outputs.{ReadGame, advance_output, source_text, told_minds}
use Rattle.ant_commands.specs.Setups.{told_of}
use Rattle.ant_commands.specs.Jobs.{acts_job, advance_job, asm_job, brain_job, cup_job, events_job, gen_job, help_job, job_of, minimise_job, profile_job, resume_job, run_job, same_job, save_job, show_job, trace_job, version_job, view_job, workload_job}

pub show_asked : job_of (asked_in Show (words_of (codes "show w 7"))) ≡ show_job (codes "w") 7
unfolding is_among rest_after is_file_name is_dumps dumps_of decimal_value
show_asked = refl

pub brain_asked : job_of (asked_in Brain (words_of (codes "brain b"))) ≡ brain_job (codes "b")
unfolding is_among rest_after is_file_name is_dumps dumps_of decimal_value
brain_asked = refl

pub minimise_asked : job_of (asked_in Minimise (words_of (codes "minimise b --states"))) ≡ minimise_job (codes "b") true
unfolding is_among rest_after is_file_name is_dumps dumps_of decimal_value
minimise_asked = refl

pub run_asked : job_of (asked_in Run (words_of (codes "run w r b --stats --rest 1 --corpse 2 --surround 6 --window 3 --workers 4 --dump all --rounds 5 --seed 7"))) ≡ run_job (codes "w") (codes "r") (codes "b") (record { seed = 7; rounds = 5; dumps = EveryDump; workers = 4; window = 3; surround = 6; corpse = 2; rest = 1; stats = true; far = false })
unfolding is_among rest_after is_file_name is_dumps dumps_of decimal_value
run_asked = refl

pub gen_asked : job_of (asked_in Gen (words_of (codes "gen 7 --blobs 2 --rocks 3 --height 4 --width 5"))) ≡ gen_job 7 (record { width = 5; height = 4; rocks = 3; blobs = 2 })
unfolding is_among rest_after is_file_name is_dumps dumps_of decimal_value
gen_asked = refl

pub cup_asked : job_of (asked_in Cup (words_of (codes "cup --worlds w x --brains a b --games --workers 3 --rounds 2 --seed 1")))
    ≡ cup_job (codes "w" ∷ codes "x" ∷ []) (codes "a" ∷ codes "b" ∷ []) (record { gauntlet = false; leads = false; seeds = record { first = 1; count = 1 }; shows_seeds = false }) 2 3 true
unfolding is_among rest_after is_file_name is_dumps dumps_of decimal_value
cup_asked = refl

-- each option of a cup alone
pub cup_seeds_asked : job_of (asked_in Cup (words_of (codes "cup --worlds w --brains a b --seed 7 --seeds 3 --rounds 2")))
    ≡ cup_job (codes "w" ∷ []) (codes "a" ∷ codes "b" ∷ []) (record { gauntlet = false; leads = false; seeds = record { first = 7; count = 3 }; shows_seeds = true }) 2 1 false
unfolding is_among rest_after is_file_name is_dumps dumps_of decimal_value
cup_seeds_asked = refl

pub cup_leads_asked : job_of (asked_in Cup (words_of (codes "cup --worlds w --brains a b --seed 7 --leads --rounds 2")))
    ≡ cup_job (codes "w" ∷ []) (codes "a" ∷ codes "b" ∷ []) (record { gauntlet = false; leads = true; seeds = record { first = 7; count = 1 }; shows_seeds = false }) 2 1 false
unfolding is_among rest_after is_file_name is_dumps dumps_of decimal_value
cup_leads_asked = refl

pub cup_gauntlet_asked : job_of (asked_in Cup (words_of (codes "cup --worlds w --brains a b --seed 7 --gauntlet --rounds 2")))
    ≡ cup_job (codes "w" ∷ []) (codes "a" ∷ codes "b" ∷ []) (record { gauntlet = true; leads = false; seeds = record { first = 7; count = 1 }; shows_seeds = false }) 2 1 false
unfolding is_among rest_after is_file_name is_dumps dumps_of decimal_value
cup_gauntlet_asked = refl

pub view_asked : job_of (asked_in View (words_of (codes "view w r b k --from 3 --rounds 5 --seed 7"))) ≡ view_job (codes "w") (codes "r") (codes "b") (codes "k") 7 5 3
unfolding is_among rest_after is_file_name is_dumps dumps_of decimal_value
view_asked = refl

pub workload_asked : job_of (asked_in Workload (words_of (codes "workload 7 5 4"))) ≡ workload_job 7 5 4
unfolding is_among rest_after is_file_name is_dumps dumps_of decimal_value
workload_asked = refl

pub help_asked : job_of (asked_in Help (words_of (codes "--help"))) ≡ help_job
unfolding is_among rest_after is_file_name is_dumps dumps_of decimal_value
help_asked = refl

pub help_word_asked : job_of (asked_in HelpWord (words_of (codes "help"))) ≡ help_job
unfolding is_among rest_after is_file_name is_dumps dumps_of decimal_value
help_word_asked = refl

pub version_asked : job_of (asked_in Version (words_of (codes "--version"))) ≡ version_job
unfolding is_among rest_after is_file_name is_dumps dumps_of decimal_value
version_asked = refl

pub asm_asked : job_of (asked_in Asm (words_of (codes "asm p --labels"))) ≡ asm_job (codes "p") true false
unfolding is_among rest_after is_file_name is_dumps dumps_of decimal_value
asm_asked = refl

pub asm_lines_asked : job_of (asked_in Asm (words_of (codes "asm p --lines"))) ≡ asm_job (codes "p") false true
unfolding is_among rest_after is_file_name is_dumps dumps_of decimal_value
asm_lines_asked = refl

-- with either option the file is read for its labels and states
pub asm_reads : (files_of (asm_job (codes "p") true false) ≡ record { name = codes "p"; kind = LabelledFile true } ∷ [])
    × (files_of (asm_job (codes "p") false true) ≡ record { name = codes "p"; kind = LabelledFile true } ∷ [])
    × (files_of (asm_job (codes "p") false false) ≡ record { name = codes "p"; kind = LabelledFile false } ∷ [])
asm_reads = (refl, refl, refl)

-- go: / use back, after a block with an instruction in its second line
abbrev source : ReadSource
source = record {
  labels = record { way = []; name = codes "go"; state = 0 } ∷ [];
  lines = record { state = 0; line = 2; way = record { name = codes "back"; line = 5 } ∷ [] } ∷ [];
}

pub source_told : (source_text true true source ≡ codes "0 go\n0 2 back@5\n") × (source_text true false source ≡ codes "0 go\n") × (source_text false true source ≡ codes "0 2 back@5\n")
unfolding digits
source_told = (refl, refl, refl)

pub save_asked : job_of (asked_in Save (words_of (codes "save w r b --rest 1 --corpse 2 --surround 6 --window 3 --workers 4 --rounds 5 --seed 7"))) ≡ save_job (codes "w") (codes "r") (codes "b") (record { seed = 7; rounds = 5; dumps = NoDump; workers = 4; window = 3; surround = 6; corpse = 2; rest = 1; stats = false; far = false })
unfolding is_among rest_after is_file_name is_dumps dumps_of decimal_value
save_asked = refl

pub resume_asked : job_of (asked_in Resume (words_of (codes "resume s --stats --workers 4 --dump all --rounds 5"))) ≡ resume_job (codes "s") (record { rounds = 5; dumps = EveryDump; workers = 4; stats = true })
unfolding is_among rest_after is_file_name is_dumps dumps_of decimal_value
resume_asked = refl

pub advance_asked : job_of (asked_in Advance (words_of (codes "advance s --workers 4 --rounds 5"))) ≡ advance_job (codes "s") 5 4
unfolding is_among rest_after is_file_name is_dumps dumps_of decimal_value
advance_asked = refl

-- its save is one of at most this many rounds
pub advance_reads : files_of (advance_job (codes "s") 5 4) ≡ record { name = codes "s"; kind = SaveFile 5 } ∷ []
advance_reads = refl

-- the save of one ant after its first turn to the left, two turns later
abbrev later : SavedValue
later = record saved {
  round = 3;
  totals = record { turns = 3; taken = 3; redone = 0 };
  world = record { width = 3; height = 3; ids = 1; cells = rock ∷ rock ∷ rock ∷ rock ∷ record hill { ant = Some (record { id = 0; colour = Red; state = 0; resting = 0; facing = West; laden = false }) } ∷ rock ∷ rock ∷ rock ∷ rock ∷ [] };
}

-- its text
abbrev pub later_save : List ℕ
later_save =
    codes "ants save 1\nseed 12345\nsheet 5 3 14\nwindow 16384\nround 3\nplace 0\ntaken 3 redone 0\nsize 3 3\n"
    +++ codes "red 1\nTurn Left 0\nblack 1\nTurn Left 0\n###\n#+#\n###\n000\n000\n000\n000\n000\n000\n000\n000\n000\n"
    +++ codes "ant 0 red 1 1 3 0 0 0\nend\n"

later_text : save_text later ≡ later_save
unfolding save_text draft_text draft_lines draft_of instruction_line digits rock floor place_in cell_in
later_text = refl

pub advance_told : advance_output 3 saved ≡ later_save
unfolding advance_output
advance_told = ap save_text row_advanced ∙ later_text

pub trace_asked : job_of (asked_in Trace (words_of (codes "trace w r b 8 --rest 1 --corpse 2 --surround 6 --from 3 --rounds 5 --seed 7"))) ≡ trace_job (codes "w") (codes "r") (codes "b") 8 (record { told = record { seed = 7; rounds = 5; surround = 6; corpse = 2; rest = 1 }; from = 3 })
unfolding is_among rest_after is_file_name is_dumps dumps_of decimal_value
trace_asked = refl

pub same_asked : job_of (asked_in Same (words_of (codes "same a b"))) ≡ same_job (codes "a") (codes "b") false
unfolding is_among rest_after is_file_name is_dumps dumps_of decimal_value
same_asked = refl

pub same_way_asked : job_of (asked_in Same (words_of (codes "same a b --way"))) ≡ same_job (codes "a") (codes "b") true
unfolding is_among rest_after is_file_name is_dumps dumps_of decimal_value
same_way_asked = refl

pub events_asked : job_of (asked_in Events (words_of (codes "events w r b --rest 1 --corpse 2 --surround 6 --from 3 --rounds 5 --seed 7"))) ≡ events_job (codes "w") (codes "r") (codes "b") false (record { told = record { seed = 7; rounds = 5; surround = 6; corpse = 2; rest = 1 }; from = 3 })
unfolding is_among rest_after is_file_name is_dumps dumps_of decimal_value
events_asked = refl

pub events_food_asked : job_of (asked_in Events (words_of (codes "events w r b --food --rounds 5 --seed 7"))) ≡ events_job (codes "w") (codes "r") (codes "b") true (record { told = record { seed = 7; rounds = 5; surround = 5; corpse = 3; rest = 14 }; from = 0 })
unfolding is_among rest_after is_file_name is_dumps dumps_of decimal_value
events_food_asked = refl

pub acts_asked : job_of (asked_in Acts (words_of (codes "acts w r b --rest 1 --corpse 2 --surround 6 --from 3 --rounds 5 --seed 7"))) ≡ acts_job (codes "w") (codes "r") (codes "b") None (record { told = record { seed = 7; rounds = 5; surround = 6; corpse = 2; rest = 1 }; from = 3 })
unfolding is_among rest_after is_file_name is_dumps dumps_of decimal_value
acts_asked = refl

pub acts_one_asked : job_of (asked_in Acts (words_of (codes "acts w r b --ant 0 --rounds 5 --seed 7"))) ≡ acts_job (codes "w") (codes "r") (codes "b") (Some 0) (record { told = record { seed = 7; rounds = 5; surround = 5; corpse = 3; rest = 14 }; from = 0 })
unfolding is_among rest_after is_file_name is_dumps dumps_of decimal_value
acts_one_asked = refl

pub profile_asked : job_of (asked_in Profile (words_of (codes "profile w r b --rest 1 --corpse 2 --surround 6 --from 3 --rounds 5 --seed 7"))) ≡ profile_job (codes "w") (codes "r") (codes "b") (record { told = record { seed = 7; rounds = 5; surround = 6; corpse = 2; rest = 1 }; from = 3 })
unfolding is_among rest_after is_file_name is_dumps dumps_of decimal_value
profile_asked = refl

-- both are of a game by the numbers that the words name
pub told_by : (game : ReadGame) → told_minds (told_of (asked_in Events (words_of (codes "events w r b --rest 1 --corpse 2 --surround 6 --rounds 5 --seed 7")))) game
    ≡ record { red = game.red; black = game.black; sheet = record { surround = 6; corpse = 2; rest = 1 } }
unfolding is_among rest_after is_file_name is_dumps dumps_of decimal_value
told_by game = refl
