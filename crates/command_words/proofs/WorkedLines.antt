-- Words that are a command, and words that are refused, each at its word.
use Rattle.std.proofs.Common.{◌≡◌, ℕ, Bool, true, false, List, [], ◌∷◌, Ok, codes, ◌==◌, refl}
use Rattle.std.specs.List.{slice_split}
use Rattle.ant_base.specs.Number.{decimal_value}
use Rattle.command_words.specs.declared.table.CommandKind.{CommandKind}
use Rattle.command_words.specs.declared.table.CommandKind.TheVariants.{Acts, Show, Brain, Minimise, Run, Gen, Cup, View, Workload, Help, HelpWord, Version, Asm, Save, Resume, Trace, Same, Events, Profile, Advance}
use Rattle.command_words.specs.declared.table.Choice.{Choice}
use Rattle.command_words.specs.declared.table.Choice.TheVariants.{Seed, Seeds, Rounds, Workers, Window, Surround, Corpse, Rest, Stats, Far, Width, Height, Rocks, Blobs, From, Ant, Food, Labels, States, Games, Leads, Gauntlet, Lines, Way}
use Rattle.command_words.specs.declared.table.NameList.{NameList}
use Rattle.command_words.specs.declared.table.NameList.TheVariants.{Worlds, Brains}
use Rattle.command_words.specs.Slots.{is_file_name, is_dumps, dumps_of, DumpChoice}
use Rattle.command_words.specs.Slots.DumpChoice.{NoDump, EveryDump, ChosenDumps}
use Rattle.command_words.specs.Command.{IsCommand, IsRefusedAt, PlainAsked, asked_in, is_among, rest_after}
use Rattle.command_words.specs.Far.{words_without_far}
use Rattle.command_words.specs.Inner.Walk.{command_kind_of, choice_of, read_of}
use Rattle.command_words.proofs.ReadLemmas.{read-accepts, read-refuses}

-- the words of a line with one space between each two
abbrev pub words_of : List ℕ → List (List ℕ)
words_of line = slice_split (λ byte. byte == 32) line

-- what is requested: the name of a file at a place, a number at a place, the names of a list, the number of an option,
-- the dumps, and whether an option is given
pub data Answer : Type 0 where
  AtFile : ℕ → List ℕ → Answer
  AtNumber : ℕ → ℕ → Answer
  NamesAre : NameList → List (List ℕ) → Answer
  OptionIs : Choice → ℕ → Answer
  DumpsAre : DumpChoice → Answer
  IsGivenAs : Choice → Bool → Answer

abbrev pub Holds : PlainAsked → Answer → Type 0
Holds asked (AtFile place name) = asked.file place ≡ name
Holds asked (AtNumber place number) = asked.number place ≡ number
Holds asked (NamesAre list names) = asked.names list ≡ names
Holds asked (OptionIs choice number) = asked.option choice ≡ number
Holds asked (DumpsAre dumps) = asked.dumps ≡ dumps
Holds asked (IsGivenAs choice is) = asked.has choice ≡ is

abbrev pub AllHold : PlainAsked → List Answer → Type 0
AllHold asked [] = Unit {0}
AllHold asked (answer ∷ answers) = Holds asked answer × AllHold asked answers

-- the words of a line are a command of this kind, which asks for this
pub record Says (kind : CommandKind) (line : List ℕ) (answers : List Answer) : Type 0 where
  pub is : IsCommand (words_of line) (asked_in kind (words_of line))
  pub holds : AllHold (asked_in kind (words_of line)) answers

pub says : (kind : CommandKind) (line : List ℕ) (answers : List Answer) → read_of (words_of line) ≡ Ok (asked_in kind (words_of line))
    → AllHold (asked_in kind (words_of line)) answers → Says kind line answers
says kind line answers read holds = record { is = read-accepts (words_of line) (asked_in kind (words_of line)) read; holds = holds }

-- the greatest seed, and `-` as a file name
pub greatest_seed : Says Show (codes "show - 4294967295")
    (AtFile 0 (codes "-") ∷ AtNumber 1 4294967295 ∷ [])
unfolding command_kind_of choice_of is_among rest_after is_file_name is_dumps dumps_of decimal_value
greatest_seed = says _ _ _ refl (refl, (refl, tt))

-- a name that begins with one `-`
pub brain_command : Says Brain (codes "brain -b")
    (AtFile 0 (codes "-b") ∷ [])
unfolding command_kind_of choice_of is_among rest_after is_file_name is_dumps dumps_of decimal_value
brain_command = says _ _ _ refl (refl, tt)

-- `minimise`
pub minimise_command : Says Minimise (codes "minimise b")
    (AtFile 0 (codes "b") ∷ IsGivenAs States false ∷ [])
unfolding command_kind_of choice_of is_among rest_after is_file_name is_dumps dumps_of decimal_value
minimise_command = says _ _ _ refl (refl, (refl, tt))

-- `asm`
pub asm_command : Says Asm (codes "asm p")
    (AtFile 0 (codes "p") ∷ IsGivenAs Labels false ∷ IsGivenAs Lines false ∷ [])
unfolding command_kind_of choice_of is_among rest_after is_file_name is_dumps dumps_of decimal_value
asm_command = says _ _ _ refl (refl, (refl, (refl, tt)))

-- the new numbers of its states
pub minimise_states : Says Minimise (codes "minimise b --states")
    (AtFile 0 (codes "b") ∷ IsGivenAs States true ∷ [])
unfolding command_kind_of choice_of is_among rest_after is_file_name is_dumps dumps_of decimal_value
minimise_states = says _ _ _ refl (refl, (refl, tt))

-- `--states` takes no word
pub states_with_a_value : IsRefusedAt (words_of (codes "minimise b --states 1")) 4
unfolding command_kind_of choice_of is_among rest_after is_file_name is_dumps dumps_of decimal_value
states_with_a_value = read-refuses (words_of (codes "minimise b --states 1")) 4 refl

-- what its labels lead to
pub asm_labels : Says Asm (codes "asm p --labels")
    (AtFile 0 (codes "p") ∷ IsGivenAs Labels true ∷ IsGivenAs Lines false ∷ [])
unfolding command_kind_of choice_of is_among rest_after is_file_name is_dumps dumps_of decimal_value
asm_labels = says _ _ _ refl (refl, (refl, (refl, tt)))

-- which lines its states come from, alone or with its labels
pub asm_lines : Says Asm (codes "asm p --lines")
    (AtFile 0 (codes "p") ∷ IsGivenAs Labels false ∷ IsGivenAs Lines true ∷ [])
unfolding command_kind_of choice_of is_among rest_after is_file_name is_dumps dumps_of decimal_value
asm_lines = says _ _ _ refl (refl, (refl, (refl, tt)))

pub asm_lines_and_labels : Says Asm (codes "asm p --lines --labels")
    (AtFile 0 (codes "p") ∷ IsGivenAs Labels true ∷ IsGivenAs Lines true ∷ [])
unfolding command_kind_of choice_of is_among rest_after is_file_name is_dumps dumps_of decimal_value
asm_lines_and_labels = says _ _ _ refl (refl, (refl, (refl, tt)))

-- `--lines` stands twice
pub lines_given_twice : IsRefusedAt (words_of (codes "asm p --lines --labels --lines")) 5
unfolding command_kind_of choice_of is_among rest_after is_file_name is_dumps dumps_of decimal_value
lines_given_twice = read-refuses (words_of (codes "asm p --lines --labels --lines")) 5 refl

-- `--labels` stands twice
pub labels_given_twice : IsRefusedAt (words_of (codes "asm p --labels --labels")) 4
unfolding command_kind_of choice_of is_among rest_after is_file_name is_dumps dumps_of decimal_value
labels_given_twice = read-refuses (words_of (codes "asm p --labels --labels")) 4 refl

-- and not before the file
pub labels_before_the_file : IsRefusedAt (words_of (codes "asm --labels p")) 2
unfolding command_kind_of choice_of is_among rest_after is_file_name is_dumps dumps_of decimal_value
labels_before_the_file = read-refuses (words_of (codes "asm --labels p")) 2 refl

-- without its free options a game has no dump, one worker, a whole round a window, the contest's rules and no stats
pub run_defaults : Says Run (codes "run w r b --seed 1 --rounds 1000000")
    (AtFile 0 (codes "w") ∷ AtFile 1 (codes "r") ∷ AtFile 2 (codes "b") ∷ OptionIs Seed 1 ∷ OptionIs Rounds 1000000 ∷ DumpsAre NoDump ∷ OptionIs Workers 1 ∷ OptionIs Window 16384 ∷ OptionIs Surround 5 ∷ OptionIs Corpse 3 ∷ OptionIs Rest 14 ∷ IsGivenAs Stats false ∷ IsGivenAs Far false ∷ [])
unfolding command_kind_of choice_of is_among rest_after is_file_name is_dumps dumps_of decimal_value
run_defaults = says _ _ _ refl (refl, (refl, (refl, (refl, (refl, (refl, (refl, (refl, (refl, (refl, (refl, (refl, (refl, tt)))))))))))))

-- each option of `run`, at its greatest number
pub run_all_greatest : Says Run (codes "run w r b --stats --rest 255 --corpse 9 --surround 6 --window 16384 --workers 16 --dump all --rounds 0 --seed 0")
    (AtFile 0 (codes "w") ∷ AtFile 1 (codes "r") ∷ AtFile 2 (codes "b") ∷ OptionIs Seed 0 ∷ OptionIs Rounds 0 ∷ DumpsAre EveryDump ∷ OptionIs Workers 16 ∷ OptionIs Window 16384 ∷ OptionIs Surround 6 ∷ OptionIs Corpse 9 ∷ OptionIs Rest 255 ∷ IsGivenAs Stats true ∷ IsGivenAs Far false ∷ [])
unfolding command_kind_of choice_of is_among rest_after is_file_name is_dumps dumps_of decimal_value
run_all_greatest = says _ _ _ refl (refl, (refl, (refl, (refl, (refl, (refl, (refl, (refl, (refl, (refl, (refl, (refl, (refl, tt)))))))))))))

-- each number of `run` at its least
pub run_all_least : Says Run (codes "run w r b --seed 2 --rounds 3 --dump none --workers 1 --window 1 --surround 4 --corpse 0 --rest 0")
    (AtFile 0 (codes "w") ∷ AtFile 1 (codes "r") ∷ AtFile 2 (codes "b") ∷ OptionIs Seed 2 ∷ OptionIs Rounds 3 ∷ DumpsAre NoDump ∷ OptionIs Workers 1 ∷ OptionIs Window 1 ∷ OptionIs Surround 4 ∷ OptionIs Corpse 0 ∷ OptionIs Rest 0 ∷ IsGivenAs Stats false ∷ IsGivenAs Far false ∷ [])
unfolding command_kind_of choice_of is_among rest_after is_file_name is_dumps dumps_of decimal_value
run_all_least = says _ _ _ refl (refl, (refl, (refl, (refl, (refl, (refl, (refl, (refl, (refl, (refl, (refl, (refl, (refl, tt)))))))))))))

-- options in another order, a list in its own order with a repeat, and a leading zero
pub run_other_order : Says Run (codes "run w r b --dump 7,0,7 --rounds 02 --seed 5")
    (AtFile 0 (codes "w") ∷ AtFile 1 (codes "r") ∷ AtFile 2 (codes "b") ∷ OptionIs Seed 5 ∷ OptionIs Rounds 2 ∷ DumpsAre (ChosenDumps (7 ∷ 0 ∷ 7 ∷ [])) ∷ OptionIs Workers 1 ∷ OptionIs Window 16384 ∷ OptionIs Surround 5 ∷ OptionIs Corpse 3 ∷ OptionIs Rest 14 ∷ IsGivenAs Stats false ∷ IsGivenAs Far false ∷ [])
unfolding command_kind_of choice_of is_among rest_after is_file_name is_dumps dumps_of decimal_value
run_other_order = says _ _ _ refl (refl, (refl, (refl, (refl, (refl, (refl, (refl, (refl, (refl, (refl, (refl, (refl, (refl, tt)))))))))))))

-- without options a world has the contest's shape
pub gen_defaults : Says Gen (codes "gen 7")
    (AtNumber 0 7 ∷ OptionIs Width 150 ∷ OptionIs Height 150 ∷ OptionIs Rocks 14 ∷ OptionIs Blobs 11 ∷ [])
unfolding command_kind_of choice_of is_among rest_after is_file_name is_dumps dumps_of decimal_value
gen_defaults = says _ _ _ refl (refl, (refl, (refl, (refl, (refl, tt)))))

-- each option of `gen` at its greatest number
pub gen_greatest : Says Gen (codes "gen 7 --blobs 255 --rocks 254 --height 512 --width 511")
    (AtNumber 0 7 ∷ OptionIs Width 511 ∷ OptionIs Height 512 ∷ OptionIs Rocks 254 ∷ OptionIs Blobs 255 ∷ [])
unfolding command_kind_of choice_of is_among rest_after is_file_name is_dumps dumps_of decimal_value
gen_greatest = says _ _ _ refl (refl, (refl, (refl, (refl, (refl, tt)))))

-- each option of `gen` at its least number
pub gen_least : Says Gen (codes "gen 7 --width 3 --height 4 --rocks 0 --blobs 1")
    (AtNumber 0 7 ∷ OptionIs Width 3 ∷ OptionIs Height 4 ∷ OptionIs Rocks 0 ∷ OptionIs Blobs 1 ∷ [])
unfolding command_kind_of choice_of is_among rest_after is_file_name is_dumps dumps_of decimal_value
gen_least = says _ _ _ refl (refl, (refl, (refl, (refl, (refl, tt)))))

-- one world and two brains, and one worker
pub cup_command : Says Cup (codes "cup --worlds w --brains a b --seed 1 --rounds 2")
    (NamesAre Worlds ((codes "w") ∷ []) ∷ NamesAre Brains ((codes "a") ∷ (codes "b") ∷ []) ∷ OptionIs Seed 1 ∷ OptionIs Rounds 2 ∷ OptionIs Workers 1 ∷ IsGivenAs Games false ∷ [])
unfolding command_kind_of choice_of is_among rest_after is_file_name is_dumps dumps_of decimal_value
cup_command = says _ _ _ refl (refl, (refl, (refl, (refl, (refl, (refl, tt))))))

-- the same world twice, a name among both lists, names that are `-` or begin with one, and options in another order
pub cup_same_world : Says Cup (codes "cup --worlds w w a --brains a - -b --workers 16 --rounds 0 --seed 3")
    (NamesAre Worlds ((codes "w") ∷ (codes "w") ∷ (codes "a") ∷ []) ∷ NamesAre Brains ((codes "a") ∷ (codes "-") ∷ (codes "-b") ∷ []) ∷ OptionIs Seed 3 ∷ OptionIs Rounds 0 ∷ OptionIs Workers 16 ∷ IsGivenAs Games false ∷ [])
unfolding command_kind_of choice_of is_among rest_after is_file_name is_dumps dumps_of decimal_value
cup_same_world = says _ _ _ refl (refl, (refl, (refl, (refl, (refl, (refl, tt))))))

-- the games too, with `--games` among the other options
pub cup_games : Says Cup (codes "cup --worlds w --brains a b --seed 1 --games --rounds 2")
    (NamesAre Worlds ((codes "w") ∷ []) ∷ NamesAre Brains ((codes "a") ∷ (codes "b") ∷ []) ∷ OptionIs Seed 1 ∷ OptionIs Rounds 2 ∷ OptionIs Workers 1 ∷ IsGivenAs Games true ∷ [])
unfolding command_kind_of choice_of is_among rest_after is_file_name is_dumps dumps_of decimal_value
cup_games = says _ _ _ refl (refl, (refl, (refl, (refl, (refl, (refl, tt))))))

-- without them there is one seed, no lead and no gauntlet; the option `--seeds` isn't given
pub cup_without_its_options : Says Cup (codes "cup --worlds w --brains a b --seed 1 --rounds 2")
    (OptionIs Seeds 1 ∷ IsGivenAs Seeds false ∷ IsGivenAs Leads false ∷ IsGivenAs Gauntlet false ∷ [])
unfolding command_kind_of choice_of is_among rest_after is_file_name is_dumps dumps_of decimal_value
cup_without_its_options = says _ _ _ refl (refl, (refl, (refl, (refl, tt))))

-- all options of a cup, the greatest number of seeds among them
pub cup_all_options : Says Cup (codes "cup --worlds w --brains a b --gauntlet --seeds 1000 --leads --seed 007 --games --rounds 2 --workers 16")
    (OptionIs Seed 7 ∷ OptionIs Seeds 1000 ∷ IsGivenAs Seeds true ∷ OptionIs Rounds 2 ∷ OptionIs Workers 16 ∷ IsGivenAs Games true ∷ IsGivenAs Leads true ∷ IsGivenAs Gauntlet true ∷ [])
unfolding command_kind_of choice_of is_among rest_after is_file_name is_dumps dumps_of decimal_value
cup_all_options = says _ _ _ refl (refl, (refl, (refl, (refl, (refl, (refl, (refl, (refl, tt))))))))

-- the least number of seeds is given
pub cup_one_seed : Says Cup (codes "cup --worlds w --brains a b --seed 1 --seeds 1 --rounds 2") (OptionIs Seeds 1 ∷ IsGivenAs Seeds true ∷ [])
unfolding command_kind_of choice_of is_among rest_after is_file_name is_dumps dumps_of decimal_value
cup_one_seed = says _ _ _ refl (refl, (refl, tt))

-- no seed, 1001 seeds, a number of 11 digits, and no number
pub cup_no_seeds : IsRefusedAt (words_of (codes "cup --worlds w --brains a b --seeds 0")) 8
unfolding command_kind_of choice_of is_among rest_after is_file_name is_dumps dumps_of decimal_value
cup_no_seeds = read-refuses (words_of (codes "cup --worlds w --brains a b --seeds 0")) 8 refl

pub cup_too_many_seeds : IsRefusedAt (words_of (codes "cup --worlds w --brains a b --seeds 1001")) 8
unfolding command_kind_of choice_of is_among rest_after is_file_name is_dumps dumps_of decimal_value
cup_too_many_seeds = read-refuses (words_of (codes "cup --worlds w --brains a b --seeds 1001")) 8 refl

pub cup_eleven_digits : IsRefusedAt (words_of (codes "cup --worlds w --brains a b --seeds 00000000001")) 8
unfolding command_kind_of choice_of is_among rest_after is_file_name is_dumps dumps_of decimal_value
cup_eleven_digits = read-refuses (words_of (codes "cup --worlds w --brains a b --seeds 00000000001")) 8 refl

pub cup_seeds_without_number : IsRefusedAt (words_of (codes "cup --worlds w --brains a b --seeds --seed 1")) 8
unfolding command_kind_of choice_of is_among rest_after is_file_name is_dumps dumps_of decimal_value
cup_seeds_without_number = read-refuses (words_of (codes "cup --worlds w --brains a b --seeds --seed 1")) 8 refl

-- `--seeds` doesn't stand in for `--seed`, and is given once
pub cup_seeds_no_seed : IsRefusedAt (words_of (codes "cup --worlds w --brains a b --seeds 2 --rounds 1")) 11
unfolding command_kind_of choice_of is_among rest_after is_file_name is_dumps dumps_of decimal_value
cup_seeds_no_seed = read-refuses (words_of (codes "cup --worlds w --brains a b --seeds 2 --rounds 1")) 11 refl

pub cup_seeds_twice : IsRefusedAt (words_of (codes "cup --worlds w --brains a b --seeds 2 --seeds 2")) 9
unfolding command_kind_of choice_of is_among rest_after is_file_name is_dumps dumps_of decimal_value
cup_seeds_twice = read-refuses (words_of (codes "cup --worlds w --brains a b --seeds 2 --seeds 2")) 9 refl

-- `--games` is not a file name, and one brain is too few
pub cup_games_among_the_names : IsRefusedAt (words_of (codes "cup --worlds w --brains a --games")) 6
unfolding command_kind_of choice_of is_among rest_after is_file_name is_dumps dumps_of decimal_value
cup_games_among_the_names = read-refuses (words_of (codes "cup --worlds w --brains a --games")) 6 refl

-- 16 worlds and 16 brains
pub cup_sixteen : Says Cup (codes "cup --worlds a b c d e f g h i j k l m n o p --brains a b c d e f g h i j k l m n o p --seed 1 --rounds 1")
    (NamesAre Worlds ((codes "a") ∷ (codes "b") ∷ (codes "c") ∷ (codes "d") ∷ (codes "e") ∷ (codes "f") ∷ (codes "g") ∷ (codes "h") ∷ (codes "i") ∷ (codes "j") ∷ (codes "k") ∷ (codes "l") ∷ (codes "m") ∷ (codes "n") ∷ (codes "o") ∷ (codes "p") ∷ []) ∷ NamesAre Brains ((codes "a") ∷ (codes "b") ∷ (codes "c") ∷ (codes "d") ∷ (codes "e") ∷ (codes "f") ∷ (codes "g") ∷ (codes "h") ∷ (codes "i") ∷ (codes "j") ∷ (codes "k") ∷ (codes "l") ∷ (codes "m") ∷ (codes "n") ∷ (codes "o") ∷ (codes "p") ∷ []) ∷ OptionIs Seed 1 ∷ OptionIs Rounds 1 ∷ OptionIs Workers 1 ∷ IsGivenAs Games false ∷ [])
unfolding command_kind_of choice_of is_among rest_after is_file_name is_dumps dumps_of decimal_value
cup_sixteen = says _ _ _ refl (refl, (refl, (refl, (refl, (refl, (refl, tt))))))

-- `save` has the options of a game except for the dumps and the counts
pub save_defaults : Says Save (codes "save w r b --rounds 2 --seed 1")
    (AtFile 0 (codes "w") ∷ AtFile 1 (codes "r") ∷ AtFile 2 (codes "b") ∷ OptionIs Seed 1 ∷ OptionIs Rounds 2 ∷ DumpsAre NoDump ∷ OptionIs Workers 1 ∷ OptionIs Window 16384 ∷ OptionIs Surround 5 ∷ OptionIs Corpse 3 ∷ OptionIs Rest 14 ∷ IsGivenAs Stats false ∷ IsGivenAs Far false ∷ [])
unfolding command_kind_of choice_of is_among rest_after is_file_name is_dumps dumps_of decimal_value
save_defaults = says _ _ _ refl (refl, (refl, (refl, (refl, (refl, (refl, (refl, (refl, (refl, (refl, (refl, (refl, (refl, tt)))))))))))))

pub save_all : Says Save (codes "save w r b --rest 9 --corpse 2 --surround 4 --window 50 --workers 3 --rounds 0 --seed 7")
    (AtFile 0 (codes "w") ∷ AtFile 1 (codes "r") ∷ AtFile 2 (codes "b") ∷ OptionIs Seed 7 ∷ OptionIs Rounds 0 ∷ DumpsAre NoDump ∷ OptionIs Workers 3 ∷ OptionIs Window 50 ∷ OptionIs Surround 4 ∷ OptionIs Corpse 2 ∷ OptionIs Rest 9 ∷ IsGivenAs Stats false ∷ IsGivenAs Far false ∷ [])
unfolding command_kind_of choice_of is_among rest_after is_file_name is_dumps dumps_of decimal_value
save_all = says _ _ _ refl (refl, (refl, (refl, (refl, (refl, (refl, (refl, (refl, (refl, (refl, (refl, (refl, (refl, tt)))))))))))))

pub save_without_dumps : IsRefusedAt (words_of (codes "save w r b --rounds 2 --dump all --seed 1")) 7
unfolding command_kind_of choice_of is_among rest_after is_file_name is_dumps dumps_of decimal_value
save_without_dumps = read-refuses (words_of (codes "save w r b --rounds 2 --dump all --seed 1")) 7 refl

-- `resume` needs the rounds alone, and takes seed, window and sheet from the save
pub resume_defaults : Says Resume (codes "resume s --rounds 2")
    (AtFile 0 (codes "s") ∷ OptionIs Rounds 2 ∷ DumpsAre NoDump ∷ OptionIs Workers 1 ∷ IsGivenAs Stats false ∷ [])
unfolding command_kind_of choice_of is_among rest_after is_file_name is_dumps dumps_of decimal_value
resume_defaults = says _ _ _ refl (refl, (refl, (refl, (refl, (refl, tt)))))

pub resume_all : Says Resume (codes "resume - --stats --workers 16 --dump all --rounds 1000000")
    (AtFile 0 (codes "-") ∷ OptionIs Rounds 1000000 ∷ DumpsAre EveryDump ∷ OptionIs Workers 16 ∷ IsGivenAs Stats true ∷ [])
unfolding command_kind_of choice_of is_among rest_after is_file_name is_dumps dumps_of decimal_value
resume_all = says _ _ _ refl (refl, (refl, (refl, (refl, (refl, tt)))))

pub resume_without_rounds : IsRefusedAt (words_of (codes "resume s")) 3
unfolding command_kind_of choice_of is_among rest_after is_file_name is_dumps dumps_of decimal_value
resume_without_rounds = read-refuses (words_of (codes "resume s")) 3 refl

pub resume_with_a_seed : IsRefusedAt (words_of (codes "resume s --seed 1")) 3
unfolding command_kind_of choice_of is_among rest_after is_file_name is_dumps dumps_of decimal_value
resume_with_a_seed = read-refuses (words_of (codes "resume s --seed 1")) 3 refl

-- without its free option a saved game continues with one worker
pub advance_defaults : Says Advance (codes "advance s --rounds 2")
    (AtFile 0 (codes "s") ∷ OptionIs Rounds 2 ∷ OptionIs Workers 1 ∷ [])
unfolding command_kind_of choice_of is_among rest_after is_file_name is_dumps dumps_of decimal_value
advance_defaults = says _ _ _ refl (refl, (refl, (refl, tt)))

pub advance_all : Says Advance (codes "advance - --workers 16 --rounds 1000000")
    (AtFile 0 (codes "-") ∷ OptionIs Rounds 1000000 ∷ OptionIs Workers 16 ∷ [])
unfolding command_kind_of choice_of is_among rest_after is_file_name is_dumps dumps_of decimal_value
advance_all = says _ _ _ refl (refl, (refl, (refl, tt)))

-- it needs its rounds, and has one file
pub advance_without_rounds : IsRefusedAt (words_of (codes "advance s --workers 2")) 5
unfolding command_kind_of choice_of is_among rest_after is_file_name is_dumps dumps_of decimal_value
advance_without_rounds = read-refuses (words_of (codes "advance s --workers 2")) 5 refl

pub advance_two_files : IsRefusedAt (words_of (codes "advance s k --rounds 2")) 3
unfolding command_kind_of choice_of is_among rest_after is_file_name is_dumps dumps_of decimal_value
advance_two_files = read-refuses (words_of (codes "advance s k --rounds 2")) 3 refl

-- the words that ask for the commands, and for the version
pub help_command : Says Help (codes "--help")
    ([])
unfolding command_kind_of choice_of is_among rest_after is_file_name is_dumps dumps_of decimal_value
help_command = says Help (codes "--help")
    ([])
    refl tt

pub version_command : Says Version (codes "--version")
    ([])
unfolding command_kind_of choice_of is_among rest_after is_file_name is_dumps dumps_of decimal_value
version_command = says Version (codes "--version")
    ([])
    refl tt

-- the word without dashes asks for the commands too
pub help_word : Says HelpWord (codes "help")
    ([])
unfolding command_kind_of choice_of is_among rest_after is_file_name is_dumps dumps_of decimal_value
help_word = says HelpWord (codes "help")
    ([])
    refl tt

pub help_word_alone : IsRefusedAt (words_of (codes "help run")) 2
unfolding command_kind_of choice_of is_among rest_after is_file_name is_dumps dumps_of decimal_value
help_word_alone = read-refuses (words_of (codes "help run")) 2 refl

pub help_spelled_otherwise : IsRefusedAt (words_of (codes "Help")) 1
unfolding command_kind_of choice_of is_among rest_after is_file_name is_dumps dumps_of decimal_value
help_spelled_otherwise = read-refuses (words_of (codes "Help")) 1 refl

-- they stand alone, and after no other command
pub help_alone : IsRefusedAt (words_of (codes "--help run")) 2
unfolding command_kind_of choice_of is_among rest_after is_file_name is_dumps dumps_of decimal_value
help_alone = read-refuses (words_of (codes "--help run")) 2 refl

pub help_of_a_command : IsRefusedAt (words_of (codes "run --help")) 2
unfolding command_kind_of choice_of is_among rest_after is_file_name is_dumps dumps_of decimal_value
help_of_a_command = read-refuses (words_of (codes "run --help")) 2 refl

pub version_alone : IsRefusedAt (words_of (codes "--version 1")) 2
unfolding command_kind_of choice_of is_among rest_after is_file_name is_dumps dumps_of decimal_value
version_alone = read-refuses (words_of (codes "--version 1")) 2 refl

pub short_help : IsRefusedAt (words_of (codes "-h")) 1
unfolding command_kind_of choice_of is_among rest_after is_file_name is_dumps dumps_of decimal_value
short_help = read-refuses (words_of (codes "-h")) 1 refl

-- `view`, in which breaks are looked for from round 0 on, if no option says otherwise
pub view_command : Says View (codes "view w r b k --rounds 5 --seed 12345")
    (AtFile 0 (codes "w") ∷ AtFile 1 (codes "r") ∷ AtFile 2 (codes "b") ∷ AtFile 3 (codes "k") ∷ OptionIs Seed 12345 ∷ OptionIs Rounds 5 ∷ OptionIs From 0 ∷ [])
unfolding command_kind_of choice_of is_among rest_after is_file_name is_dumps dumps_of decimal_value
view_command = says _ _ _ refl (refl, (refl, (refl, (refl, (refl, (refl, (refl, tt)))))))

-- the first round that is looked at, also before the other options and above the rounds, and with leading zeros
pub view_from : Says View (codes "view w r b k --from 1000000 --rounds 5 --seed 12345")
    (AtFile 0 (codes "w") ∷ AtFile 1 (codes "r") ∷ AtFile 2 (codes "b") ∷ AtFile 3 (codes "k") ∷ OptionIs Seed 12345 ∷ OptionIs Rounds 5 ∷ OptionIs From 1000000 ∷ [])
unfolding command_kind_of choice_of is_among rest_after is_file_name is_dumps dumps_of decimal_value
view_from = says _ _ _ refl (refl, (refl, (refl, (refl, (refl, (refl, (refl, tt)))))))

pub view_from_between : Says View (codes "view w r b k --seed 1 --from 0018 --rounds 1000000")
    (AtFile 0 (codes "w") ∷ AtFile 1 (codes "r") ∷ AtFile 2 (codes "b") ∷ AtFile 3 (codes "k") ∷ OptionIs Seed 1 ∷ OptionIs Rounds 1000000 ∷ OptionIs From 18 ∷ [])
unfolding command_kind_of choice_of is_among rest_after is_file_name is_dumps dumps_of decimal_value
view_from_between = says _ _ _ refl (refl, (refl, (refl, (refl, (refl, (refl, (refl, tt)))))))

-- `workload`
pub workload_command : Says Workload (codes "workload 12345 1000 4")
    (AtNumber 0 12345 ∷ AtNumber 1 1000 ∷ AtNumber 2 4 ∷ [])
unfolding command_kind_of choice_of is_among rest_after is_file_name is_dumps dumps_of decimal_value
workload_command = says _ _ _ refl (refl, (refl, (refl, tt)))

-- without its free options a trace begins at round 0, by the contest's rules
pub trace_defaults : Says Trace (codes "trace w r b 0 --seed 1 --rounds 2")
    (AtFile 0 (codes "w") ∷ AtFile 1 (codes "r") ∷ AtFile 2 (codes "b") ∷ AtNumber 3 0 ∷ OptionIs Seed 1 ∷ OptionIs Rounds 2 ∷ OptionIs From 0 ∷ OptionIs Surround 5 ∷ OptionIs Corpse 3 ∷ OptionIs Rest 14 ∷ [])
unfolding command_kind_of choice_of is_among rest_after is_file_name is_dumps dumps_of decimal_value
trace_defaults = says _ _ _ refl (refl, (refl, (refl, (refl, (refl, (refl, (refl, (refl, (refl, (refl, tt))))))))))

-- each number of a trace at its greatest
pub trace_all : Says Trace (codes "trace w r b 16383 --rest 255 --corpse 9 --surround 6 --from 1000000 --rounds 999999 --seed 4294967295")
    (AtFile 0 (codes "w") ∷ AtFile 1 (codes "r") ∷ AtFile 2 (codes "b") ∷ AtNumber 3 16383 ∷ OptionIs Seed 4294967295 ∷ OptionIs Rounds 999999 ∷ OptionIs From 1000000 ∷ OptionIs Surround 6 ∷ OptionIs Corpse 9 ∷ OptionIs Rest 255 ∷ [])
unfolding command_kind_of choice_of is_among rest_after is_file_name is_dumps dumps_of decimal_value
trace_all = says _ _ _ refl (refl, (refl, (refl, (refl, (refl, (refl, (refl, (refl, (refl, (refl, tt))))))))))

-- and at its least, with leading zeros of the id
pub trace_least : Says Trace (codes "trace w r b 007 --seed 0 --rounds 0 --from 0 --surround 4 --corpse 0 --rest 0")
    (AtFile 0 (codes "w") ∷ AtFile 1 (codes "r") ∷ AtFile 2 (codes "b") ∷ AtNumber 3 7 ∷ OptionIs Seed 0 ∷ OptionIs Rounds 0 ∷ OptionIs From 0 ∷ OptionIs Surround 4 ∷ OptionIs Corpse 0 ∷ OptionIs Rest 0 ∷ [])
unfolding command_kind_of choice_of is_among rest_after is_file_name is_dumps dumps_of decimal_value
trace_least = says _ _ _ refl (refl, (refl, (refl, (refl, (refl, (refl, (refl, (refl, (refl, (refl, tt))))))))))

-- the id is before the options
pub trace_without_id : IsRefusedAt (words_of (codes "trace w r b --seed 1 --rounds 2")) 5
unfolding command_kind_of choice_of is_among rest_after is_file_name is_dumps dumps_of decimal_value
trace_without_id = read-refuses (words_of (codes "trace w r b --seed 1 --rounds 2")) 5 refl

-- no ant has the id 16,384
pub trace_id_too_great : IsRefusedAt (words_of (codes "trace w r b 16384")) 5
unfolding command_kind_of choice_of is_among rest_after is_file_name is_dumps dumps_of decimal_value
trace_id_too_great = read-refuses (words_of (codes "trace w r b 16384")) 5 refl

-- an id is a number
pub trace_id_a_name : IsRefusedAt (words_of (codes "trace w r b a")) 5
unfolding command_kind_of choice_of is_among rest_after is_file_name is_dumps dumps_of decimal_value
trace_id_a_name = read-refuses (words_of (codes "trace w r b a")) 5 refl

-- 1,000,001 rounds before the first that is reported
pub trace_from_too_late : IsRefusedAt (words_of (codes "trace w r b 1 --from 1000001")) 7
unfolding command_kind_of choice_of is_among rest_after is_file_name is_dumps dumps_of decimal_value
trace_from_too_late = read-refuses (words_of (codes "trace w r b 1 --from 1000001")) 7 refl

-- --rounds is missing
pub trace_rounds_missing : IsRefusedAt (words_of (codes "trace w r b 1 --seed 1")) 8
unfolding command_kind_of choice_of is_among rest_after is_file_name is_dumps dumps_of decimal_value
trace_rounds_missing = read-refuses (words_of (codes "trace w r b 1 --seed 1")) 8 refl

-- events and a profile are of a game by the contest's rules, if no option says otherwise
pub events_defaults : Says Events (codes "events w r b --seed 1 --rounds 2")
    (AtFile 0 (codes "w") ∷ AtFile 1 (codes "r") ∷ AtFile 2 (codes "b") ∷ OptionIs Seed 1 ∷ OptionIs Rounds 2 ∷ OptionIs From 0 ∷ OptionIs Surround 5 ∷ OptionIs Corpse 3 ∷ OptionIs Rest 14 ∷ IsGivenAs Food false ∷ [])
unfolding command_kind_of choice_of is_among rest_after is_file_name is_dumps dumps_of decimal_value
events_defaults = says _ _ _ refl (refl, (refl, (refl, (refl, (refl, (refl, (refl, (refl, (refl, (refl, tt))))))))))

pub profile_defaults : Says Profile (codes "profile w r b --rounds 2 --seed 1")
    (AtFile 0 (codes "w") ∷ AtFile 1 (codes "r") ∷ AtFile 2 (codes "b") ∷ OptionIs Seed 1 ∷ OptionIs Rounds 2 ∷ OptionIs From 0 ∷ OptionIs Surround 5 ∷ OptionIs Corpse 3 ∷ OptionIs Rest 14 ∷ [])
unfolding command_kind_of choice_of is_among rest_after is_file_name is_dumps dumps_of decimal_value
profile_defaults = says _ _ _ refl (refl, (refl, (refl, (refl, (refl, (refl, (refl, (refl, (refl, tt)))))))))

-- what ants execute is reported for all of them, from round 0 on
pub acts_defaults : Says Acts (codes "acts w r b --rounds 2 --seed 1")
    (AtFile 0 (codes "w") ∷ AtFile 1 (codes "r") ∷ AtFile 2 (codes "b") ∷ OptionIs Seed 1 ∷ OptionIs Rounds 2 ∷ OptionIs From 0 ∷ IsGivenAs Ant false ∷ OptionIs Surround 5 ∷ OptionIs Corpse 3 ∷ OptionIs Rest 14 ∷ [])
unfolding command_kind_of choice_of is_among rest_after is_file_name is_dumps dumps_of decimal_value
acts_defaults = says _ _ _ refl (refl, (refl, (refl, (refl, (refl, (refl, (refl, (refl, (refl, (refl, tt))))))))))

-- of one ant, with each number at its greatest; and of ant 0, which is said
pub acts_greatest : Says Acts (codes "acts w r b --ant 16383 --rest 255 --corpse 9 --surround 6 --from 1000000 --rounds 999999 --seed 4294967295")
    (AtFile 0 (codes "w") ∷ AtFile 1 (codes "r") ∷ AtFile 2 (codes "b") ∷ OptionIs Seed 4294967295 ∷ OptionIs Rounds 999999 ∷ OptionIs From 1000000 ∷ IsGivenAs Ant true ∷ OptionIs Ant 16383 ∷ OptionIs Surround 6 ∷ OptionIs Corpse 9 ∷ OptionIs Rest 255 ∷ [])
unfolding command_kind_of choice_of is_among rest_after is_file_name is_dumps dumps_of decimal_value
acts_greatest = says _ _ _ refl (refl, (refl, (refl, (refl, (refl, (refl, (refl, (refl, (refl, (refl, (refl, tt)))))))))))

pub acts_least : Says Acts (codes "acts - r b --surround 4 --seed 0 --rest 0 --ant 0 --rounds 0 --corpse 0 --from 0")
    (AtFile 0 (codes "-") ∷ AtFile 1 (codes "r") ∷ AtFile 2 (codes "b") ∷ OptionIs Seed 0 ∷ OptionIs Rounds 0 ∷ OptionIs From 0 ∷ IsGivenAs Ant true ∷ OptionIs Ant 0 ∷ OptionIs Surround 4 ∷ OptionIs Corpse 0 ∷ OptionIs Rest 0 ∷ [])
unfolding command_kind_of choice_of is_among rest_after is_file_name is_dumps dumps_of decimal_value
acts_least = says _ _ _ refl (refl, (refl, (refl, (refl, (refl, (refl, (refl, (refl, (refl, (refl, (refl, tt)))))))))))

-- events with food, and a profile, from a round on
pub events_food : Says Events (codes "events w r b --food --seed 1 --from 7 --rounds 2")
    (OptionIs Seed 1 ∷ OptionIs Rounds 2 ∷ OptionIs From 7 ∷ IsGivenAs Food true ∷ [])
unfolding command_kind_of choice_of is_among rest_after is_file_name is_dumps dumps_of decimal_value
events_food = says _ _ _ refl (refl, (refl, (refl, (refl, tt))))

pub profile_from : Says Profile (codes "profile w r b --from 1000000 --seed 1 --rounds 2")
    (OptionIs Seed 1 ∷ OptionIs Rounds 2 ∷ OptionIs From 1000000 ∷ [])
unfolding command_kind_of choice_of is_among rest_after is_file_name is_dumps dumps_of decimal_value
profile_from = says _ _ _ refl (refl, (refl, (refl, tt)))

-- each number of theirs at its greatest, and at its least
pub events_greatest : Says Events (codes "events w r b --rest 255 --corpse 9 --surround 6 --rounds 1000000 --seed 4294967295")
    (AtFile 0 (codes "w") ∷ AtFile 1 (codes "r") ∷ AtFile 2 (codes "b") ∷ OptionIs Seed 4294967295 ∷ OptionIs Rounds 1000000 ∷ OptionIs Surround 6 ∷ OptionIs Corpse 9 ∷ OptionIs Rest 255 ∷ [])
unfolding command_kind_of choice_of is_among rest_after is_file_name is_dumps dumps_of decimal_value
events_greatest = says _ _ _ refl (refl, (refl, (refl, (refl, (refl, (refl, (refl, (refl, tt))))))))

pub profile_least : Says Profile (codes "profile - r b --surround 4 --seed 0 --rest 0 --rounds 0 --corpse 0")
    (AtFile 0 (codes "-") ∷ AtFile 1 (codes "r") ∷ AtFile 2 (codes "b") ∷ OptionIs Seed 0 ∷ OptionIs Rounds 0 ∷ OptionIs Surround 4 ∷ OptionIs Corpse 0 ∷ OptionIs Rest 0 ∷ [])
unfolding command_kind_of choice_of is_among rest_after is_file_name is_dumps dumps_of decimal_value
profile_least = says _ _ _ refl (refl, (refl, (refl, (refl, (refl, (refl, (refl, (refl, tt))))))))

-- both take three files, and need a seed and rounds
pub events_two_files : IsRefusedAt (words_of (codes "events w r --seed 1 --rounds 2")) 4
unfolding command_kind_of choice_of is_among rest_after is_file_name is_dumps dumps_of decimal_value
events_two_files = read-refuses (words_of (codes "events w r --seed 1 --rounds 2")) 4 refl

pub events_four_files : IsRefusedAt (words_of (codes "events w r b 1 --seed 1 --rounds 2")) 5
unfolding command_kind_of choice_of is_among rest_after is_file_name is_dumps dumps_of decimal_value
events_four_files = read-refuses (words_of (codes "events w r b 1 --seed 1 --rounds 2")) 5 refl

pub profile_without_rounds : IsRefusedAt (words_of (codes "profile w r b --seed 1 --rest 3")) 9
unfolding command_kind_of choice_of is_among rest_after is_file_name is_dumps dumps_of decimal_value
profile_without_rounds = read-refuses (words_of (codes "profile w r b --seed 1 --rest 3")) 9 refl

pub profile_surround_too_great : IsRefusedAt (words_of (codes "profile w r b --surround 7")) 6
unfolding command_kind_of choice_of is_among rest_after is_file_name is_dumps dumps_of decimal_value
profile_surround_too_great = read-refuses (words_of (codes "profile w r b --surround 7")) 6 refl

-- `--food` takes no value, and may stand once
pub food_with_a_value : IsRefusedAt (words_of (codes "events w r b --food 1")) 6
unfolding command_kind_of choice_of is_among rest_after is_file_name is_dumps dumps_of decimal_value
food_with_a_value = read-refuses (words_of (codes "events w r b --food 1")) 6 refl

pub food_twice : IsRefusedAt (words_of (codes "events w r b --food --food")) 6
unfolding command_kind_of choice_of is_among rest_after is_file_name is_dumps dumps_of decimal_value
food_twice = read-refuses (words_of (codes "events w r b --food --food")) 6 refl

-- no ant has the id 16,384, and a number has at most ten digits
pub acts_ant_too_great : IsRefusedAt (words_of (codes "acts w r b --ant 16384")) 6
unfolding command_kind_of choice_of is_among rest_after is_file_name is_dumps dumps_of decimal_value
acts_ant_too_great = read-refuses (words_of (codes "acts w r b --ant 16384")) 6 refl

pub acts_ant_eleven_digits : IsRefusedAt (words_of (codes "acts w r b --ant 00000000001")) 6
unfolding command_kind_of choice_of is_among rest_after is_file_name is_dumps dumps_of decimal_value
acts_ant_eleven_digits = read-refuses (words_of (codes "acts w r b --ant 00000000001")) 6 refl

-- 1,000,001 rounds before the first that is reported
pub acts_from_too_late : IsRefusedAt (words_of (codes "acts w r b --from 1000001")) 6
unfolding command_kind_of choice_of is_among rest_after is_file_name is_dumps dumps_of decimal_value
acts_from_too_late = read-refuses (words_of (codes "acts w r b --from 1000001")) 6 refl

pub events_from_too_late : IsRefusedAt (words_of (codes "events w r b --from 1000001")) 6
unfolding command_kind_of choice_of is_among rest_after is_file_name is_dumps dumps_of decimal_value
events_from_too_late = read-refuses (words_of (codes "events w r b --from 1000001")) 6 refl

pub profile_from_eleven_digits : IsRefusedAt (words_of (codes "profile w r b --from 00000000001")) 6
unfolding command_kind_of choice_of is_among rest_after is_file_name is_dumps dumps_of decimal_value
profile_from_eleven_digits = read-refuses (words_of (codes "profile w r b --from 00000000001")) 6 refl

-- the id of an ant is after its option, once; and a seed and rounds are needed
pub acts_id_as_a_place : IsRefusedAt (words_of (codes "acts w r b 1 --seed 1 --rounds 2")) 5
unfolding command_kind_of choice_of is_among rest_after is_file_name is_dumps dumps_of decimal_value
acts_id_as_a_place = read-refuses (words_of (codes "acts w r b 1 --seed 1 --rounds 2")) 5 refl

pub acts_ant_twice : IsRefusedAt (words_of (codes "acts w r b --ant 1 --ant 2")) 7
unfolding command_kind_of choice_of is_among rest_after is_file_name is_dumps dumps_of decimal_value
acts_ant_twice = read-refuses (words_of (codes "acts w r b --ant 1 --ant 2")) 7 refl

pub acts_without_rounds : IsRefusedAt (words_of (codes "acts w r b --seed 1 --ant 3")) 9
unfolding command_kind_of choice_of is_among rest_after is_file_name is_dumps dumps_of decimal_value
acts_without_rounds = read-refuses (words_of (codes "acts w r b --seed 1 --ant 3")) 9 refl

pub acts_two_files : IsRefusedAt (words_of (codes "acts w r --seed 1 --rounds 2")) 4
unfolding command_kind_of choice_of is_among rest_after is_file_name is_dumps dumps_of decimal_value
acts_two_files = read-refuses (words_of (codes "acts w r --seed 1 --rounds 2")) 4 refl

-- two brains
pub same_command : Says Same (codes "same a -")
    (AtFile 0 (codes "a") ∷ AtFile 1 (codes "-") ∷ IsGivenAs Way false ∷ [])
unfolding command_kind_of choice_of is_among rest_after is_file_name is_dumps dumps_of decimal_value
same_command = says _ _ _ refl (refl, (refl, (refl, tt)))

-- the way to the difference
pub same_way : Says Same (codes "same a b --way")
    (AtFile 0 (codes "a") ∷ AtFile 1 (codes "b") ∷ IsGivenAs Way true ∷ [])
unfolding command_kind_of choice_of is_among rest_after is_file_name is_dumps dumps_of decimal_value
same_way = says _ _ _ refl (refl, (refl, (refl, tt)))

-- not before the second file
pub way_before_a_file : IsRefusedAt (words_of (codes "same a --way b")) 3
unfolding command_kind_of choice_of is_among rest_after is_file_name is_dumps dumps_of decimal_value
way_before_a_file = read-refuses (words_of (codes "same a --way b")) 3 refl

-- one brain is a beginning
pub same_one : IsRefusedAt (words_of (codes "same a")) 3
unfolding command_kind_of choice_of is_among rest_after is_file_name is_dumps dumps_of decimal_value
same_one = read-refuses (words_of (codes "same a")) 3 refl

-- a third may not follow
pub same_three : IsRefusedAt (words_of (codes "same a b c")) 4
unfolding command_kind_of choice_of is_among rest_after is_file_name is_dumps dumps_of decimal_value
same_three = read-refuses (words_of (codes "same a b c")) 4 refl

-- there is no word
pub no_word : IsRefusedAt [] 1
no_word = read-refuses [] 1 refl

-- no command has this first word
pub unknown_command : IsRefusedAt (words_of (codes "Run w r b --seed 1 --rounds 1")) 1
unfolding command_kind_of choice_of is_among rest_after is_file_name is_dumps dumps_of decimal_value
unknown_command = read-refuses (words_of (codes "Run w r b --seed 1 --rounds 1")) 1 refl

-- --rounds is missing
pub rounds_missing : IsRefusedAt (words_of (codes "run w r b --seed 1")) 7
unfolding command_kind_of choice_of is_among rest_after is_file_name is_dumps dumps_of decimal_value
rounds_missing = read-refuses (words_of (codes "run w r b --seed 1")) 7 refl

-- an option stands twice
pub seed_given_twice : IsRefusedAt (words_of (codes "run w r b --seed 1 --seed 2")) 7
unfolding command_kind_of choice_of is_among rest_after is_file_name is_dumps dumps_of decimal_value
seed_given_twice = read-refuses (words_of (codes "run w r b --seed 1 --seed 2")) 7 refl

-- the seed is above 4,294,967,295
pub seed_too_great : IsRefusedAt (words_of (codes "show w 4294967296")) 3
unfolding command_kind_of choice_of is_among rest_after is_file_name is_dumps dumps_of decimal_value
seed_too_great = read-refuses (words_of (codes "show w 4294967296")) 3 refl

-- no word may follow
pub word_too_many : IsRefusedAt (words_of (codes "show w 1 2")) 4
unfolding command_kind_of choice_of is_among rest_after is_file_name is_dumps dumps_of decimal_value
word_too_many = read-refuses (words_of (codes "show w 1 2")) 4 refl

-- the width is below 3
pub side_too_small : IsRefusedAt (words_of (codes "gen 1 --width 2")) 4
unfolding command_kind_of choice_of is_among rest_after is_file_name is_dumps dumps_of decimal_value
side_too_small = read-refuses (words_of (codes "gen 1 --width 2")) 4 refl

-- a number is missing between two commas
pub list_with_a_gap : IsRefusedAt (words_of (codes "run w r b --dump 1,,2")) 6
unfolding command_kind_of choice_of is_among rest_after is_file_name is_dumps dumps_of decimal_value
list_with_a_gap = read-refuses (words_of (codes "run w r b --dump 1,,2")) 6 refl

-- `--` begins no file name
pub no_file_name : IsRefusedAt (words_of (codes "brain --")) 2
unfolding command_kind_of choice_of is_among rest_after is_file_name is_dumps dumps_of decimal_value
no_file_name = read-refuses (words_of (codes "brain --")) 2 refl

-- the seventh foe
pub surround_too_great : IsRefusedAt (words_of (codes "run w r b --seed 1 --rounds 1 --surround 7")) 10
unfolding command_kind_of choice_of is_among rest_after is_file_name is_dumps dumps_of decimal_value
surround_too_great = read-refuses (words_of (codes "run w r b --seed 1 --rounds 1 --surround 7")) 10 refl

-- three foes
pub surround_too_small : IsRefusedAt (words_of (codes "run w r b --surround 3")) 6
unfolding command_kind_of choice_of is_among rest_after is_file_name is_dumps dumps_of decimal_value
surround_too_small = read-refuses (words_of (codes "run w r b --surround 3")) 6 refl

-- ten food particles
pub corpse_too_great : IsRefusedAt (words_of (codes "run w r b --corpse 10")) 6
unfolding command_kind_of choice_of is_among rest_after is_file_name is_dumps dumps_of decimal_value
corpse_too_great = read-refuses (words_of (codes "run w r b --corpse 10")) 6 refl

-- 256 rounds of rest
pub rest_too_great : IsRefusedAt (words_of (codes "run w r b --rest 256")) 6
unfolding command_kind_of choice_of is_among rest_after is_file_name is_dumps dumps_of decimal_value
rest_too_great = read-refuses (words_of (codes "run w r b --rest 256")) 6 refl

-- no workers
pub no_workers : IsRefusedAt (words_of (codes "run w r b --workers 0")) 6
unfolding command_kind_of choice_of is_among rest_after is_file_name is_dumps dumps_of decimal_value
no_workers = read-refuses (words_of (codes "run w r b --workers 0")) 6 refl

-- 17 workers
pub too_many_workers : IsRefusedAt (words_of (codes "run w r b --workers 17")) 6
unfolding command_kind_of choice_of is_among rest_after is_file_name is_dumps dumps_of decimal_value
too_many_workers = read-refuses (words_of (codes "run w r b --workers 17")) 6 refl

-- a window without turns
pub no_window : IsRefusedAt (words_of (codes "run w r b --window 0")) 6
unfolding command_kind_of choice_of is_among rest_after is_file_name is_dumps dumps_of decimal_value
no_window = read-refuses (words_of (codes "run w r b --window 0")) 6 refl

-- a window of 16,385 turns
pub window_too_great : IsRefusedAt (words_of (codes "run w r b --window 16385")) 6
unfolding command_kind_of choice_of is_among rest_after is_file_name is_dumps dumps_of decimal_value
window_too_great = read-refuses (words_of (codes "run w r b --window 16385")) 6 refl

-- `--far`, among the other options
pub run_far : Says Run (codes "run w r b --far --seed 1 --workers 3 --rounds 2")
    (AtFile 0 (codes "w") ∷ AtFile 1 (codes "r") ∷ AtFile 2 (codes "b") ∷ OptionIs Seed 1 ∷ OptionIs Rounds 2 ∷ DumpsAre NoDump ∷ OptionIs Workers 3 ∷ OptionIs Window 16384 ∷ OptionIs Surround 5 ∷ OptionIs Corpse 3 ∷ OptionIs Rest 14 ∷ IsGivenAs Stats false ∷ IsGivenAs Far true ∷ [])
unfolding command_kind_of choice_of is_among rest_after is_file_name is_dumps dumps_of decimal_value
run_far = says _ _ _ refl (refl, (refl, (refl, (refl, (refl, (refl, (refl, (refl, (refl, (refl, (refl, (refl, (refl, tt)))))))))))))

-- `--far` takes no word
pub far_with_a_value : IsRefusedAt (words_of (codes "run w r b --far 1")) 6
unfolding command_kind_of choice_of is_among rest_after is_file_name is_dumps dumps_of decimal_value
far_with_a_value = read-refuses (words_of (codes "run w r b --far 1")) 6 refl

-- to a reader that doesn't know `--far` it is refused where it stands
pub far_not_known : IsRefusedAt (words_without_far (words_of (codes "run w r b --seed 1 --far --rounds 2"))) 7
unfolding command_kind_of choice_of is_among rest_after is_file_name is_dumps dumps_of decimal_value
far_not_known = read-refuses (words_without_far (words_of (codes "run w r b --seed 1 --far --rounds 2"))) 7 refl

-- and a word before it is refused first
pub far_after_a_refused_word : IsRefusedAt (words_without_far (words_of (codes "run w r b --seed x --far"))) 6
unfolding command_kind_of choice_of is_among rest_after is_file_name is_dumps dumps_of decimal_value
far_after_a_refused_word = read-refuses (words_without_far (words_of (codes "run w r b --seed x --far"))) 6 refl

-- `--stats` takes no word
pub stats_with_a_value : IsRefusedAt (words_of (codes "run w r b --stats 1")) 6
unfolding command_kind_of choice_of is_among rest_after is_file_name is_dumps dumps_of decimal_value
stats_with_a_value = read-refuses (words_of (codes "run w r b --stats 1")) 6 refl

-- 1,000,001 rounds
pub rounds_too_many : IsRefusedAt (words_of (codes "run w r b --rounds 1000001")) 6
unfolding command_kind_of choice_of is_among rest_after is_file_name is_dumps dumps_of decimal_value
rounds_too_many = read-refuses (words_of (codes "run w r b --rounds 1000001")) 6 refl

-- the height is above 512
pub side_too_great : IsRefusedAt (words_of (codes "gen 1 --height 513")) 4
unfolding command_kind_of choice_of is_among rest_after is_file_name is_dumps dumps_of decimal_value
side_too_great = read-refuses (words_of (codes "gen 1 --height 513")) 4 refl

-- 256 rocks
pub rocks_too_many : IsRefusedAt (words_of (codes "gen 1 --rocks 256")) 4
unfolding command_kind_of choice_of is_among rest_after is_file_name is_dumps dumps_of decimal_value
rocks_too_many = read-refuses (words_of (codes "gen 1 --rocks 256")) 4 refl

-- 256 blobs
pub blobs_too_many : IsRefusedAt (words_of (codes "gen 1 --blobs 256")) 4
unfolding command_kind_of choice_of is_among rest_after is_file_name is_dumps dumps_of decimal_value
blobs_too_many = read-refuses (words_of (codes "gen 1 --blobs 256")) 4 refl

-- an option of another command
pub option_of_another : IsRefusedAt (words_of (codes "gen 1 --rounds 1")) 3
unfolding command_kind_of choice_of is_among rest_after is_file_name is_dumps dumps_of decimal_value
option_of_another = read-refuses (words_of (codes "gen 1 --rounds 1")) 3 refl

-- --seed is missing
pub seed_missing : IsRefusedAt (words_of (codes "run w r b --rounds 1")) 7
unfolding command_kind_of choice_of is_among rest_after is_file_name is_dumps dumps_of decimal_value
seed_missing = read-refuses (words_of (codes "run w r b --rounds 1")) 7 refl

-- a file name has a byte at least
pub empty_name : IsRefusedAt (words_of (codes "brain ")) 2
unfolding command_kind_of choice_of is_among rest_after is_file_name is_dumps dumps_of decimal_value
empty_name = read-refuses (words_of (codes "brain ")) 2 refl

-- an option and its number are two words
pub equals_sign : IsRefusedAt (words_of (codes "run w r b --seed=1")) 5
unfolding command_kind_of choice_of is_among rest_after is_file_name is_dumps dumps_of decimal_value
equals_sign = read-refuses (words_of (codes "run w r b --seed=1")) 5 refl

-- words are spelled exactly
pub dump_spelled_otherwise : IsRefusedAt (words_of (codes "run w r b --dump None")) 6
unfolding command_kind_of choice_of is_among rest_after is_file_name is_dumps dumps_of decimal_value
dump_spelled_otherwise = read-refuses (words_of (codes "run w r b --dump None")) 6 refl

-- `show` takes no option
pub show_takes_no_option : IsRefusedAt (words_of (codes "show w 1 --seed 1")) 4
unfolding command_kind_of choice_of is_among rest_after is_file_name is_dumps dumps_of decimal_value
show_takes_no_option = read-refuses (words_of (codes "show w 1 --seed 1")) 4 refl

-- `run` takes no shape
pub run_takes_no_width : IsRefusedAt (words_of (codes "run w r b --width 150")) 5
unfolding command_kind_of choice_of is_among rest_after is_file_name is_dumps dumps_of decimal_value
run_takes_no_width = read-refuses (words_of (codes "run w r b --width 150")) 5 refl

-- `view` needs a file of breaks
pub view_without_breaks : IsRefusedAt (words_of (codes "view w r b --seed 1")) 5
unfolding command_kind_of choice_of is_among rest_after is_file_name is_dumps dumps_of decimal_value
view_without_breaks = read-refuses (words_of (codes "view w r b --seed 1")) 5 refl

-- 1,000,001 is no round of a view, nor is a number of 11 digits, and one first round is enough
pub view_from_too_late : IsRefusedAt (words_of (codes "view w r b k --from 1000001")) 7
unfolding command_kind_of choice_of is_among rest_after is_file_name is_dumps dumps_of decimal_value
view_from_too_late = read-refuses (words_of (codes "view w r b k --from 1000001")) 7 refl

pub view_from_too_long : IsRefusedAt (words_of (codes "view w r b k --from 00000000001")) 7
unfolding command_kind_of choice_of is_among rest_after is_file_name is_dumps dumps_of decimal_value
view_from_too_long = read-refuses (words_of (codes "view w r b k --from 00000000001")) 7 refl

pub view_from_twice : IsRefusedAt (words_of (codes "view w r b k --from 1 --from 1")) 8
unfolding command_kind_of choice_of is_among rest_after is_file_name is_dumps dumps_of decimal_value
view_from_twice = read-refuses (words_of (codes "view w r b k --from 1 --from 1")) 8 refl

-- `view` takes no workers
pub view_takes_no_workers : IsRefusedAt (words_of (codes "view w r b k --workers 1")) 6
unfolding command_kind_of choice_of is_among rest_after is_file_name is_dumps dumps_of decimal_value
view_takes_no_workers = read-refuses (words_of (codes "view w r b k --workers 1")) 6 refl

-- two brains are the same
pub equal_brains : IsRefusedAt (words_of (codes "cup --worlds w --brains a a")) 6
unfolding command_kind_of choice_of is_among rest_after is_file_name is_dumps dumps_of decimal_value
equal_brains = read-refuses (words_of (codes "cup --worlds w --brains a a")) 6 refl

-- two brains are the same, with one between them
pub equal_brains_apart : IsRefusedAt (words_of (codes "cup --worlds w --brains a b a")) 7
unfolding command_kind_of choice_of is_among rest_after is_file_name is_dumps dumps_of decimal_value
equal_brains_apart = read-refuses (words_of (codes "cup --worlds w --brains a b a")) 7 refl

-- the worlds come first
pub cup_worlds_first : IsRefusedAt (words_of (codes "cup --brains a b --worlds w")) 2
unfolding command_kind_of choice_of is_among rest_after is_file_name is_dumps dumps_of decimal_value
cup_worlds_first = read-refuses (words_of (codes "cup --brains a b --worlds w")) 2 refl

-- no world
pub cup_no_world : IsRefusedAt (words_of (codes "cup --worlds --brains a b")) 3
unfolding command_kind_of choice_of is_among rest_after is_file_name is_dumps dumps_of decimal_value
cup_no_world = read-refuses (words_of (codes "cup --worlds --brains a b")) 3 refl

-- one brain is a beginning
pub cup_one_brain : IsRefusedAt (words_of (codes "cup --worlds w --brains a")) 6
unfolding command_kind_of choice_of is_among rest_after is_file_name is_dumps dumps_of decimal_value
cup_one_brain = read-refuses (words_of (codes "cup --worlds w --brains a")) 6 refl

-- no worker of a workload
pub workload_workers : IsRefusedAt (words_of (codes "workload 1 2 0")) 4
unfolding command_kind_of choice_of is_among rest_after is_file_name is_dumps dumps_of decimal_value
workload_workers = read-refuses (words_of (codes "workload 1 2 0")) 4 refl

-- `workload` takes no option
pub workload_takes_no_option : IsRefusedAt (words_of (codes "workload 1 2 3 --stats")) 5
unfolding command_kind_of choice_of is_among rest_after is_file_name is_dumps dumps_of decimal_value
workload_takes_no_option = read-refuses (words_of (codes "workload 1 2 3 --stats")) 5 refl
