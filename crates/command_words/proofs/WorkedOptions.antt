-- Options that a command doesn't take, each refused at its word; and the greatest numbers and the names of the other
-- commands.
use Rattle.std.proofs.Common.{◌≡◌, ℕ, List, [], ◌∷◌, ◌++◌, codes, false, refl, Err}
use Rattle.std.proofs.lemmas.Bool.{false≢true}
use Rattle.ant_base.specs.Number.{decimal_value}
use Rattle.command_words.specs.Slots.{is_file_name, is_dumps, dumps_of}
use Rattle.command_words.specs.Slots.DumpChoice.{NoDump}
use Rattle.command_words.specs.declared.table.CommandKind.TheVariants.{Brain, Run, Gen, Cup, Show, View, Workload}
use Rattle.command_words.specs.declared.table.Choice.TheVariants.{Seed, Rounds, Workers, Window, Surround, Corpse, Rest, Stats, Far, Width, Height, Rocks, Blobs, Games}
use Rattle.command_words.specs.declared.table.NameList.TheVariants.{Worlds, Brains}
use Rattle.command_words.specs.Command.{IsRefusedAt, is_among, rest_after}
use Rattle.command_words.specs.Table.{HasFile, HasNames, HasNumber, HasNumberOption, HasOption}
use Rattle.command_words.specs.Inner.Walk.{command_kind_of, choice_of, read_of}
use Rattle.command_words.proofs.ReadLemmas.{read-refuses}
use Rattle.command_words.proofs.WorkedLines.{Says, says, words_of}
use Rattle.command_words.proofs.WorkedLines.Answer.{AtFile, AtNumber, NamesAre, OptionIs, DumpsAre, IsGivenAs}

-- each of these words is refused at this number, if it follows the words of a line
abbrev AreRefusedAfter : List ℕ → ℕ → List (List ℕ) → Type 0
AreRefusedAfter line number [] = Unit {0}
AreRefusedAfter line number (word ∷ words) = IsRefusedAt (words_of line ++ word ∷ []) number × AreRefusedAfter line number words

-- reading computes so for each of them
abbrev ReadRefused : List ℕ → ℕ → List (List ℕ) → Type 0
ReadRefused line number [] = Unit {0}
ReadRefused line number (word ∷ words) = (read_of (words_of line ++ word ∷ []) ≡ Err number) × ReadRefused line number words

refused_after : (line : List ℕ) (number : ℕ) (words : List (List ℕ)) → ReadRefused line number words → AreRefusedAfter line number words
refused_after line number [] read = tt
refused_after line number (word ∷ words) read =
    (read-refuses (words_of line ++ word ∷ []) number read.0, refused_after line number words read.1)

-- the options of a game, except for those that follow below
abbrev game_options : List (List ℕ)
game_options = (codes "--dump") ∷ (codes "--window") ∷ (codes "--surround") ∷ (codes "--corpse") ∷ (codes "--rest") ∷ (codes "--stats") ∷ (codes "--far") ∷ []

-- the options of a world that only `gen` has
abbrev shape_options : List (List ℕ)
shape_options = (codes "--width") ∷ (codes "--height") ∷ (codes "--rocks") ∷ (codes "--blobs") ∷ []

-- the other options
abbrev common_options : List (List ℕ)
common_options = (codes "--seed") ∷ (codes "--rounds") ∷ (codes "--workers") ∷ []

-- the options of several commands, and those of one command alone
abbrev shared_options : List (List ℕ)
shared_options = game_options ++ shape_options ++ common_options

abbrev own_options : List (List ℕ)
own_options = (codes "--labels") ∷ (codes "--lines") ∷ (codes "--states") ∷ (codes "--way") ∷ (codes "--games") ∷ []

-- the options of a game that is reported
abbrev told_options : List (List ℕ)
told_options = (codes "--from") ∷ (codes "--ant") ∷ (codes "--food") ∷ []

-- all options but the three of `cup` that follow below
abbrev all_options : List (List ℕ)
all_options = shared_options ++ own_options ++ told_options

-- `show` takes no option
pub show_takes_none : AreRefusedAfter (codes "show w 1") 4 all_options
unfolding command_kind_of choice_of is_among rest_after is_file_name is_dumps dumps_of decimal_value
show_takes_none = refused_after (codes "show w 1") 4 all_options
    (refl, (refl, (refl, (refl, (refl, (refl, (refl, (refl, (refl, (refl, (refl, (refl, (refl, (refl, (refl, (refl, (refl, (refl, (refl, (refl, (refl, (refl, tt))))))))))))))))))))))

-- `brain` takes no option
pub brain_takes_none : AreRefusedAfter (codes "brain b") 3 all_options
unfolding command_kind_of choice_of is_among rest_after is_file_name is_dumps dumps_of decimal_value
brain_takes_none = refused_after (codes "brain b") 3 all_options
    (refl, (refl, (refl, (refl, (refl, (refl, (refl, (refl, (refl, (refl, (refl, (refl, (refl, (refl, (refl, (refl, (refl, (refl, (refl, (refl, (refl, (refl, tt))))))))))))))))))))))

-- `minimise` takes `--states` alone
pub minimise_takes_one : AreRefusedAfter (codes "minimise b") 3 (shared_options ++ told_options ++ (codes "--labels") ∷ (codes "--lines") ∷ (codes "--way") ∷ (codes "--games") ∷ [])
unfolding command_kind_of choice_of is_among rest_after is_file_name is_dumps dumps_of decimal_value
minimise_takes_one = refused_after (codes "minimise b") 3 (shared_options ++ told_options ++ (codes "--labels") ∷ (codes "--lines") ∷ (codes "--way") ∷ (codes "--games") ∷ [])
    (refl, (refl, (refl, (refl, (refl, (refl, (refl, (refl, (refl, (refl, (refl, (refl, (refl, (refl, (refl, (refl, (refl, (refl, (refl, (refl, (refl, tt)))))))))))))))))))))

-- `asm` takes `--labels` and `--lines` alone
pub asm_takes_two : AreRefusedAfter (codes "asm p") 3 (shared_options ++ told_options ++ (codes "--states") ∷ (codes "--way") ∷ (codes "--games") ∷ [])
unfolding command_kind_of choice_of is_among rest_after is_file_name is_dumps dumps_of decimal_value
asm_takes_two = refused_after (codes "asm p") 3 (shared_options ++ told_options ++ (codes "--states") ∷ (codes "--way") ∷ (codes "--games") ∷ [])
    (refl, (refl, (refl, (refl, (refl, (refl, (refl, (refl, (refl, (refl, (refl, (refl, (refl, (refl, (refl, (refl, (refl, (refl, (refl, (refl, tt))))))))))))))))))))

-- `workload` takes no option
pub workload_takes_none : AreRefusedAfter (codes "workload 1 2 3") 5 all_options
unfolding command_kind_of choice_of is_among rest_after is_file_name is_dumps dumps_of decimal_value
workload_takes_none = refused_after (codes "workload 1 2 3") 5 all_options
    (refl, (refl, (refl, (refl, (refl, (refl, (refl, (refl, (refl, (refl, (refl, (refl, (refl, (refl, (refl, (refl, (refl, (refl, (refl, (refl, (refl, (refl, tt))))))))))))))))))))))

-- `run` takes no option of a world
pub run_takes_no_shape : AreRefusedAfter (codes "run w r b") 5 shape_options
unfolding command_kind_of choice_of is_among rest_after is_file_name is_dumps dumps_of decimal_value
run_takes_no_shape = refused_after (codes "run w r b") 5 shape_options
    (refl, (refl, (refl, (refl, tt))))

-- `save` takes no dumps, no counts, no standing workers, and no option of a world
pub save_takes_no_text : AreRefusedAfter (codes "save w r b") 5 ((codes "--dump") ∷ (codes "--stats") ∷ (codes "--far") ∷ shape_options)
unfolding command_kind_of choice_of is_among rest_after is_file_name is_dumps dumps_of decimal_value
save_takes_no_text = refused_after (codes "save w r b") 5 ((codes "--dump") ∷ (codes "--stats") ∷ (codes "--far") ∷ shape_options)
    (refl, (refl, (refl, (refl, (refl, (refl, (refl, tt)))))))

-- what a save holds, `resume` takes no option for: the seed, the window and the sheet; nor does it take standing
-- workers or an option of a world
abbrev held_options : List (List ℕ)
held_options = (codes "--seed") ∷ (codes "--window") ∷ (codes "--surround") ∷ (codes "--corpse") ∷ (codes "--rest") ∷ []

pub resume_takes_four : AreRefusedAfter (codes "resume k") 3 (held_options ++ (codes "--far") ∷ shape_options)
unfolding command_kind_of choice_of is_among rest_after is_file_name is_dumps dumps_of decimal_value
resume_takes_four = refused_after (codes "resume k") 3 (held_options ++ (codes "--far") ∷ shape_options)
    (refl, (refl, (refl, (refl, (refl, (refl, (refl, (refl, (refl, (refl, tt))))))))))

-- nor does `advance`, and it writes no dumps and no counts
pub advance_takes_two : AreRefusedAfter (codes "advance k") 3 (held_options ++ (codes "--dump") ∷ (codes "--stats") ∷ (codes "--far") ∷ (shape_options ++ own_options ++ told_options))
unfolding command_kind_of choice_of is_among rest_after is_file_name is_dumps dumps_of decimal_value
advance_takes_two = refused_after (codes "advance k") 3 (held_options ++ (codes "--dump") ∷ (codes "--stats") ∷ (codes "--far") ∷ (shape_options ++ own_options ++ told_options))
    (refl, (refl, (refl, (refl, (refl, (refl, (refl, (refl, (refl, (refl, (refl, (refl, (refl, (refl, (refl, (refl, (refl, (refl, (refl, (refl, tt))))))))))))))))))))

-- `gen` takes no option of a game
pub gen_takes_no_game : AreRefusedAfter (codes "gen 1") 3 (game_options ++ common_options)
unfolding command_kind_of choice_of is_among rest_after is_file_name is_dumps dumps_of decimal_value
gen_takes_no_game = refused_after (codes "gen 1") 3 (game_options ++ common_options)
    (refl, (refl, (refl, (refl, (refl, (refl, (refl, (refl, (refl, (refl, tt))))))))))

-- `cup` takes no option of a game but its seed, rounds and workers, and none of a world
pub cup_takes_few : AreRefusedAfter (codes "cup --worlds w --brains a b") 7 ((codes "--labels") ∷ (codes "--states") ∷ (game_options ++ shape_options))
unfolding command_kind_of choice_of is_among rest_after is_file_name is_dumps dumps_of decimal_value
cup_takes_few = refused_after (codes "cup --worlds w --brains a b") 7 ((codes "--labels") ∷ (codes "--states") ∷ (game_options ++ shape_options))
    (refl, (refl, (refl, (refl, (refl, (refl, (refl, (refl, (refl, (refl, (refl, (refl, (refl, tt)))))))))))))

-- `view` takes a seed, rounds and the first one that is looked at alone
pub view_takes_three : AreRefusedAfter (codes "view w r b k") 6 ((codes "--workers") ∷ (game_options ++ shape_options))
unfolding command_kind_of choice_of is_among rest_after is_file_name is_dumps dumps_of decimal_value
view_takes_three = refused_after (codes "view w r b k") 6 ((codes "--workers") ∷ (game_options ++ shape_options))
    (refl, (refl, (refl, (refl, (refl, (refl, (refl, (refl, (refl, (refl, (refl, (refl, tt))))))))))))

-- `trace` takes no dumps, no workers, no windows, no counts, and no option of a world
pub trace_takes_few : AreRefusedAfter (codes "trace w r b 1") 6 ((codes "--dump") ∷ (codes "--workers") ∷ (codes "--window") ∷ (codes "--stats") ∷ (codes "--far") ∷ (codes "--ant") ∷ (codes "--food") ∷ shape_options)
unfolding command_kind_of choice_of is_among rest_after is_file_name is_dumps dumps_of decimal_value
trace_takes_few = refused_after (codes "trace w r b 1") 6 ((codes "--dump") ∷ (codes "--workers") ∷ (codes "--window") ∷ (codes "--stats") ∷ (codes "--far") ∷ (codes "--ant") ∷ (codes "--food") ∷ shape_options)
    (refl, (refl, (refl, (refl, (refl, (refl, (refl, (refl, (refl, (refl, (refl, tt)))))))))))

-- `events`, `acts` and `profile` take what `trace` does, and `events` `--food`, and `acts` `--ant`
pub events_takes_few : AreRefusedAfter (codes "events w r b") 5 ((codes "--dump") ∷ (codes "--workers") ∷ (codes "--window") ∷ (codes "--stats") ∷ (codes "--far") ∷ (shape_options ++ own_options ++ (codes "--ant") ∷ []))
unfolding command_kind_of choice_of is_among rest_after is_file_name is_dumps dumps_of decimal_value
events_takes_few = refused_after (codes "events w r b") 5 ((codes "--dump") ∷ (codes "--workers") ∷ (codes "--window") ∷ (codes "--stats") ∷ (codes "--far") ∷ (shape_options ++ own_options ++ (codes "--ant") ∷ []))
    (refl, (refl, (refl, (refl, (refl, (refl, (refl, (refl, (refl, (refl, (refl, (refl, (refl, (refl, (refl, tt)))))))))))))))

pub acts_takes_few : AreRefusedAfter (codes "acts w r b") 5 ((codes "--dump") ∷ (codes "--workers") ∷ (codes "--window") ∷ (codes "--stats") ∷ (codes "--far") ∷ (shape_options ++ own_options ++ (codes "--food") ∷ []))
unfolding command_kind_of choice_of is_among rest_after is_file_name is_dumps dumps_of decimal_value
acts_takes_few = refused_after (codes "acts w r b") 5 ((codes "--dump") ∷ (codes "--workers") ∷ (codes "--window") ∷ (codes "--stats") ∷ (codes "--far") ∷ (shape_options ++ own_options ++ (codes "--food") ∷ []))
    (refl, (refl, (refl, (refl, (refl, (refl, (refl, (refl, (refl, (refl, (refl, (refl, (refl, (refl, (refl, tt)))))))))))))))

pub profile_takes_few : AreRefusedAfter (codes "profile w r b") 5 ((codes "--dump") ∷ (codes "--workers") ∷ (codes "--window") ∷ (codes "--stats") ∷ (codes "--far") ∷ (shape_options ++ own_options ++ (codes "--ant") ∷ (codes "--food") ∷ []))
unfolding command_kind_of choice_of is_among rest_after is_file_name is_dumps dumps_of decimal_value
profile_takes_few = refused_after (codes "profile w r b") 5 ((codes "--dump") ∷ (codes "--workers") ∷ (codes "--window") ∷ (codes "--stats") ∷ (codes "--far") ∷ (shape_options ++ own_options ++ (codes "--ant") ∷ (codes "--food") ∷ []))
    (refl, (refl, (refl, (refl, (refl, (refl, (refl, (refl, (refl, (refl, (refl, (refl, (refl, (refl, (refl, (refl, tt))))))))))))))))

-- `same` takes `--way` alone
pub same_takes_one : AreRefusedAfter (codes "same a b") 4 (shared_options ++ told_options ++ (codes "--labels") ∷ (codes "--lines") ∷ (codes "--states") ∷ (codes "--games") ∷ [])
unfolding command_kind_of choice_of is_among rest_after is_file_name is_dumps dumps_of decimal_value
same_takes_one = refused_after (codes "same a b") 4 (shared_options ++ told_options ++ (codes "--labels") ∷ (codes "--lines") ∷ (codes "--states") ∷ (codes "--games") ∷ [])
    (refl, (refl, (refl, (refl, (refl, (refl, (refl, (refl, (refl, (refl, (refl, (refl, (refl, (refl, (refl, (refl, (refl, (refl, (refl, (refl, (refl, tt)))))))))))))))))))))

-- nor does `run` take an option of one other command
pub run_takes_no_own : AreRefusedAfter (codes "run w r b") 5 (own_options ++ told_options)
unfolding command_kind_of choice_of is_among rest_after is_file_name is_dumps dumps_of decimal_value
run_takes_no_own = refused_after (codes "run w r b") 5 (own_options ++ told_options)
    (refl, (refl, (refl, (refl, (refl, (refl, (refl, (refl, tt))))))))

-- no other command takes the options that `cup` alone has
abbrev cup_options : List (List ℕ)
cup_options = (codes "--seeds") ∷ (codes "--leads") ∷ (codes "--gauntlet") ∷ []

pub others_take_none_of_cup :
    AreRefusedAfter (codes "show w 1") 4 cup_options
    × AreRefusedAfter (codes "brain b") 3 cup_options
    × AreRefusedAfter (codes "minimise b") 3 cup_options
    × AreRefusedAfter (codes "run w r b") 5 cup_options
    × AreRefusedAfter (codes "save w r b") 5 cup_options
    × AreRefusedAfter (codes "resume k") 3 cup_options
    × AreRefusedAfter (codes "advance k") 3 cup_options
    × AreRefusedAfter (codes "view w r b k") 6 cup_options
    × AreRefusedAfter (codes "trace w r b 1") 6 cup_options
    × AreRefusedAfter (codes "events w r b") 5 cup_options
    × AreRefusedAfter (codes "acts w r b") 5 cup_options
    × AreRefusedAfter (codes "profile w r b") 5 cup_options
    × AreRefusedAfter (codes "same a b") 4 cup_options
    × AreRefusedAfter (codes "asm p") 3 cup_options
    × AreRefusedAfter (codes "gen 1") 3 cup_options
    × AreRefusedAfter (codes "workload 1 2 3") 5 cup_options
unfolding command_kind_of choice_of is_among rest_after is_file_name is_dumps dumps_of decimal_value
others_take_none_of_cup = (
  refused_after (codes "show w 1") 4 cup_options (refl, (refl, (refl, tt))),
  refused_after (codes "brain b") 3 cup_options (refl, (refl, (refl, tt))),
  refused_after (codes "minimise b") 3 cup_options (refl, (refl, (refl, tt))),
  refused_after (codes "run w r b") 5 cup_options (refl, (refl, (refl, tt))),
  refused_after (codes "save w r b") 5 cup_options (refl, (refl, (refl, tt))),
  refused_after (codes "resume k") 3 cup_options (refl, (refl, (refl, tt))),
  refused_after (codes "advance k") 3 cup_options (refl, (refl, (refl, tt))),
  refused_after (codes "view w r b k") 6 cup_options (refl, (refl, (refl, tt))),
  refused_after (codes "trace w r b 1") 6 cup_options (refl, (refl, (refl, tt))),
  refused_after (codes "events w r b") 5 cup_options (refl, (refl, (refl, tt))),
  refused_after (codes "acts w r b") 5 cup_options (refl, (refl, (refl, tt))),
  refused_after (codes "profile w r b") 5 cup_options (refl, (refl, (refl, tt))),
  refused_after (codes "same a b") 4 cup_options (refl, (refl, (refl, tt))),
  refused_after (codes "asm p") 3 cup_options (refl, (refl, (refl, tt))),
  refused_after (codes "gen 1") 3 cup_options (refl, (refl, (refl, tt))),
  refused_after (codes "workload 1 2 3") 5 cup_options (refl, (refl, (refl, tt))),
)

-- of the options of one command, and of what is told of a game, those that the lemmas above leave out
abbrev told_and_own : List (List ℕ)
told_and_own = told_options ++ own_options

pub others_take_none_of_told :
    AreRefusedAfter (codes "save w r b") 5 told_and_own
    × AreRefusedAfter (codes "resume k") 3 told_and_own
    × AreRefusedAfter (codes "gen 1") 3 told_and_own
    × AreRefusedAfter (codes "cup --worlds w --brains a b") 7 (told_options ++ (codes "--lines") ∷ (codes "--way") ∷ [])
    × AreRefusedAfter (codes "view w r b k") 6 ((codes "--ant") ∷ (codes "--food") ∷ own_options)
    × AreRefusedAfter (codes "trace w r b 1") 6 own_options
unfolding command_kind_of choice_of is_among rest_after is_file_name is_dumps dumps_of decimal_value
others_take_none_of_told = (
  refused_after (codes "save w r b") 5 told_and_own (refl, (refl, (refl, (refl, (refl, (refl, (refl, (refl, tt)))))))),
  refused_after (codes "resume k") 3 told_and_own (refl, (refl, (refl, (refl, (refl, (refl, (refl, (refl, tt)))))))),
  refused_after (codes "gen 1") 3 told_and_own (refl, (refl, (refl, (refl, (refl, (refl, (refl, (refl, tt)))))))),
  refused_after (codes "cup --worlds w --brains a b") 7 (told_options ++ (codes "--lines") ∷ (codes "--way") ∷ []) (refl, (refl, (refl, (refl, (refl, tt))))),
  refused_after (codes "view w r b k") 6 ((codes "--ant") ∷ (codes "--food") ∷ own_options) (refl, (refl, (refl, (refl, (refl, (refl, (refl, tt))))))),
  refused_after (codes "trace w r b 1") 6 own_options (refl, (refl, (refl, (refl, (refl, tt))))),
)

-- the greatest seed of a game
pub run_greatest_seed : Says Run (codes "run w r b --seed 4294967295 --rounds 1000000")
    (AtFile 0 (codes "w") ∷ AtFile 1 (codes "r") ∷ AtFile 2 (codes "b") ∷ OptionIs Seed 4294967295 ∷ OptionIs Rounds 1000000 ∷ DumpsAre NoDump ∷ OptionIs Workers 1 ∷ OptionIs Window 16384 ∷ OptionIs Surround 5 ∷ OptionIs Corpse 3 ∷ OptionIs Rest 14 ∷ IsGivenAs Stats false ∷ IsGivenAs Far false ∷ [])
unfolding command_kind_of choice_of is_among rest_after is_file_name is_dumps dumps_of decimal_value
run_greatest_seed = says _ _ _ refl (refl, (refl, (refl, (refl, (refl, (refl, (refl, (refl, (refl, (refl, (refl, (refl, (refl, tt)))))))))))))

-- of a generated world
pub gen_greatest_seed : Says Gen (codes "gen 4294967295")
    (AtNumber 0 4294967295 ∷ OptionIs Width 150 ∷ OptionIs Height 150 ∷ OptionIs Rocks 14 ∷ OptionIs Blobs 11 ∷ [])
unfolding command_kind_of choice_of is_among rest_after is_file_name is_dumps dumps_of decimal_value
gen_greatest_seed = says _ _ _ refl (refl, (refl, (refl, (refl, (refl, tt)))))

-- of a cup
pub cup_greatest_seed : Says Cup (codes "cup --worlds w --brains a b --seed 4294967295 --rounds 1000000")
    (NamesAre Worlds ((codes "w") ∷ []) ∷ NamesAre Brains ((codes "a") ∷ (codes "b") ∷ []) ∷ OptionIs Seed 4294967295 ∷ OptionIs Rounds 1000000 ∷ OptionIs Workers 1 ∷ IsGivenAs Games false ∷ [])
unfolding command_kind_of choice_of is_among rest_after is_file_name is_dumps dumps_of decimal_value
cup_greatest_seed = says _ _ _ refl (refl, (refl, (refl, (refl, (refl, (refl, tt))))))

-- of a view
pub view_greatest_seed : Says View (codes "view w r b k --seed 4294967295 --rounds 1000000")
    (AtFile 0 (codes "w") ∷ AtFile 1 (codes "r") ∷ AtFile 2 (codes "b") ∷ AtFile 3 (codes "k") ∷ OptionIs Seed 4294967295 ∷ OptionIs Rounds 1000000 ∷ [])
unfolding command_kind_of choice_of is_among rest_after is_file_name is_dumps dumps_of decimal_value
view_greatest_seed = says _ _ _ refl (refl, (refl, (refl, (refl, (refl, (refl, tt))))))

-- and of a workload, with the most rounds and workers
pub workload_greatest : Says Workload (codes "workload 4294967295 1000000 16")
    (AtNumber 0 4294967295 ∷ AtNumber 1 1000000 ∷ AtNumber 2 16 ∷ [])
unfolding command_kind_of choice_of is_among rest_after is_file_name is_dumps dumps_of decimal_value
workload_greatest = says _ _ _ refl (refl, (refl, (refl, tt)))

-- dashes may stand within a file name
pub dashes_within : Says Brain (codes "brain a--b")
    (AtFile 0 (codes "a--b") ∷ [])
unfolding command_kind_of choice_of is_among rest_after is_file_name is_dumps dumps_of decimal_value
dashes_within = says _ _ _ refl (refl, tt)

-- an option stands twice, with another between
pub seed_given_twice_apart : IsRefusedAt (words_of (codes "run w r b --seed 1 --rounds 2 --seed 3")) 9
unfolding command_kind_of choice_of is_among rest_after is_file_name is_dumps dumps_of decimal_value
seed_given_twice_apart = read-refuses (words_of (codes "run w r b --seed 1 --rounds 2 --seed 3")) 9 refl

-- `--stats` stands twice
pub stats_given_twice : IsRefusedAt (words_of (codes "run w r b --stats --stats")) 6
unfolding command_kind_of choice_of is_among rest_after is_file_name is_dumps dumps_of decimal_value
stats_given_twice = read-refuses (words_of (codes "run w r b --stats --stats")) 6 refl

-- a number has at most ten digits
pub eleven_digits : IsRefusedAt (words_of (codes "show w 00000000001")) 3
unfolding command_kind_of choice_of is_among rest_after is_file_name is_dumps dumps_of decimal_value
eleven_digits = read-refuses (words_of (codes "show w 00000000001")) 3 refl

-- 1,000,001 rounds of a workload
pub workload_rounds_too_many : IsRefusedAt (words_of (codes "workload 1 1000001 1")) 3
unfolding command_kind_of choice_of is_among rest_after is_file_name is_dumps dumps_of decimal_value
workload_rounds_too_many = read-refuses (words_of (codes "workload 1 1000001 1")) 3 refl

-- 17 workers of a workload
pub workload_workers_too_many : IsRefusedAt (words_of (codes "workload 1 2 17")) 4
unfolding command_kind_of choice_of is_among rest_after is_file_name is_dumps dumps_of decimal_value
workload_workers_too_many = read-refuses (words_of (codes "workload 1 2 17")) 4 refl

-- a dump after round 1,000,001
pub dump_too_late : IsRefusedAt (words_of (codes "run w r b --dump 0,1000001")) 6
unfolding command_kind_of choice_of is_among rest_after is_file_name is_dumps dumps_of decimal_value
dump_too_late = read-refuses (words_of (codes "run w r b --dump 0,1000001")) 6 refl

-- what a command's row doesn't have can't be requested
row_lacks : (HasFile Run 3 → ⊥) × (HasNumber Run 0 → ⊥) × (HasNames Run Worlds → ⊥) × (HasOption Show Seed → ⊥) × (HasNumberOption Run Stats → ⊥)
row_lacks = (false≢true, false≢true, false≢true, false≢true, false≢true)
