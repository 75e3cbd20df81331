-- Words of cups that are refused, each at its word.
use Rattle.std.proofs.Common.{codes, refl}
use Rattle.ant_base.specs.Number.{decimal_value}
use Rattle.command_words.specs.Slots.{is_file_name, is_dumps, dumps_of}
use Rattle.command_words.specs.Command.{IsRefusedAt, is_among, rest_after}
use Rattle.command_words.specs.Inner.Walk.{command_kind_of, choice_of}
use Rattle.command_words.proofs.ReadLemmas.{read-refuses}
use Rattle.command_words.proofs.WorkedLines.{words_of}

-- one brain, and then an option
pub cup_one_brain_then_option : IsRefusedAt (words_of (codes "cup --worlds w --brains a --seed 1")) 6
unfolding command_kind_of choice_of is_among rest_after is_file_name is_dumps dumps_of decimal_value
cup_one_brain_then_option = read-refuses (words_of (codes "cup --worlds w --brains a --seed 1")) 6 refl

-- the worlds are a beginning
pub cup_no_brains : IsRefusedAt (words_of (codes "cup --worlds w")) 4
unfolding command_kind_of choice_of is_among rest_after is_file_name is_dumps dumps_of decimal_value
cup_no_brains = read-refuses (words_of (codes "cup --worlds w")) 4 refl

-- an option before the brains
pub cup_options_before_brains : IsRefusedAt (words_of (codes "cup --worlds w --seed 1")) 4
unfolding command_kind_of choice_of is_among rest_after is_file_name is_dumps dumps_of decimal_value
cup_options_before_brains = read-refuses (words_of (codes "cup --worlds w --seed 1")) 4 refl

-- both lists are a beginning
pub cup_unfinished : IsRefusedAt (words_of (codes "cup --worlds w --brains a b")) 7
unfolding command_kind_of choice_of is_among rest_after is_file_name is_dumps dumps_of decimal_value
cup_unfinished = read-refuses (words_of (codes "cup --worlds w --brains a b")) 7 refl

-- 17 workers of a cup
pub cup_workers_too_many : IsRefusedAt (words_of (codes "cup --worlds w --brains a b --workers 17")) 8
unfolding command_kind_of choice_of is_among rest_after is_file_name is_dumps dumps_of decimal_value
cup_workers_too_many = read-refuses (words_of (codes "cup --worlds w --brains a b --workers 17")) 8 refl

-- 17 worlds
pub cup_seventeen_worlds : IsRefusedAt (words_of (codes "cup --worlds a b c d e f g h i j k l m n o p q --brains a b")) 19
unfolding command_kind_of choice_of is_among rest_after is_file_name is_dumps dumps_of decimal_value
cup_seventeen_worlds = read-refuses (words_of (codes "cup --worlds a b c d e f g h i j k l m n o p q --brains a b")) 19 refl

-- 17 brains
pub cup_seventeen_brains : IsRefusedAt (words_of (codes "cup --worlds w --brains a b c d e f g h i j k l m n o p q")) 21
unfolding command_kind_of choice_of is_among rest_after is_file_name is_dumps dumps_of decimal_value
cup_seventeen_brains = read-refuses (words_of (codes "cup --worlds w --brains a b c d e f g h i j k l m n o p q")) 21 refl

-- no name may follow the options
pub cup_name_after_options : IsRefusedAt (words_of (codes "cup --worlds w --brains a b --seed 1 c")) 9
unfolding command_kind_of choice_of is_among rest_after is_file_name is_dumps dumps_of decimal_value
cup_name_after_options = read-refuses (words_of (codes "cup --worlds w --brains a b --seed 1 c")) 9 refl

-- `cup` takes no window
pub cup_takes_no_window : IsRefusedAt (words_of (codes "cup --worlds w --brains a b --window 1")) 7
unfolding command_kind_of choice_of is_among rest_after is_file_name is_dumps dumps_of decimal_value
cup_takes_no_window = read-refuses (words_of (codes "cup --worlds w --brains a b --window 1")) 7 refl

-- `cup` takes no rules
pub cup_takes_no_rules : IsRefusedAt (words_of (codes "cup --worlds w --brains a b --surround 5")) 7
unfolding command_kind_of choice_of is_among rest_after is_file_name is_dumps dumps_of decimal_value
cup_takes_no_rules = read-refuses (words_of (codes "cup --worlds w --brains a b --surround 5")) 7 refl

-- `--leads` and `--gauntlet` take no value, and stand once
pub cup_leads_with_a_value : IsRefusedAt (words_of (codes "cup --worlds w --brains a b --leads 1")) 8
unfolding command_kind_of choice_of is_among rest_after is_file_name is_dumps dumps_of decimal_value
cup_leads_with_a_value = read-refuses (words_of (codes "cup --worlds w --brains a b --leads 1")) 8 refl

pub cup_leads_twice : IsRefusedAt (words_of (codes "cup --worlds w --brains a b --leads --seed 1 --leads")) 10
unfolding command_kind_of choice_of is_among rest_after is_file_name is_dumps dumps_of decimal_value
cup_leads_twice = read-refuses (words_of (codes "cup --worlds w --brains a b --leads --seed 1 --leads")) 10 refl

pub cup_gauntlet_with_a_value : IsRefusedAt (words_of (codes "cup --worlds w --brains a b --gauntlet 0")) 8
unfolding command_kind_of choice_of is_among rest_after is_file_name is_dumps dumps_of decimal_value
cup_gauntlet_with_a_value = read-refuses (words_of (codes "cup --worlds w --brains a b --gauntlet 0")) 8 refl

pub cup_gauntlet_twice : IsRefusedAt (words_of (codes "cup --worlds w --brains a b --gauntlet --gauntlet")) 8
unfolding command_kind_of choice_of is_among rest_after is_file_name is_dumps dumps_of decimal_value
cup_gauntlet_twice = read-refuses (words_of (codes "cup --worlds w --brains a b --gauntlet --gauntlet")) 8 refl

-- the last word of a line that has no number of seeds
pub cup_seeds_at_the_end : IsRefusedAt (words_of (codes "cup --worlds w --brains a b --seed 1 --rounds 1 --seeds")) 12
unfolding command_kind_of choice_of is_among rest_after is_file_name is_dumps dumps_of decimal_value
cup_seeds_at_the_end = read-refuses (words_of (codes "cup --worlds w --brains a b --seed 1 --rounds 1 --seeds")) 12 refl
