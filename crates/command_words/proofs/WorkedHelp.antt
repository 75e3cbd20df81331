-- What the page of `--help` says of commands and options, and that its words are those of the table.
use denote.Enum.Bare.{sameb}
use Rattle.std.proofs.Common.{◌≡◌, ℕ, Bool, true, false, ◌&&◌, ◌==◌, List, [], ◌∷◌, codes, bytes_eq, refl}
use Rattle.std.specs.Fmt.{digits}
use Rattle.std.specs.List.{list_any, slice_split}
use Rattle.ant_base.specs.Layout.{numbered}
use Rattle.command_words.specs.contracts.table.Choice as option
use Rattle.command_words.specs.declared.slot.Slot.TheVariants.{FileName, Number, Keyword}
use Rattle.command_words.specs.declared.slot.Place.{Place}
use Rattle.command_words.specs.declared.slot.Place.TheVariants.{Word, Names}
use Rattle.command_words.specs.declared.table.Choice.{Choice}
use Rattle.command_words.specs.declared.table.Choice.TheVariants.{Ant, Blobs, Dump, Far, Food, From, Games, Gauntlet, Height, Leads, Lines, Rest, Rocks, Rounds, Seed, Seeds, States, Stats, Surround, Way, Width, Window, Workers}
use Rattle.command_words.specs.declared.table.CommandKind.{CommandKind}
use Rattle.command_words.specs.declared.table.CommandKind.TheVariants.{Acts, Advance, Asm, Brain, Cup, Events, Gen, Help, Minimise, Profile, Resume, Run, Same, Save, Show, Trace, View}
use Rattle.command_words.specs.Help.{command_text, free_texts, has_free, more_text, needed_texts, option_line, place_lines, takes_line}
use Rattle.command_words.specs.Limits.{name_of}
use Rattle.command_words.specs.Table.{help_row, keyword_of, list_name, options, places_of}
use Rattle.command_words.proofs.TableLemmas.{each_command, each_option}

-- whether a word is what the page calls a place: a number and a list by their own names, a list's word by itself
pub names_place : Place → List ℕ → Bool
names_place (Word FileName) name = true
names_place (Word (Number kind)) name = bytes_eq name (name_of kind)
names_place (Word (Keyword list)) name = bytes_eq name (keyword_of list)
names_place (Names list) name = bytes_eq name (list_name list)
names_place place name = false

-- whether words are what the page calls some places, after an empty one
pub name_places : List Place → List (List ℕ) → Bool
name_places [] [] = true
name_places (place ∷ places) (name ∷ names) = names_place place name && name_places places names
name_places places names = false

pub fits_places : CommandKind → Bool
fits_places kind = name_places (Word FileName ∷ places_of kind) (slice_split (λ byte. byte == 32) (help_row kind).names)

-- the page names each place of each command
pub names_fit : (kind : CommandKind) → fits_places kind ≡ true
unfolding fits_places name_places names_place
names_fit kind = each_command fits_places refl kind

-- no option is left out
pub options_are_listed : (choice : Choice) → list_any (sameb option.the_type choice) options ≡ true
options_are_listed choice = each_option (λ choice. list_any (sameb option.the_type choice) options) refl choice

pub run_help : command_text Run ≡ codes
    "  run WORLD RED BLACK --seed N --rounds N [OPTION]..\n      plays a game between two brains, and prints its score\n      takes --dump --workers --window --surround --corpse --rest --stats --far\n"
unfolding command_text needed_texts more_text place_lines has_free takes_line free_texts numbered
run_help = refl

pub trace_help : command_text Trace ≡ codes
    "  trace WORLD RED BLACK ID --seed N --rounds N [OPTION]..\n      plays a game, and prints where one ant is after each round\n      ID, 0 to 16383\n      takes --from --surround --corpse --rest\n"
unfolding command_text needed_texts more_text place_lines has_free takes_line free_texts numbered digits
trace_help = refl

pub events_help : command_text Events ≡ codes
    "  events WORLD RED BLACK --seed N --rounds N [OPTION]..\n      plays a game, and prints who died, and how the score went\n      takes --from --surround --corpse --rest --food\n"
unfolding command_text needed_texts more_text place_lines has_free takes_line free_texts numbered digits
events_help = refl

pub acts_help : command_text Acts ≡ codes
    "  acts WORLD RED BLACK --seed N --rounds N [OPTION]..\n      plays a game, and prints what every ant executed\n      takes --from --ant --surround --corpse --rest\n"
unfolding command_text needed_texts more_text place_lines has_free takes_line free_texts numbered digits
acts_help = refl

pub profile_help : command_text Profile ≡ codes
    "  profile WORLD RED BLACK --seed N --rounds N [OPTION]..\n      plays a game, and prints how often each state was executed\n      takes --from --surround --corpse --rest\n"
unfolding command_text needed_texts more_text place_lines has_free takes_line free_texts numbered digits
profile_help = refl

pub advance_help : command_text Advance ≡ codes
    "  advance SAVE --rounds N [OPTION]..\n      goes on with a saved game up to a round, and prints a save of it there\n      takes --workers\n"
unfolding command_text needed_texts more_text place_lines has_free takes_line free_texts numbered digits
advance_help = refl

pub cup_help : command_text Cup ≡ codes
    "  cup --worlds WORLD.. --brains BRAIN.. --seed N --rounds N [OPTION]..\n      plays all games between brains on worlds, and prints their standing\n      WORLD.., 1 to 16 names\n      BRAIN.., 2 to 16 names\n      takes --seeds --workers --games --leads --gauntlet\n"
unfolding command_text needed_texts more_text place_lines has_free takes_line free_texts numbered digits
cup_help = refl

pub help_help : command_text Help ≡ codes "  --help\n      prints this page\n"
unfolding command_text needed_texts more_text place_lines has_free takes_line free_texts numbered
help_help = refl

pub seed_help : option_line Seed ≡ codes "  --seed N      the seed of the random numbers, 0 to 4294967295; needed\n"
unfolding option_line numbered digits
seed_help = refl

pub cup_options_help :
    (option_line Seeds ≡ codes "  --seeds N     how many seeds each game is played with, 1 to 1000; 1\n")
    × (option_line Leads ≡ codes "  --leads       adds the food by which a brain leads, over all its games\n")
    × (option_line Gauntlet ≡ codes "  --gauntlet    plays only the games of the first brain\n")
unfolding option_line numbered digits
cup_options_help = (refl, refl, refl)

pub from_help : option_line From ≡ codes "  --from N      the first round that is looked at, 0 to 1000000; 0\n"
unfolding option_line numbered digits
from_help = refl

pub ant_help : option_line Ant ≡ codes "  --ant N       the one ant that is reported, 0 to 16383; all\n"
unfolding option_line numbered digits
ant_help = refl

pub food_help : option_line Food ≡ codes "  --food        adds who takes and who drops food\n"
unfolding option_line numbered digits
food_help = refl

pub surround_help : option_line Surround ≡ codes "  --surround N  foes around an ant that kill it, 4 to 6; 5\n"
unfolding option_line numbered digits
surround_help = refl

pub dump_help : option_line Dump ≡ codes "  --dump D      dumps after rounds: none, all, or as 0,10,100; none\n"
unfolding option_line numbered
dump_help = refl

pub stats_help : option_line Stats ≡ codes "  --stats       adds the counts of turns and looks\n"
unfolding option_line numbered
stats_help = refl

pub lines_help : option_line Lines ≡ codes "  --lines       prints which line each state comes from, not the brain\n"
unfolding option_line numbered
lines_help = refl

pub way_help : option_line Way ≡ codes "  --way         prints each answer on the way to the states that differ\n"
unfolding option_line numbered
way_help = refl

-- the other commands, except for a workload
other_commands_help :
    (command_text Save ≡ codes "  save WORLD RED BLACK --seed N --rounds N [OPTION]..\n      plays a game up to a round, and prints a save of it\n      takes --workers --window --surround --corpse --rest\n")
    × (command_text Resume ≡ codes "  resume SAVE --rounds N [OPTION]..\n      goes on with a saved game, and prints the rest of what run prints\n      takes --dump --workers --stats\n")
    × (command_text View ≡ codes "  view WORLD RED BLACK BREAKS --seed N --rounds N [OPTION]..\n      plays a game until a given condition holds, and prints the world there\n      takes --from\n")
    × (command_text Show ≡ codes "  show WORLD SEED\n      prints a world as it is at the start of a game\n      SEED, 0 to 4294967295\n")
    × (command_text Gen ≡ codes "  gen SEED [OPTION]..\n      prints a world like the contest's, generated from a number\n      SEED, 0 to 4294967295\n      takes --width --height --rocks --blobs\n")
    × (command_text Brain ≡ codes "  brain FILE\n      checks a brain, and prints it with one instruction a line\n")
    × (command_text Minimise ≡ codes "  minimise FILE [OPTION]..\n      merges equivalent states of a brain, and keeps what state 0 leads to\n      takes --states\n")
    × (command_text Same ≡ codes "  same FILE FILE [OPTION]..\n      says whether two brains are the same except for state numbers\n      takes --way\n")
    × (command_text Asm ≡ codes "  asm FILE [OPTION]..\n      prints the brain of a program with labels and blocks\n      takes --labels --lines\n")
unfolding command_text needed_texts more_text place_lines has_free takes_line free_texts numbered digits
other_commands_help = (refl, refl, refl, refl, refl, refl, refl, refl, refl)

-- the other options, except for `--corpse` and `--labels`
other_options_help :
    (option_line Rounds ≡ codes "  --rounds N    how many rounds are played, 0 to 1000000; needed\n")
    × (option_line Workers ≡ codes "  --workers N   threads, 1 to 16; 1\n")
    × (option_line Window ≡ codes "  --window N    turns that are looked at ahead, 1 to 16384; 16384\n")
    × (option_line Rest ≡ codes "  --rest N      turns that an ant rests after a step, 0 to 255; 14\n")
    × (option_line Far ≡ codes "  --far         keeps the workers for the whole game, and sends them their jobs\n")
    × (option_line Width ≡ codes "  --width N     cells of a row, 3 to 512; 150\n")
    × (option_line Height ≡ codes "  --height N    rows, 3 to 512; 150\n")
    × (option_line Rocks ≡ codes "  --rocks N     rocks that are placed, 0 to 255; 14\n")
    × (option_line Blobs ≡ codes "  --blobs N     heaps of food that are placed, 0 to 255; 11\n")
    × (option_line Games ≡ codes "  --games       prints the line of each game before the standing\n")
    × (option_line States ≡ codes "  --states      prints the new number of each state, not the brain\n")
unfolding option_line numbered digits
other_options_help = (refl, refl, refl, refl, refl, refl, refl, refl, refl, refl, refl)
