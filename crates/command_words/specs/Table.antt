-- The commands, their options and their lists of names, one row for each.
use Rattle.std.specs.Prelude.{◌≡◌, ℕ, Bool, true, false, ◌&&◌, ◌||◌, Option, Some, slice_get, List, [], ◌∷◌, codes}
use Rattle.std.specs.List.{list_any}
use Rattle.std.specs.Str.{bytes_eq}
use Rattle.command_words.specs.declared.limits.NumberKind.{NumberKind}
use Rattle.command_words.specs.declared.limits.NumberKind.TheVariants.{SeedNumber, RoundCount, WorkerCount, WindowSize, FoeCount, CorpseFood, RestRounds, SideLength, ElementCount, AntId, SeedCount}
use Rattle.command_words.specs.declared.table.NameList.{NameList}
use Rattle.command_words.specs.declared.table.NameList.TheVariants.{Worlds, Brains}
use Rattle.command_words.specs.declared.slot.Slot.TheVariants.{FileName, Number, Dumps, Keyword}
use Rattle.command_words.specs.declared.slot.Place.{Place}
use Rattle.command_words.specs.declared.slot.Place.TheVariants.{Word, Names}
use Rattle.command_words.specs.declared.table.CommandKind.{CommandKind}
use Rattle.command_words.specs.declared.table.CommandKind.TheVariants.{Show, Brain, Minimise, Run, Gen, Cup, View, Workload, Help, HelpWord, Version, Asm, Save, Resume, Trace, Same, Events, Acts, Profile, Advance}
use Rattle.command_words.specs.declared.table.Choice.{Choice}
use Rattle.command_words.specs.declared.table.Choice.TheVariants.{Seed, Seeds, Rounds, Dump, Workers, Window, Surround, Corpse, Rest, Stats, Far, Width, Height, Rocks, Blobs, From, Ant, Food, Labels, States, Games, Leads, Gauntlet, Lines, Way}

-- a command: its first word, what follows it, and its options, which may be in any order
pub record CommandRow : Type 0 where
  pub word : List ℕ
  pub places : List Place
  pub choices : List Choice

abbrev pub command_row : List ℕ → List Place → List Choice → CommandRow
command_row word places choices = record { word = word; places = places; choices = choices }

-- a place for a number, the place of one file, those of a game's files, of these and an ant's id, and of a cup's lists
abbrev pub number_place : NumberKind → Place
number_place kind = Word (Number kind)

abbrev pub one_file : List Place
one_file = Word FileName ∷ []

abbrev pub game_places : List Place
game_places = Word FileName ∷ Word FileName ∷ Word FileName ∷ []

abbrev pub trace_places : List Place
trace_places = Word FileName ∷ Word FileName ∷ Word FileName ∷ number_place AntId ∷ []

abbrev pub cup_places : List Place
cup_places = Word (Keyword Worlds) ∷ Names Worlds ∷ Word (Keyword Brains) ∷ Names Brains ∷ []

-- all commands that are known, in the order of the page of `--help`
abbrev pub kinds : List CommandKind
kinds =
    Run ∷ Save ∷ Resume ∷ Advance ∷ View ∷ Trace ∷ Events ∷ Acts ∷ Profile ∷ Cup ∷ Workload ∷ Show ∷ Gen ∷ Brain
    ∷ Minimise ∷ Same ∷ Asm ∷ HelpWord ∷ Help ∷ Version ∷ []

abbrev pub row_of : CommandKind → CommandRow
row_of Show = command_row (codes "show") (Word FileName ∷ number_place SeedNumber ∷ []) []
row_of Brain = command_row (codes "brain") one_file []
row_of Minimise = command_row (codes "minimise") one_file (States ∷ [])
row_of Run =
    command_row (codes "run") game_places
    (Seed ∷ Rounds ∷ Dump ∷ Workers ∷ Window ∷ Surround ∷ Corpse ∷ Rest ∷ Stats ∷ Far ∷ [])
row_of Gen = command_row (codes "gen") (number_place SeedNumber ∷ []) (Width ∷ Height ∷ Rocks ∷ Blobs ∷ [])
row_of Cup = command_row (codes "cup") cup_places (Seed ∷ Seeds ∷ Rounds ∷ Workers ∷ Games ∷ Leads ∷ Gauntlet ∷ [])
row_of View = command_row (codes "view") (Word FileName ∷ game_places) (Seed ∷ Rounds ∷ From ∷ [])
row_of Workload =
    command_row (codes "workload")
    (number_place SeedNumber ∷ number_place RoundCount ∷ number_place WorkerCount ∷ []) []
row_of Help = command_row (codes "--help") [] []
row_of HelpWord = command_row (codes "help") [] []
row_of Version = command_row (codes "--version") [] []
row_of Asm = command_row (codes "asm") one_file (Labels ∷ Lines ∷ [])
row_of Save = command_row (codes "save") game_places (Seed ∷ Rounds ∷ Workers ∷ Window ∷ Surround ∷ Corpse ∷ Rest ∷ [])
row_of Resume = command_row (codes "resume") one_file (Rounds ∷ Dump ∷ Workers ∷ Stats ∷ [])
row_of Trace = command_row (codes "trace") trace_places (Seed ∷ Rounds ∷ From ∷ Surround ∷ Corpse ∷ Rest ∷ [])
row_of Same = command_row (codes "same") (Word FileName ∷ one_file) (Way ∷ [])
row_of Events = command_row (codes "events") game_places (Seed ∷ Rounds ∷ From ∷ Surround ∷ Corpse ∷ Rest ∷ Food ∷ [])
row_of Acts = command_row (codes "acts") game_places (Seed ∷ Rounds ∷ From ∷ Ant ∷ Surround ∷ Corpse ∷ Rest ∷ [])
row_of Profile = command_row (codes "profile") game_places (Seed ∷ Rounds ∷ From ∷ Surround ∷ Corpse ∷ Rest ∷ [])
row_of Advance = command_row (codes "advance") one_file (Rounds ∷ Workers ∷ [])

-- what the page of `--help` has about a command: its places by name, each after a space, and a sentence
pub record CommandHelp : Type 0 where
  pub names : List ℕ
  pub says : List ℕ

abbrev pub command_help : List ℕ → List ℕ → CommandHelp
command_help names says = record { names = names; says = says }

abbrev pub help_row : CommandKind → CommandHelp
help_row Run = command_help (codes " WORLD RED BLACK") (codes "plays a game between two brains, and prints its score")
help_row Save = command_help (codes " WORLD RED BLACK") (codes "plays a game up to a round, and prints a save of it")
help_row Resume =
    command_help (codes " SAVE") (codes "goes on with a saved game, and prints the rest of what run prints")
help_row Advance =
    command_help (codes " SAVE") (codes "goes on with a saved game up to a round, and prints a save of it there")
help_row View =
    command_help (codes " WORLD RED BLACK BREAKS")
    (codes "plays a game until a given condition holds, and prints the world there")
help_row Trace =
    command_help (codes " WORLD RED BLACK ID") (codes "plays a game, and prints where one ant is after each round")
help_row Events =
    command_help (codes " WORLD RED BLACK") (codes "plays a game, and prints who died, and how the score went")
help_row Acts = command_help (codes " WORLD RED BLACK") (codes "plays a game, and prints what every ant executed")
help_row Profile =
    command_help (codes " WORLD RED BLACK") (codes "plays a game, and prints how often each state was executed")
help_row Cup =
    command_help (codes " --worlds WORLD.. --brains BRAIN..")
    (codes "plays all games between brains on worlds, and prints their standing")
help_row Workload =
    command_help (codes " SEED ROUNDS WORKERS")
    (codes "plays the sample brain against itself on a world that gen makes")
help_row Show = command_help (codes " WORLD SEED") (codes "prints a world as it is at the start of a game")
help_row Gen = command_help (codes " SEED") (codes "prints a world like the contest's, generated from a number")
help_row Brain = command_help (codes " FILE") (codes "checks a brain, and prints it with one instruction a line")
help_row Minimise =
    command_help (codes " FILE") (codes "merges equivalent states of a brain, and keeps what state 0 leads to")
help_row Same =
    command_help (codes " FILE FILE") (codes "says whether two brains are the same except for state numbers")
help_row Asm = command_help (codes " FILE") (codes "prints the brain of a program with labels and blocks")
help_row HelpWord = command_help (codes "") (codes "prints this page")
help_row Help = command_help (codes "") (codes "prints this page")
help_row Version = command_help (codes "") (codes "prints the version of this program")

abbrev pub word_of : CommandKind → List ℕ
word_of kind = (row_of kind).word

abbrev pub places_of : CommandKind → List Place
places_of kind = (row_of kind).places

abbrev pub choices_of : CommandKind → List Choice
choices_of kind = (row_of kind).choices

-- an option: its word, what follows it, whether a command that has the option needs it, and its default, which is a
-- number or all
pub record OptionRow : Type 0 where
  pub word : List ℕ
  pub values : List Place
  pub needed : Bool
  pub default : ℕ
  pub all : Bool

abbrev pub needed_option : List ℕ → NumberKind → OptionRow
needed_option word kind = record {
  word = word;
  values = number_place kind ∷ [];
  needed = true;
  default = 0;
  all = false;
}

abbrev pub number_option : List ℕ → NumberKind → ℕ → OptionRow
number_option word kind default = record {
  word = word;
  values = number_place kind ∷ [];
  needed = false;
  default = default;
  all = false;
}

abbrev pub one_option : List ℕ → NumberKind → OptionRow
one_option word kind = record { word = word; values = number_place kind ∷ []; needed = false; default = 0; all = true }

abbrev pub dump_option : List ℕ → OptionRow
dump_option word = record { word = word; values = Word Dumps ∷ []; needed = false; default = 0; all = false }

abbrev pub flag_option : List ℕ → OptionRow
flag_option word = record { word = word; values = []; needed = false; default = 0; all = false }

abbrev pub option_row : Choice → OptionRow
option_row Seed = needed_option (codes "--seed") SeedNumber
option_row Seeds = number_option (codes "--seeds") SeedCount 1
option_row Rounds = needed_option (codes "--rounds") RoundCount
option_row Dump = dump_option (codes "--dump")
option_row Workers = number_option (codes "--workers") WorkerCount 1
option_row Window = number_option (codes "--window") WindowSize 16384
option_row Surround = number_option (codes "--surround") FoeCount 5
option_row Corpse = number_option (codes "--corpse") CorpseFood 3
option_row Rest = number_option (codes "--rest") RestRounds 14
option_row Stats = flag_option (codes "--stats")
option_row Food = flag_option (codes "--food")
option_row Far = flag_option (codes "--far")
option_row Width = number_option (codes "--width") SideLength 150
option_row Height = number_option (codes "--height") SideLength 150
option_row Rocks = number_option (codes "--rocks") ElementCount 14
option_row Blobs = number_option (codes "--blobs") ElementCount 11
option_row From = number_option (codes "--from") RoundCount 0
option_row Ant = one_option (codes "--ant") AntId
option_row Labels = flag_option (codes "--labels")
option_row States = flag_option (codes "--states")
option_row Games = flag_option (codes "--games")
option_row Leads = flag_option (codes "--leads")
option_row Gauntlet = flag_option (codes "--gauntlet")
option_row Lines = flag_option (codes "--lines")
option_row Way = flag_option (codes "--way")

abbrev pub option_of : Choice → List ℕ
option_of choice = (option_row choice).word

abbrev pub values_of : Choice → List Place
values_of choice = (option_row choice).values

abbrev pub is_needed : Choice → Bool
is_needed choice = (option_row choice).needed

-- the default of a number's option
abbrev pub default_of : Choice → ℕ
default_of choice = (option_row choice).default

-- whether the default is all
abbrev pub means_all : Choice → Bool
means_all choice = (option_row choice).all

-- all options, in the order of the page of `--help`
abbrev pub options : List Choice
options =
    Seed ∷ Seeds ∷ Rounds ∷ Dump ∷ Workers ∷ Window ∷ Surround ∷ Corpse ∷ Rest ∷ From ∷ Ant ∷ Stats ∷ Food ∷ Far ∷ Width
    ∷ Height ∷ Rocks ∷ Blobs ∷ Games ∷ Leads ∷ Gauntlet ∷ States ∷ Way ∷ Labels ∷ Lines ∷ []

-- the sentence about an option on the page
abbrev pub about_of : Choice → List ℕ
about_of Seed = codes "the seed of the random numbers"
about_of Seeds = codes "how many seeds each game is played with"
about_of Rounds = codes "how many rounds are played"
about_of Dump = codes "dumps after rounds: none, all, or as 0,10,100; none"
about_of Workers = codes "threads"
about_of Window = codes "turns that are looked at ahead"
about_of Surround = codes "foes around an ant that kill it"
about_of Corpse = codes "food that a dead ant leaves"
about_of Rest = codes "turns that an ant rests after a step"
about_of From = codes "the first round that is looked at"
about_of Ant = codes "the one ant that is reported"
about_of Stats = codes "adds the counts of turns and looks"
about_of Food = codes "adds who takes and who drops food"
about_of Far = codes "keeps the workers for the whole game, and sends them their jobs"
about_of Width = codes "cells of a row"
about_of Height = codes "rows"
about_of Rocks = codes "rocks that are placed"
about_of Blobs = codes "heaps of food that are placed"
about_of Games = codes "prints the line of each game before the standing"
about_of Leads = codes "adds the food by which a brain leads, over all its games"
about_of Gauntlet = codes "plays only the games of the first brain"
about_of States = codes "prints the new number of each state, not the brain"
about_of Labels = codes "prints which state each label leads to, not the brain"
about_of Lines = codes "prints which line each state comes from, not the brain"
about_of Way = codes "prints each answer on the way to the states that differ"

-- a command's row has a file at a place, counted from 0, or a number
abbrev pub is_file : Option Place → Bool
is_file (Some (Word FileName)) = true
is_file place = false

abbrev pub is_number : Option Place → Bool
is_number (Some (Word (Number kind))) = true
is_number place = false

abbrev pub HasFile : CommandKind → ℕ → Type 0
HasFile kind place = is_file (slice_get (places_of kind) place) ≡ true

abbrev pub HasNumber : CommandKind → ℕ → Type 0
HasNumber kind place = is_number (slice_get (places_of kind) place) ≡ true

-- a command's row has an option, or one whose word is followed by a number
abbrev pub has_option : CommandKind → Choice → Bool
has_option kind choice = list_any (λ other. bytes_eq (option_of other) (option_of choice)) (choices_of kind)

abbrev pub takes_number : List Place → Bool
takes_number (Word (Number kind) ∷ []) = true
takes_number places = false

abbrev pub HasOption : CommandKind → Choice → Type 0
HasOption kind choice = has_option kind choice ≡ true

abbrev pub HasNumberOption : CommandKind → Choice → Type 0
HasNumberOption kind choice = (has_option kind choice && takes_number (values_of choice)) ≡ true

-- the word before a list of names
abbrev pub keyword_of : NameList → List ℕ
keyword_of Worlds = codes "--worlds"
keyword_of Brains = codes "--brains"

-- the fewest names of a list
abbrev pub fewest_names : NameList → ℕ
fewest_names Worlds = 1
fewest_names Brains = 2

-- the most names of a list
abbrev pub most_names : ℕ
most_names = 16

-- whether the names of a list are different
abbrev pub must_differ : NameList → Bool
must_differ Worlds = false
must_differ Brains = true

-- a command's row has the names of a list
abbrev pub has_names : NameList → List Place → Bool
has_names list [] = false
has_names list (Word slot ∷ places) = has_names list places
has_names list (Names other ∷ places) = bytes_eq (keyword_of other) (keyword_of list) || has_names list places

abbrev pub HasNames : CommandKind → NameList → Type 0
HasNames kind list = has_names list (places_of kind) ≡ true

-- the name that the page has for the names of a list
abbrev pub list_name : NameList → List ℕ
list_name Worlds = codes "WORLD.."
list_name Brains = codes "BRAIN.."
