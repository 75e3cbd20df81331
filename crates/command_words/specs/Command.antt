-- What the words of a command line request: one record for all commands, read by the table.
use Rattle.std.specs.Prelude.{◌≡◌, ◌≢◌, ℕ, ◌+◌, ◌<◌, ◌≤◌, nat_le, Bool, true, Option, Some, None, unwrap_or, slice_get, if◌then◌else◌, List, [], ◌∷◌, ◌++◌, length, take, map}
use Rattle.std.specs.List.{flat_map, list_any, AllZip, AllByRecursion, Contains}
use Rattle.std.specs.Str.{bytes_eq}
use Rattle.command_words.specs.declared.asked.Asked.{Asked}
use Rattle.command_words.specs.declared.limits.NumberKind.{NumberKind}
use Rattle.command_words.specs.declared.limits.NumberKind.TheVariants.{RoundCount}
use Rattle.command_words.specs.declared.table.NameList.{NameList}
use Rattle.command_words.specs.declared.slot.Slot.TheVariants.{Number}
use Rattle.command_words.specs.declared.slot.Place.{Place}
use Rattle.command_words.specs.declared.slot.Place.TheVariants.{Word, Names}
use Rattle.command_words.specs.declared.table.CommandKind.{CommandKind}
use Rattle.command_words.specs.declared.table.Choice.{Choice}
use Rattle.command_words.specs.declared.table.Choice.TheVariants.{Dump}
use Rattle.command_words.specs.Limits.{IsWithin, least_of, most_of, number_in}
use Rattle.command_words.specs.Slots.{AreNames, DumpChoice, FitsPlace, dumps_of, is_file_name}
use Rattle.command_words.specs.Slots.DumpChoice.{NoDump, EveryDump, ChosenDumps}
use Rattle.command_words.specs.Table.{kinds, word_of, places_of, choices_of, option_of, values_of, is_needed, keyword_of, default_of}
use Rattle.command_words.specs.Words.{texts}

-- words place by place, one after another
abbrev pub joined : List (List (List ℕ)) → List (List ℕ)
joined parts = flat_map (λ words. words) parts

-- an option that is given, with the words after its own, place by place
pub record Given : Type 0 where
  pub choice : Choice
  pub values : List (List (List ℕ))

-- the words of an option that is given
abbrev pub given_words : Given → List (List ℕ)
given_words given = option_of given.choice ∷ joined given.values

-- the words at each place fit it
abbrev pub FitAll : List Place → List (List (List ℕ)) → Type 0
FitAll places parts = AllZip FitsPlace places parts

-- an option that is given is one of the command's, and the words after its own fit
pub record IsOptionOf (kind : CommandKind) (given : Given) : Type 0 where
  pub known : Contains (choices_of kind) given.choice
  pub fit : FitAll (values_of given.choice) given.values

-- no option is given twice
abbrev pub NoneTwice : List Given → Type 0
NoneTwice [] = Unit {0}
NoneTwice (given ∷ more) = AllByRecursion (λ other. other.choice ≢ given.choice) more × NoneTwice more

-- an option is among those that are given
abbrev pub IsGiven : Choice → List Given → Type 0
IsGiven choice given = Contains (map (λ g. g.choice) given) choice

-- the words are a command of this kind: its first word, the words of each of its places, and then options in any order
pub record IsCommandOf (kind : CommandKind) (front : List (List (List ℕ))) (given : List Given)
    (words : List (List ℕ)) : Type 0 where
  pub known : Contains kinds kind
  pub whole : words ≡ word_of kind ∷ (joined front ++ flat_map given_words given)
  pub places : FitAll (places_of kind) front
  pub options : AllByRecursion (IsOptionOf kind) given
  pub once : NoneTwice given
  pub needed : (choice : Choice) → Contains (choices_of kind) choice → is_needed choice ≡ true → IsGiven choice given

-- the words after the first one that equals this; none if none does
unfoldable pub rest_after : List ℕ → List (List ℕ) → List (List ℕ)
rest_after text [] = []
rest_after text (word ∷ words) = if bytes_eq word text then words else rest_after text words

-- the first of some words
abbrev pub first_word : List (List ℕ) → Option (List ℕ)
first_word [] = None
first_word (word ∷ words) = Some word

-- the word for an option's places, among the words after its own; a flag has none
abbrev pub value_of : List Place → List (List ℕ) → Option (List ℕ)
value_of [] words = None
value_of (place ∷ places) words = first_word words

-- the names at the front of some words
abbrev pub names_front : List (List ℕ) → List (List ℕ)
names_front [] = []
names_front (word ∷ words) = if is_file_name word then word ∷ names_front words else []

-- whether a word is among others
unfoldable pub is_among : List ℕ → List (List ℕ) → Bool
is_among word words = list_any (λ other. bytes_eq other word) words

-- what words of a command say: the word with a number, counted from 1, that has a place; the names after a list's word;
-- the word after an option's; and whether an option's word is among them
pub record Answers : Type 0 where
  pub place : ℕ → Option (List ℕ)
  pub names : NameList → List (List ℕ)
  pub value : Choice → Option (List ℕ)
  pub has : Choice → Bool

abbrev pub answers_in : CommandKind → List (List ℕ) → Answers
answers_in kind words = record {
  place = λ number. if nat_le number (length (places_of kind)) then slice_get words number else None;
  names = λ list. names_front (rest_after (keyword_of list) words);
  value = λ choice. value_of (values_of choice) (rest_after (option_of choice) words);
  has = λ choice. is_among (option_of choice) words;
}

-- what a command line requests, whichever command it is: the file and the number at each place, counted from 0; the
-- names of each list; the number of each option, given or not; the rounds that are dumped; and whether an option is
-- given
pub record PlainAsked : Type 0 where
  pub kind : CommandKind
  pub file : ℕ → List ℕ
  pub number : ℕ → ℕ
  pub names : NameList → List (List ℕ)
  pub option : Choice → ℕ
  pub dumps : DumpChoice
  pub has : Choice → Bool

-- the number of a word; without it, the default
abbrev pub said : NumberKind → ℕ → Option (List ℕ) → ℕ
said kind default None = default
said kind default (Some word) = unwrap_or (number_in kind word) default

-- the number of a word at a place; a place for something else has none
abbrev pub said_at : Option Place → Option (List ℕ) → ℕ
said_at (Some (Word (Number kind))) word = said kind (least_of kind) word
said_at place word = 0

-- the number of the word after an option's, by the option's places
abbrev pub said_for : List Place → ℕ → Option (List ℕ) → ℕ
said_for (Word (Number kind) ∷ []) default word = said kind default word
said_for places default word = default

-- the greatest number that an option may say, by its places
abbrev pub most_for : List Place → ℕ
most_for (Word (Number kind) ∷ []) = most_of kind
most_for places = 4294967295

-- the dumps that a word requests; without it there are none
abbrev pub dumps_said : Option (List ℕ) → DumpChoice
dumps_said None = NoDump
dumps_said (Some word) = unwrap_or (dumps_of word) NoDump

-- what the answers of a command's words request, by the command's row of the table
abbrev pub asked_of : CommandKind → Answers → PlainAsked
asked_of kind a = record {
  kind = kind;
  file = λ place. unwrap_or (a.place (place + 1)) [];
  number = λ place. said_at (slice_get (places_of kind) place) (a.place (place + 1));
  names = a.names;
  option = λ choice. said_for (values_of choice) (default_of choice) (a.value choice);
  dumps = dumps_said (a.value Dump);
  has = a.has;
}

abbrev pub asked_in : CommandKind → List (List ℕ) → PlainAsked
asked_in kind words = asked_of kind (answers_in kind words)

-- what was read, as a request
abbrev pub plain : Asked → PlainAsked
plain asked = asked_in asked.kind (texts asked.words.now)

-- the words are a command that requests this: they are one of its kind, and say it
pub record IsCommand (words : List (List ℕ)) (asked : PlainAsked) : Type 0 where
  pub kind : CommandKind
  pub front : List (List (List ℕ))
  pub given : List Given
  pub form : IsCommandOf kind front given words
  pub says : asked_in kind words ≡ asked

-- the words are the beginning of a command: with some more words they are one
pub record IsBeginning (words : List (List ℕ)) : Type 0 where
  pub more : List (List ℕ)
  pub asked : PlainAsked
  pub whole : IsCommand (words ++ more) asked

-- the refused word, counted from 1: the first one that makes it impossible to complete the words to a command, so that
-- any fewer are the beginning of one; if all the words are the beginning of a command but not a command, it is the
-- number of words plus one
pub record IsRefusedAt (words : List (List ℕ)) (word : ℕ) : Type 0 where
  pub counted : 1 ≤ word
  pub no_further : word ≤ length words + 1
  pub before : (count : ℕ) → count < word → IsBeginning (take count words)
  pub refused : word ≤ length words → ¬ IsBeginning (take word words)
  pub unfinished : word ≡ length words + 1 → (asked : PlainAsked) → ¬ IsCommand words asked

-- the rounds of a list are within the limits
abbrev pub AreWithin : DumpChoice → Type 0
AreWithin NoDump = Unit {0}
AreWithin EveryDump = Unit {0}
AreWithin (ChosenDumps rounds) = AllByRecursion (IsWithin RoundCount) rounds

-- what is requested is within the limits: each number is within those of its kind, and each list of the command has a
-- permitted number of names, which are different if they must differ
pub record AskedWithin (asked : PlainAsked) : Type 0 where
  pub number : (place : ℕ) (kind : NumberKind) → slice_get (places_of asked.kind) place ≡ Some (Word (Number kind))
      → IsWithin kind (asked.number place)
  pub option : (choice : Choice) (kind : NumberKind) → values_of choice ≡ Word (Number kind) ∷ []
      → IsWithin kind (asked.option choice)
  pub dumps : AreWithin asked.dumps
  pub names : (list : NameList) → Contains (places_of asked.kind) (Names list) → AreNames list (asked.names list)
