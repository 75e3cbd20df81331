-- Laws of commands and refused words.
use Rattle.std.specs.Prelude.{◌≡◌, ◌⊎◌, ℕ, ◌+◌, true, List, [], ◌∷◌, ◌++◌, Some, slice_get}
use Rattle.std.specs.List.{Contains}
use Rattle.command_words.specs.Command.{PlainAsked, AskedWithin, Given, IsCommandOf, IsCommand, IsBeginning, IsGiven, IsRefusedAt}
use Rattle.command_words.specs.Limits.{number_in}
use Rattle.command_words.specs.Table.{default_of, places_of, values_of}
use Rattle.command_words.specs.declared.limits.NumberKind.{NumberKind}
use Rattle.command_words.specs.declared.slot.Slot.TheVariants.{FileName, Number}
use Rattle.command_words.specs.declared.slot.Place.TheVariants.{Word}
use Rattle.command_words.specs.declared.table.Choice.{Choice}

-- some words are at most one command
abbrev pub OneCommand : Type 0
OneCommand = (words : List (List ℕ)) (a b : PlainAsked) → IsCommand words a → IsCommand words b → a ≡ b

-- some words have at most one refused word
abbrev pub OneRefusedWord : Type 0
OneRefusedWord = (words : List (List ℕ)) (a b : ℕ) → IsRefusedAt words a → IsRefusedAt words b → a ≡ b

-- words that are a command have no refused word
abbrev pub NeverBoth : Type 0
NeverBoth = (words : List (List ℕ)) (asked : PlainAsked) (word : ℕ) → IsCommand words asked → ¬ IsRefusedAt words word

-- words are a command or have a refused word
abbrev pub OneOfBoth : Type 0
OneOfBoth =
    (words : List (List ℕ)) → ((asked : PlainAsked) × IsCommand words asked) ⊎ ((word : ℕ) × IsRefusedAt words word)

-- a prefix of a beginning is a beginning, so no further words can repair a refused word
abbrev pub FrontBegins : Type 0
FrontBegins = (words more : List (List ℕ)) → IsBeginning (words ++ more) → IsBeginning words

-- the same options say the same in any order
abbrev pub AnyOrder : Type 0
AnyOrder = (words more : List (List ℕ)) (asked : PlainAsked) (is : IsCommand words asked) (others : List Given)
    → IsCommandOf is.kind is.front others more
    → ((given : Given) → Contains is.given given → Contains others given)
    → ((given : Given) → Contains others given → Contains is.given given)
    → IsCommand more asked

-- a command is within the limits
abbrev pub WithinLimits : Type 0
WithinLimits = (words : List (List ℕ)) (asked : PlainAsked) → IsCommand words asked → AskedWithin asked

-- what is requested is among the words: no default replaces a word that is given
pub record SaysItsWords : Type 0 where
  -- a file has the name at its place
  pub file : (words : List (List ℕ)) (asked : PlainAsked) → IsCommand words asked → (place : ℕ)
      → slice_get (places_of asked.kind) place ≡ Some (Word FileName)
      → slice_get words (place + 1) ≡ Some (asked.file place)
  -- a number is the one that is spelled at its place
  pub number : (words : List (List ℕ)) (asked : PlainAsked) → IsCommand words asked → (place : ℕ) (kind : NumberKind)
      → slice_get (places_of asked.kind) place ≡ Some (Word (Number kind))
      → (word : List ℕ) × (slice_get words (place + 1) ≡ Some word) × (number_in kind word ≡ Some (asked.number place))
  -- an option that is given has the number that is spelled after its word
  pub option : (words : List (List ℕ)) (asked : PlainAsked) (is : IsCommand words asked) (given : Given)
      → Contains is.given given
      → (kind : NumberKind) → values_of given.choice ≡ Word (Number kind) ∷ []
      → (word : List ℕ) × (given.values ≡ (word ∷ []) ∷ []) × (number_in kind word ≡ Some (asked.option given.choice))
  -- an option that isn't given has the table's default
  pub default : (words : List (List ℕ)) (asked : PlainAsked) (is : IsCommand words asked) (choice : Choice)
      → ¬ IsGiven choice is.given → asked.option choice ≡ default_of choice
  -- whether an option is given is answered correctly
  pub has : (words : List (List ℕ)) (asked : PlainAsked) (is : IsCommand words asked) (choice : Choice)
      → asked.has choice ≡ true → IsGiven choice is.given
  pub given : (words : List (List ℕ)) (asked : PlainAsked) (is : IsCommand words asked) (choice : Choice)
      → IsGiven choice is.given → asked.has choice ≡ true
