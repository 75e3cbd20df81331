-- Reading words one after another.
use denote.Ref.{Bor}
use Rattle.std.specs.Prelude.{ℕ, ◌+◌, Bool, true, false, not, ◌||◌, ◌&&◌, nat_le, nat_lt, Option, Some, None, Result, Ok, Err, if◌then◌else◌, List, [], ◌∷◌, ◌++◌, length, take, drop, find}
use Rattle.std.specs.List.{list_all}
use Rattle.std.specs.Str.{bytes_eq}
use Rattle.command_words.specs.declared.asked.Asked.{Asked}
use Rattle.command_words.specs.declared.asked.Refused.{Refused}
use Rattle.command_words.specs.declared.table.NameList.{NameList}
use Rattle.command_words.specs.declared.slot.Place.{Place}
use Rattle.command_words.specs.declared.slot.Place.TheVariants.{Word, Names}
use Rattle.command_words.specs.declared.table.CommandKind.{CommandKind}
use Rattle.command_words.specs.declared.table.Choice.{Choice}
use Rattle.command_words.specs.Slots.{is_file_name, fits}
use Rattle.command_words.specs.Table.{kinds, word_of, places_of, choices_of, option_of, values_of, is_needed, keyword_of, fewest_names, most_names, must_differ}
use Rattle.command_words.specs.Command.{PlainAsked, asked_in, plain, first_word, is_among, names_front, rest_after}

-- the known command with this first word
unfoldable pub command_kind_of : List ℕ → Option CommandKind
command_kind_of word = find (λ kind. bytes_eq (word_of kind) word) kinds

-- the command's option with this word
unfoldable pub choice_of : CommandKind → List ℕ → Option Choice
choice_of kind word = find (λ choice. bytes_eq (option_of choice) word) (choices_of kind)

-- whether a list has enough names
abbrev pub has_enough : NameList → List (List ℕ) → Bool
has_enough list names = nat_le (fewest_names list) (length names)

-- whether a word is already among names that must differ
abbrev pub is_repeated : NameList → List (List ℕ) → List ℕ → Bool
is_repeated list names word = must_differ list && is_among word names

-- whether a word may follow the names of a list
abbrev pub may_follow : NameList → List (List ℕ) → List ℕ → Bool
may_follow list names word = is_file_name word && nat_lt (length names) most_names && not (is_repeated list names word)

-- the places that are due at the end of the words; a list of names is done if it has enough
abbrev pub closed : List Place → List (List ℕ) → List Place
closed [] names = []
closed (Word slot ∷ places) names = Word slot ∷ places
closed (Names list ∷ places) names = if has_enough list names then places else Names list ∷ places

-- the places that are due at one more word; a word that isn't a name ends a list of names that has enough
abbrev pub reached : List Place → List (List ℕ) → List ℕ → List Place
reached [] names word = []
reached (Word slot ∷ places) names word = Word slot ∷ places
reached (Names list ∷ places) names word =
    if is_file_name word then Names list ∷ places else closed (Names list ∷ places) names

-- the places that are due after an option's word; no option may be given twice
abbrev pub due_after_option : Option Choice → Bool → Option (List Place)
due_after_option None stood = None
due_after_option (Some choice) stood = if stood then None else Some (values_of choice)

-- the places that are due after one more word; if none is due, an option may follow
abbrev pub due_after : CommandKind → List Place → List (List ℕ) → List (List ℕ) → List ℕ → Option (List Place)
due_after kind [] names before word = due_after_option (choice_of kind word) (is_among word before)
due_after kind (Word slot ∷ places) names before word = if fits slot word then Some places else None
due_after kind (Names list ∷ places) names before word =
    if may_follow list names word then Some (Names list ∷ places) else None

-- whether the current place is one of names
abbrev pub takes_names : List Place → Bool
takes_names [] = false
takes_names (Word slot ∷ places) = false
takes_names (Names list ∷ places) = true

-- the names at the current place after one more word
abbrev pub names_after : List Place → List (List ℕ) → List ℕ → List (List ℕ)
names_after [] names word = []
names_after (Word slot ∷ places) names word = []
names_after (Names list ∷ places) names word = names ++ word ∷ []

-- what follows a word, if the word is allowed there
abbrev pub go_on : Option (List Place) → ℕ → (List Place → Result (List Place) ℕ) → Result (List Place) ℕ
go_on None number next = Err number
go_on (Some due) number next = next due

-- the places that are still due after all the words, or the number of the first word that no command has there
abbrev pub walk : CommandKind → List (List ℕ) → List Place → List (List ℕ) → List (List ℕ) → Result (List Place) ℕ
walk kind [] due names before = Ok (closed due names)
walk kind (word ∷ words) due names before =
    go_on (due_after kind (reached due names word) names before word) (length before + 1)
    (λ later. walk kind words later (names_after (reached due names word) names word) (before ++ word ∷ []))

-- each option that is needed is among the words
abbrev pub has_needed : CommandKind → List (List ℕ) → Bool
has_needed kind words =
    list_all (λ choice. not (is_needed choice) || is_among (option_of choice) words) (choices_of kind)

-- no place is due, and each option that is needed is among the words
abbrev pub is_finished : CommandKind → List Place → List (List ℕ) → Bool
is_finished kind [] words = has_needed kind words
is_finished kind (place ∷ places) words = false

-- the word after the first one that is this option's
abbrev pub word_after : Choice → List (List ℕ) → Option (List ℕ)
word_after choice words = first_word (rest_after (option_of choice) words)

-- the names after the first word that is this list's
abbrev pub names_of : NameList → List (List ℕ) → List (List ℕ)
names_of list words = names_front (rest_after (keyword_of list) words)

-- the words are a command, or are refused after the last
abbrev pub finish : CommandKind → List (List ℕ) → Result (List Place) ℕ → Result PlainAsked ℕ
finish kind words (Err number) = Err number
finish kind words (Ok due) = if is_finished kind due words then Ok (asked_in kind words) else Err (length words + 1)

-- the meaning of the words, if the first one is that of a command
abbrev pub read_kind : List (List ℕ) → Option CommandKind → Result PlainAsked ℕ
read_kind words None = Err 1
read_kind words (Some kind) = finish kind words (walk kind (drop 1 words) (places_of kind) [] (take 1 words))

-- the command of the words, or the number of the refused word
abbrev pub read_of : List (List ℕ) → Result PlainAsked ℕ
read_of [] = Err 1
read_of (word ∷ words) = read_kind (word ∷ words) (command_kind_of word)

-- what was read, without addresses
abbrev pub plain_result : Result Asked Refused → Result PlainAsked ℕ
plain_result (Ok asked) = Ok (plain asked)
plain_result (Err refused) = Err refused.word

-- the places that are due, without addresses
abbrev pub plain_walk : Result (Bor (List Place)) Refused → Result (List Place) ℕ
plain_walk (Ok due) = Ok due.now
plain_walk (Err refused) = Err refused.word
