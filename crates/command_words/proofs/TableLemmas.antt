-- What holds of each command, each option and each list of the tables. Each fact computes over the whole table, so that
-- a new row needs no line here.
use denote.Enum.Bare.{sameb, same_true}
use Rattle.std.proofs.Common.{nat_le, ◌≡◌, ◌≢◌, ℕ, Bool, true, false, not, ◌&&◌, ◌||◌, List, [], ◌∷◌, ◌++◌, Some, find, is_some, codes, cond, bytes_eq, refl, sym, ap, ◌∙◌, ◌⊎◌, inl, inr}
use Rattle.std.specs.List.{Contains, flat_map, list_all}
use Rattle.std.proofs.lemmas.Bool.{not-true, false≢true, false_from_ne_true, or_cases}
use Rattle.std.proofs.lemmas.Slice.Eq.{bytes_eq-Decides}
use Rattle.ant_base.specs.Number.{decimal_value}
use Rattle.command_words.specs.contracts.limits.NumberKind as number
use Rattle.command_words.specs.contracts.table.Choice as option
use Rattle.command_words.specs.contracts.table.CommandKind as command
use Rattle.command_words.specs.contracts.table.NameList as list_of
use Rattle.command_words.specs.declared.limits.NumberKind.{NumberKind}
use Rattle.command_words.specs.declared.table.NameList.{NameList}
use Rattle.command_words.specs.declared.table.NameList.TheVariants.{Worlds, Brains}
use Rattle.command_words.specs.declared.slot.Slot.{Slot}
use Rattle.command_words.specs.declared.slot.Slot.TheVariants.{FileName, Number, Dumps, Keyword}
use Rattle.command_words.specs.declared.slot.Place.{Place}
use Rattle.command_words.specs.declared.slot.Place.TheVariants.{Word, Names}
use Rattle.command_words.specs.declared.table.CommandKind.{CommandKind}
use Rattle.command_words.specs.declared.table.Choice.{Choice}
use Rattle.command_words.specs.Limits.{least_of, most_of, number_in}
use Rattle.command_words.specs.Slots.{fits, is_file_name, is_dumps, dumps_of}
use Rattle.command_words.specs.Table.{kinds, word_of, places_of, choices_of, default_of, option_of, values_of, keyword_of}
use Rattle.command_words.specs.Inner.Walk.{command_kind_of, choice_of}
use Rattle.list_lemmas.proofs.Elements.{Contains-none, Contains-cases}
use Rattle.command_words.proofs.EveryValue.{each-passes}
use Rattle.command_words.proofs.ListLemmas.{find-passes, find-Contains}

pub bytes_eq-same : (word : List ℕ) → bytes_eq word word ≡ true
bytes_eq-same word = (bytes_eq-Decides word word).1 refl

-- what is found by its own word, if two things have two words
find-word : {X : Type 0} (word : X → List ℕ) → ((a b : X) → bytes_eq (word a) (word b) ≡ true → a ≡ b) → (list : List X) (x : X) → Contains list x
    → find (λ other. bytes_eq (word other) (word x)) list ≡ Some x
find-word word same [] x has = absurd (Contains-none x has)
find-word {X = X} word same (other ∷ list) x has =
    go (bytes_eq (word other) (word x)) refl (Contains-cases other x list has) (find-word word same list x)
  where
    go : (b : Bool) → bytes_eq (word other) (word x) ≡ b → (other ≡ x) ⊎ Contains list x
        → (Contains list x → find (λ other. bytes_eq (word other) (word x)) list ≡ Some x)
        → cond b (Some other) (find (λ other. bytes_eq (word other) (word x)) list) ≡ Some x
    go true e has rest = ap Some (same other x e)
    go false e (inr later) rest = rest later
    go false e (inl here) rest = absurd (false≢true (sym e ∙ ap (λ o. bytes_eq (word o) (word x)) here ∙ bytes_eq-same (word x)))

-- the options of all commands
abbrev choices : List Choice
choices = flat_map choices_of kinds

-- what all options pass, and all commands
pub each_option : (p : Choice → Bool) → list_all p choices ≡ true → (choice : Choice) → p choice ≡ true
each_option p passes choice = each-passes option.the_type tt choices refl p passes choice

pub each_command : (p : CommandKind → Bool) → list_all p kinds ≡ true → (kind : CommandKind) → p kind ≡ true
each_command p passes kind = each-passes command.the_type tt kinds refl p passes kind

-- two that are one, or have two words
abbrev options_apart : Choice → Choice → Bool
options_apart a b = not (bytes_eq (option_of a) (option_of b)) || sameb option.the_type a b

abbrev commands_apart : CommandKind → CommandKind → Bool
commands_apart a b = not (bytes_eq (word_of a) (word_of b)) || sameb command.the_type a b

-- two options have two words
pub same_option : (a b : Choice) → bytes_eq (option_of a) (option_of b) ≡ true → a ≡ b
same_option a b e =
    let apart = each_option (options_apart a) (each_option (λ a. list_all (options_apart a) choices) refl a) b in
    elim (or_cases (not (bytes_eq (option_of a) (option_of b))) (sameb option.the_type a b) apart) [
      | inl differ ↦ absurd (false≢true (sym (not-true (bytes_eq (option_of a) (option_of b)) differ) ∙ e))
      | inr same ↦ same_true option.the_type tt a b same
    ]

pub same_option-differs : (a b : Choice) → a ≢ b → bytes_eq (option_of a) (option_of b) ≡ false
same_option-differs a b differ = false_from_ne_true (bytes_eq (option_of a) (option_of b)) (λ e. differ (same_option a b e))

-- two commands have two words
same_kind : (a b : CommandKind) → bytes_eq (word_of a) (word_of b) ≡ true → a ≡ b
same_kind a b e =
    let apart = each_command (commands_apart a) (each_command (λ a. list_all (commands_apart a) kinds) refl a) b in
    elim (or_cases (not (bytes_eq (word_of a) (word_of b))) (sameb command.the_type a b) apart) [
      | inl differ ↦ absurd (false≢true (sym (not-true (bytes_eq (word_of a) (word_of b)) differ) ∙ e))
      | inr same ↦ same_true command.the_type tt a b same
    ]

-- a word that fits each slot
pub sample : Slot → List ℕ
sample FileName = codes "w"
sample (Number kind) = codes "5"
sample Dumps = codes "all"
sample (Keyword list) = keyword_of list

-- the kinds of number that places ask for
abbrev numbers_at : List Place → List NumberKind
numbers_at [] = []
numbers_at (Word (Number kind) ∷ places) = kind ∷ numbers_at places
numbers_at (place ∷ places) = numbers_at places

abbrev numbers : List NumberKind
numbers = flat_map (λ kind. numbers_at (places_of kind)) kinds ++ flat_map (λ choice. numbers_at (values_of choice)) choices

five_fits : (kind : NumberKind) → is_some (number_in kind (codes "5")) ≡ true
unfolding decimal_value
five_fits kind = each-passes number.the_type tt numbers refl (λ kind. is_some (number_in kind (codes "5"))) refl kind

pub sample-fits : (slot : Slot) → fits slot (sample slot) ≡ true
unfolding sample is_file_name is_dumps dumps_of decimal_value
sample-fits FileName = refl
sample-fits (Number kind) = five_fits kind
sample-fits Dumps = refl
sample-fits (Keyword list) = bytes_eq-same (keyword_of list)

no_option_fits : (slot : Slot) → list_all (λ choice. not (fits slot (option_of choice))) choices ≡ true
unfolding is_file_name is_dumps dumps_of decimal_value
no_option_fits (Keyword Worlds) = refl
no_option_fits slot = refl

-- no option's word fits a slot
pub option-unfit : (slot : Slot) (choice : Choice) → fits slot (option_of choice) ≡ false
option-unfit slot choice =
    not-true (fits slot (option_of choice)) (each_option (λ choice. not (fits slot (option_of choice))) (no_option_fits slot) choice)

-- nor does a word without a byte
pub empty-unfit : (slot : Slot) → fits slot [] ≡ false
unfolding is_file_name is_dumps dumps_of decimal_value
empty-unfit (Keyword Worlds) = refl
empty-unfit slot = refl

-- a list's word
abbrev pub is_keyword : Slot → Bool
is_keyword (Keyword list) = true
is_keyword slot = false

-- no list's word is a file name
pub keyword-no_name : (list : NameList) → is_file_name (keyword_of list) ≡ false
unfolding is_file_name
keyword-no_name Worlds = refl
keyword-no_name Brains = refl

-- no list's word is that of an option
pub keyword-not_option : (list : NameList) (choice : Choice) → bytes_eq (option_of choice) (keyword_of list) ≡ false
keyword-not_option Worlds choice = not-true (bytes_eq (option_of choice) (keyword_of Worlds)) (each_option (λ choice. not (bytes_eq (option_of choice) (keyword_of Worlds))) refl choice)
keyword-not_option Brains choice = not-true (bytes_eq (option_of choice) (keyword_of Brains)) (each_option (λ choice. not (bytes_eq (option_of choice) (keyword_of Brains))) refl choice)

-- nor that of a command
pub keyword-not_first : (list : NameList) (kind : CommandKind) → bytes_eq (word_of kind) (keyword_of list) ≡ false
keyword-not_first Worlds kind = not-true (bytes_eq (word_of kind) (keyword_of Worlds)) (each_command (λ kind. not (bytes_eq (word_of kind) (keyword_of Worlds))) refl kind)
keyword-not_first Brains kind = not-true (bytes_eq (word_of kind) (keyword_of Brains)) (each_command (λ kind. not (bytes_eq (word_of kind) (keyword_of Brains))) refl kind)

-- nor does it fit another slot
pub keyword-unfit : (list : NameList) (slot : Slot) → is_keyword slot ≡ false → fits slot (keyword_of list) ≡ false
unfolding is_dumps dumps_of decimal_value
keyword-unfit list FileName other = keyword-no_name list
keyword-unfit list (Keyword same) other = absurd (false≢true (sym other))
keyword-unfit Worlds slot other = refl
keyword-unfit Brains slot other = refl

-- no option's word is a command's first word
pub option-not_first : (kind : CommandKind) (choice : Choice) → bytes_eq (word_of kind) (option_of choice) ≡ false
option-not_first kind choice =
    not-true (bytes_eq (word_of kind) (option_of choice))
    (each_option (λ choice. not (bytes_eq (word_of kind) (option_of choice)))
    (each_command (λ kind. list_all (λ choice. not (bytes_eq (word_of kind) (option_of choice))) choices) refl kind) choice)

-- a word has a byte
abbrev pub has_byte : List ℕ → Bool
has_byte [] = false
has_byte (byte ∷ word) = true

pub command-byte : (kind : CommandKind) → has_byte (word_of kind) ≡ true
command-byte kind = each_command (λ kind. has_byte (word_of kind)) refl kind

pub option-byte : (choice : Choice) → has_byte (option_of choice) ≡ true
option-byte choice = each_option (λ choice. has_byte (option_of choice)) refl choice

-- the places end, or continue with a list's word
abbrev pub stops : List Place → Bool
stops [] = true
stops (Word slot ∷ places) = is_keyword slot
stops (Names list ∷ places) = false

-- names are followed by a list's word, or by no place
abbrev pub runs_end : List Place → Bool
runs_end [] = true
runs_end (Word slot ∷ places) = runs_end places
runs_end (Names list ∷ places) = stops places && runs_end places

pub places-end : (kind : CommandKind) → runs_end (places_of kind) ≡ true
places-end kind = each_command (λ kind. runs_end (places_of kind)) refl kind

-- an option has one word after its own, or none, and no list
abbrev pub is_short : List Place → Bool
is_short [] = true
is_short (Word slot ∷ []) = not (is_keyword slot)
is_short (Word slot ∷ place ∷ places) = false
is_short (Names list ∷ places) = false

pub values-short : (choice : Choice) → is_short (values_of choice) ≡ true
values-short choice = each_option (λ choice. is_short (values_of choice)) refl choice

pub values-end : (choice : Choice) → runs_end (values_of choice) ≡ true
values-end choice = each_option (λ choice. runs_end (values_of choice)) refl choice

-- each known command is found by its first word
pub command_kind_of-word : (kind : CommandKind) → Contains kinds kind → command_kind_of (word_of kind) ≡ Some kind
unfolding command_kind_of
command_kind_of-word kind has = find-word word_of same_kind kinds kind has

pub command_kind_of-found : (word : List ℕ) (kind : CommandKind) → command_kind_of word ≡ Some kind → word ≡ word_of kind
unfolding command_kind_of
command_kind_of-found word kind e = sym ((bytes_eq-Decides (word_of kind) word).0 (find-passes (λ kind. bytes_eq (word_of kind) word) kinds kind e))

pub command_kind_of-known : (word : List ℕ) (kind : CommandKind) → command_kind_of word ≡ Some kind → Contains kinds kind
unfolding command_kind_of
command_kind_of-known word kind e = find-Contains (λ kind. bytes_eq (word_of kind) word) kinds kind e

pub choice_of-found : (kind : CommandKind) (word : List ℕ) (choice : Choice) → choice_of kind word ≡ Some choice → word ≡ option_of choice
unfolding choice_of
choice_of-found kind word choice e =
    sym ((bytes_eq-Decides (option_of choice) word).0 (find-passes (λ choice. bytes_eq (option_of choice) word) (choices_of kind) choice e))

pub choice_of-known : (kind : CommandKind) (word : List ℕ) (choice : Choice) → choice_of kind word ≡ Some choice → Contains (choices_of kind) choice
unfolding choice_of
choice_of-known kind word choice e = find-Contains (λ choice. bytes_eq (option_of choice) word) (choices_of kind) choice e

-- each option of a command is found by its word
pub choice_of-option : (kind : CommandKind) (choice : Choice) → Contains (choices_of kind) choice → choice_of kind (option_of choice) ≡ Some choice
unfolding choice_of
choice_of-option kind choice has = find-word option_of same_option (choices_of kind) choice has

-- the least number of a kind is within its limits
pub least-most : (kind : NumberKind) → nat_le (least_of kind) (most_of kind) ≡ true
least-most kind = each-passes number.the_type tt numbers refl (λ kind. nat_le (least_of kind) (most_of kind)) refl kind

-- what holds without an option is within the limits of its number
abbrev pub default_fits : List Place → ℕ → Bool
default_fits (Word (Number kind) ∷ []) default = nat_le (least_of kind) default && nat_le default (most_of kind)
default_fits places default = true

pub default-fits : (choice : Choice) → default_fits (values_of choice) (default_of choice) ≡ true
default-fits choice = each_option (λ choice. default_fits (values_of choice) (default_of choice)) refl choice

-- whether a list's names have a place
abbrev pub has_names : NameList → List Place → Bool
has_names list [] = false
has_names list (Word slot ∷ places) = has_names list places
has_names list (Names other ∷ places) = sameb list_of.the_type other list || has_names list places

-- whether its names stand first, and then a list's word or no place
abbrev pub begins_with : NameList → List Place → Bool
begins_with list [] = false
begins_with list (Word slot ∷ places) = false
begins_with list (Names other ∷ places) = sameb list_of.the_type other list && stops places

-- whether its names stand after the first place of its word
abbrev pub follows : NameList → List Place → Bool
follows list [] = false
follows list (Names other ∷ places) = follows list places
follows list (Word FileName ∷ places) = follows list places
follows list (Word (Number kind) ∷ places) = follows list places
follows list (Word Dumps ∷ places) = follows list places
follows list (Word (Keyword other) ∷ places) = cond (sameb list_of.the_type other list) (begins_with list places) (follows list places)

-- the names of each list that a command has stand after its word
pub names-follow : (list : NameList) (kind : CommandKind) → (not (has_names list (places_of kind)) || follows list (places_of kind)) ≡ true
names-follow Worlds kind = each_command (λ kind. not (has_names Worlds (places_of kind)) || follows Worlds (places_of kind)) refl kind
names-follow Brains kind = each_command (λ kind. not (has_names Brains (places_of kind)) || follows Brains (places_of kind)) refl kind

-- a list is that of its word
pub same_list : (a b : NameList) → sameb list_of.the_type a b ≡ true → a ≡ b
same_list a b e = same_true list_of.the_type tt a b e

pub same_list-self : (a : NameList) → sameb list_of.the_type a a ≡ true
same_list-self Worlds = refl
same_list-self Brains = refl

pub keywords-apart : (a b : NameList) → sameb list_of.the_type a b ≡ false → bytes_eq (keyword_of a) (keyword_of b) ≡ false
keywords-apart Worlds Brains e = refl
keywords-apart Brains Worlds e = refl
keywords-apart Worlds Worlds e = absurd (false≢true (sym e))
keywords-apart Brains Brains e = absurd (false≢true (sym e))

-- after names, or from here on, no place is one of a file or a number
abbrev pub none_is_read : List Place → Bool
none_is_read [] = true
none_is_read (Word slot ∷ places) = is_keyword slot && none_is_read places
none_is_read (Names list ∷ places) = none_is_read places

-- each place that is read by its number is before all names
abbrev pub indexed : List Place → Bool
indexed [] = true
indexed (Word slot ∷ places) = indexed places
indexed (Names list ∷ places) = none_is_read places

pub places-indexed : (kind : CommandKind) → indexed (places_of kind) ≡ true
places-indexed kind = each_command (λ kind. indexed (places_of kind)) refl kind

-- what holds without an option is 32 bits long
pub default-small : (choice : Choice) → nat_le (default_of choice) 4294967295 ≡ true
default-small choice = each_option (λ choice. nat_le (default_of choice) 4294967295) refl choice
