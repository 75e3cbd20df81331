-- What the page of `--help` says about the table: each command with its options, and each option, with their limits
-- (this project's own).
use Rattle.std.specs.Prelude.{ℕ, ◌-◌, Bool, true, false, not, if◌then◌else◌, List, [], ◌∷◌, length, slice_index_or, codes, decimal}
use Rattle.std.specs.List.{list_any}
use Rattle.ant_base.specs.Layout.{◌+++◌, numbered}
use Rattle.command_words.specs.declared.limits.NumberKind.{NumberKind}
use Rattle.command_words.specs.declared.slot.Slot.TheVariants.{FileName, Number, Dumps}
use Rattle.command_words.specs.declared.slot.Place.{Place}
use Rattle.command_words.specs.declared.slot.Place.TheVariants.{Word, Names}
use Rattle.command_words.specs.declared.table.CommandKind.{CommandKind}
use Rattle.command_words.specs.declared.table.CommandKind.TheVariants.{Run}
use Rattle.command_words.specs.declared.table.Choice.{Choice}
use Rattle.command_words.specs.declared.table.Choice.TheVariants.{Seed}
use Rattle.command_words.specs.Limits.{least_of, most_of, name_of}
use Rattle.command_words.specs.Table.{about_of, choices_of, default_of, fewest_names, help_row, is_needed, kinds, list_name, means_all, most_names, option_of, options, places_of, values_of, word_of}

-- the texts of the elements of a list, one after another; `first` is a default that is never used
abbrev pub each_text : {A : Type 0} → A → (A → List ℕ) → List A → List ℕ
each_text first text list = numbered (λ at. text (slice_index_or list at first)) (length list)

-- the limits of a number
abbrev pub range_text : NumberKind → List ℕ
range_text kind = codes ", " +++ decimal (least_of kind) +++ codes " to " +++ decimal (most_of kind)

-- the line of a place with limits, and the lines of all places; a file has none
abbrev pub place_line : Place → List ℕ
place_line (Word (Number kind)) = codes "      " +++ name_of kind +++ range_text kind +++ codes "\n"
place_line (Names list) =
    codes "      " +++ list_name list +++ codes ", "
    +++ decimal (fewest_names list) +++ codes " to " +++ decimal most_names +++ codes " names\n"
place_line place = []

unfoldable pub place_lines : List Place → List ℕ
place_lines places = each_text (Word FileName) place_line places

-- the options that a command needs, as they are called, and those that it may have
abbrev pub needed_text : Choice → List ℕ
needed_text choice = if is_needed choice then codes " " +++ option_of choice +++ codes " N" else []

abbrev pub free_text : Choice → List ℕ
free_text choice = if is_needed choice then [] else codes " " +++ option_of choice

unfoldable pub needed_texts : List Choice → List ℕ
needed_texts choices = each_text Seed needed_text choices

unfoldable pub free_texts : List Choice → List ℕ
free_texts choices = each_text Seed free_text choices

-- whether some of these options may be left out
unfoldable pub has_free : List Choice → Bool
has_free choices = list_any (λ choice. not (is_needed choice)) choices

-- that a command may have more options than it needs, and which
unfoldable pub more_text : List Choice → List ℕ
more_text choices = if has_free choices then codes " [OPTION].." else []

unfoldable pub takes_line : List Choice → List ℕ
takes_line choices = if has_free choices then codes "      takes" +++ free_texts choices +++ codes "\n" else []

-- how a command is called, what it does, the limits of its numbers and lists, and its options
unfoldable pub command_text : CommandKind → List ℕ
command_text kind =
    codes "  " +++ word_of kind +++ (help_row kind).names +++ needed_texts (choices_of kind)
    +++ more_text (choices_of kind)
    +++ codes "\n      " +++ (help_row kind).says +++ codes "\n"
    +++ place_lines (places_of kind)
    +++ takes_line (choices_of kind)

-- what follows an option's word, two columns wide
abbrev pub value_text : List Place → List ℕ
value_text (Word (Number kind) ∷ []) = codes " N"
value_text (Word Dumps ∷ []) = codes " D"
value_text places = codes "  "

-- the default of an option: all, or a number
abbrev pub without_text : Bool → ℕ → List ℕ
without_text true default = codes "all"
without_text false default = decimal default

-- the limits of an option's number, and its default
abbrev pub default_text : List Place → Bool → Bool → ℕ → List ℕ
default_text (Word (Number kind) ∷ []) true all default = range_text kind +++ codes "; needed"
default_text (Word (Number kind) ∷ []) false all default = range_text kind +++ codes "; " +++ without_text all default
default_text places needed all default = []

-- the line of an option; the sentence about it begins in column 17
unfoldable pub option_line : Choice → List ℕ
option_line choice =
    codes "  " +++ option_of choice +++ value_text (values_of choice)
    +++ numbered (λ at. codes " ") (12 - length (option_of choice))
    +++ about_of choice
    +++ default_text (values_of choice) (is_needed choice) (means_all choice) (default_of choice)
    +++ codes "\n"

unfoldable pub table_text : List ℕ
table_text = each_text Run command_text kinds +++ codes "\nOptions:\n" +++ each_text Seed option_line options
