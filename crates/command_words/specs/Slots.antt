-- What the words at a place of a command may be.
use Rattle.std.specs.Prelude.{◌≡◌, ◌≢◌, ℕ, ◌≤◌, nat_eq, nat_lt, ◌==◌, Bool, true, not, ◌&&◌, if◌then◌else◌, List, [], ◌∷◌, length, Option, Some, None, option_map, is_some, codes}
use Rattle.std.specs.List.{AllByRecursion, starts_with, slice_split}
use Rattle.std.specs.Str.{bytes_eq}
use Rattle.command_words.specs.declared.limits.NumberKind.TheVariants.{RoundCount}
use Rattle.command_words.specs.declared.table.NameList.{NameList}
use Rattle.command_words.specs.declared.slot.Slot.{Slot}
use Rattle.command_words.specs.declared.slot.Slot.TheVariants.{FileName, Number, Dumps, Keyword}
use Rattle.command_words.specs.declared.slot.Place.{Place}
use Rattle.command_words.specs.declared.slot.Place.TheVariants.{Word, Names}
use Rattle.command_words.specs.Limits.{number_in}
use Rattle.command_words.specs.Table.{keyword_of, fewest_names, most_names, must_differ}

-- a word of at least one byte that doesn't begin with `--`
unfoldable pub is_file_name : List ℕ → Bool
is_file_name word = nat_lt 0 (length word) && not (starts_with nat_eq word (codes "--"))

-- the pieces of a text between its commas: one more than there are commas
abbrev pub pieces_of : List ℕ → List (List ℕ)
pieces_of text = slice_split (λ byte. byte == 44) text

-- one more number in front
abbrev pub with_number : Option ℕ → Option (List ℕ) → Option (List ℕ)
with_number None numbers = None
with_number (Some number) numbers = option_map (λ more. number ∷ more) numbers

-- the numbers of the pieces, if each piece is a count of rounds
abbrev pub numbers_of : List (List ℕ) → Option (List ℕ)
numbers_of [] = Some []
numbers_of (piece ∷ pieces) = with_number (number_in RoundCount piece) (numbers_of pieces)

-- the rounds that are dumped: none, all, or those of a list, in its order
pub data DumpChoice : Type 0 where
  NoDump : DumpChoice
  EveryDump : DumpChoice
  ChosenDumps : List ℕ → DumpChoice

-- `none`, `all`, or numbers with one comma between them
unfoldable pub dumps_of : List ℕ → Option DumpChoice
dumps_of word =
    if bytes_eq word (codes "none") then Some NoDump
    else (if bytes_eq word (codes "all") then Some EveryDump else option_map ChosenDumps (numbers_of (pieces_of word)))

-- whether a word is a choice of dumps
unfoldable pub is_dumps : List ℕ → Bool
is_dumps word = is_some (dumps_of word)

-- whether a word fits a slot
abbrev pub fits : Slot → List ℕ → Bool
fits FileName word = is_file_name word
fits (Number kind) word = is_some (number_in kind word)
fits Dumps word = is_dumps word
fits (Keyword list) word = bytes_eq word (keyword_of list)

-- no two names are the same
abbrev pub AllDiffer : List (List ℕ) → Type 0
AllDiffer [] = Unit {0}
AllDiffer (name ∷ names) = AllByRecursion (λ other. other ≢ name) names × AllDiffer names

-- the names of a list: file names, a permitted number of them, and different ones if they must differ
pub record AreNames (list : NameList) (names : List (List ℕ)) : Type 0 where
  pub enough : fewest_names list ≤ length names
  pub few : length names ≤ most_names
  pub each : AllByRecursion (λ name. is_file_name name ≡ true) names
  pub different : must_differ list ≡ true → AllDiffer names

-- the words at a place: one word, or names
abbrev pub FitsPlace : Place → List (List ℕ) → Type 0
FitsPlace (Word slot) [] = ⊥
FitsPlace (Word slot) (word ∷ []) = fits slot word ≡ true
FitsPlace (Word slot) (word ∷ other ∷ more) = ⊥
FitsPlace (Names list) names = AreNames list names
