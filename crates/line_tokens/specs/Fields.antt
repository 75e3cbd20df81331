-- The fields of a line: which tokens spell them, and how they are printed (this project's own).
use Rattle.std.specs.Prelude.{◌≡◌, ℕ, List, [], ◌∷◌, find, Option, Some, codes, decimal}
use Rattle.std.specs.List.{AllZip}
use Rattle.std.specs.Str.{str_eq_ignore_ascii_case}
use Rattle.ant_base.specs.Layout.{◌+++◌}
use Rattle.ant_base.specs.Number.{decimal_value}
use Rattle.word_table.specs.Words.{IsSameWord}

-- which of several things a token names: the first one whose word equals it, in any ASCII case
abbrev pub named : {A : Type 0} → (A → List ℕ) → List A → List ℕ → Option A
named word things token = find (λ thing. str_eq_ignore_ascii_case (word thing) token) things

-- one token of a line: a word, in any ASCII case, or a number
pub data LineField : Type 0 where
  Word : List ℕ → LineField
  Number : ℕ → LineField

-- a token spells a field
abbrev pub Spells : LineField → List ℕ → Type 0
Spells (Word word) token = IsSameWord word token
Spells (Number n) token = decimal_value token ≡ Some n

-- the tokens spell the fields, one by one
abbrev pub SpellsAll : List LineField → List (List ℕ) → Type 0
SpellsAll fields tokens = AllZip Spells fields tokens

-- the text of one token
abbrev pub field_text : LineField → List ℕ
field_text (Word word) = word
field_text (Number n) = decimal n

-- further tokens, each after a space, and the LF
abbrev pub further_text : List LineField → List ℕ
further_text [] = codes "\n"
further_text (field ∷ fields) = codes " " +++ field_text field +++ further_text fields

-- the tokens of a line, with one space between them, and the LF
abbrev pub line_text : List LineField → List ℕ
line_text [] = codes "\n"
line_text (field ∷ fields) = field_text field +++ further_text fields
