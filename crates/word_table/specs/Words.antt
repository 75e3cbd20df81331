-- Tables of words that are read in any ASCII case (this project's own: the spelling of its files).
use Rattle.std.specs.Prelude.{◌≡◌, ℕ, suc, Bool, true, not, ◌&&◌, IsTrue, List, [], ◌∷◌, Option, Some, None, slice_get, option_map, if◌then◌else◌}
use Rattle.std.specs.List.{list_any}
use Rattle.std.specs.Str.{str_to_ascii_lowercase, str_eq_ignore_ascii_case}

-- two texts are the same word in some ASCII case: with each capital letter made small they are equal
abbrev pub IsSameWord : List ℕ → List ℕ → Type 0
IsSameWord a b = str_to_ascii_lowercase a ≡ str_to_ascii_lowercase b

-- no two words of a list are the same word in some ASCII case
abbrev pub are_distinct : List (List ℕ) → Bool
are_distinct [] = true
are_distinct (word ∷ words) = not (list_any (str_eq_ignore_ascii_case word) words) && are_distinct words

-- the place, counted from 0, of the first word that equals the text in some ASCII case
abbrev pub word_place : List (List ℕ) → List ℕ → Option ℕ
word_place [] text = None
word_place (word ∷ words) text =
    if str_eq_ignore_ascii_case word text then Some 0 else option_map suc (word_place words text)

-- the text is the word at this place of a table, in some ASCII case
pub record IsWordAt (words : List (List ℕ)) (i : ℕ) (text : List ℕ) : Type 0 where
  pub word : List ℕ
  pub stands : slice_get words i ≡ Some word
  pub same : IsSameWord word text

-- in a table whose words differ in any ASCII case, each word is found at its own place
abbrev pub WordIsFound : Type 0
WordIsFound =
    (words : List (List ℕ)) (i : ℕ) (word : List ℕ) → IsTrue (are_distinct words) → slice_get words i ≡ Some word
    → word_place words word ≡ Some i
