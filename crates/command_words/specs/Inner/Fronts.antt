-- What precedes a word.
use Rattle.std.specs.Prelude.{ℕ, if◌then◌else◌, List, [], ◌∷◌}
use Rattle.std.specs.Str.{bytes_eq}

-- the words before the first one that equals this; all of them if none does
abbrev pub words_before : List ℕ → List (List ℕ) → List (List ℕ)
words_before text [] = []
words_before text (word ∷ words) = if bytes_eq word text then [] else word ∷ words_before text words
