-- The text of a line, as it is pushed.
use Rattle.std.specs.Prelude.{◌≡◌, ℕ, Bool, true, false, List, [], ◌∷◌, ◌++◌, codes}
use Rattle.ant_base.specs.Layout.{◌+++◌}

-- further tokens, each after a space, and the LF
abbrev pub further_text : List (List ℕ) → List ℕ
further_text [] = codes "\n"
further_text (token ∷ tokens) = codes " " +++ token +++ further_text tokens

-- the tokens of a line with one space between them, and the LF
abbrev pub tokens_text : List (List ℕ) → List ℕ
tokens_text [] = codes "\n"
tokens_text (token ∷ tokens) = token +++ further_text tokens

-- lines, each by its tokens, one after another
abbrev pub lines_text : List (List (List ℕ)) → List ℕ
lines_text [] = []
lines_text (line ∷ []) = tokens_text line
lines_text (line ∷ next ∷ lines) = tokens_text line +++ lines_text (next ∷ lines)

-- a text was pushed after what was held, if there was room for it
abbrev pub IfPrinted : List ℕ → List ℕ → List ℕ → Bool → Type 0
IfPrinted old new text true = new ≡ old ++ text
IfPrinted old new text false = Unit {0}
