-- The lines of a text that have a token, and the items they spell (the task's neurology, as this project spells its
-- files).
use Rattle.std.specs.Prelude.{ℕ, ◌+◌, List, [], ◌∷◌}
use Rattle.std.specs.List.{AllZip}
use Rattle.ant_base.specs.Lines.{lines_of}
use Rattle.line_tokens.specs.Tokens.{tokens_of}

-- a line that has a token: its number, counted from 1, and its tokens
pub record TokenLine : Type 0 where
  pub number : ℕ
  pub tokens : List (List ℕ)

-- a line without a token is skipped
abbrev pub with_line : ℕ → List (List ℕ) → List TokenLine → List TokenLine
with_line number [] lines = lines
with_line number (token ∷ tokens) lines = record { number = number; tokens = token ∷ tokens } ∷ lines

-- the lines that have a token, if the first line has this number
abbrev pub token_lines : ℕ → List (List ℕ) → List TokenLine
token_lines number [] = []
token_lines number (line ∷ lines) = with_line number (tokens_of line) (token_lines (number + 1) lines)

-- the lines of a text that have a token
abbrev pub lines_with_tokens : List ℕ → List TokenLine
lines_with_tokens text = token_lines 1 (lines_of text)

-- the lines are those of the items of a list, one to one and in order; Says holds if a line's tokens spell an item
abbrev pub AreLinesOf : {A : Type 0} → (List (List ℕ) → A → Type 0) → List TokenLine → List A → Type 0
AreLinesOf Says lines list = AllZip (λ line item. Says line.tokens item) lines list
