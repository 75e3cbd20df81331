-- The lines of items, by their tokens alone.
use Rattle.std.proofs.Common.{◌≡◌, ℕ, ◌+◌, List, [], ◌∷◌, map, filter, cond, refl, sym, ap, subst}
use Rattle.std.specs.List.{AllZip}
use Rattle.ant_base.specs.Lines.{lines_of}
use Rattle.line_tokens.specs.TokenLines.{AreLinesOf, TokenLine, lines_with_tokens, token_lines, with_line}
use Rattle.line_tokens.specs.Tokens.{has_any, tokens_of}

-- the tokens of lines
abbrev all_tokens : List TokenLine → List (List (List ℕ))
all_tokens lines = map (λ (line : TokenLine). line.tokens) lines

-- the tokens of the lines of a text that have one
abbrev said : List (List ℕ) → List (List (List ℕ))
said lines = filter has_any (map tokens_of lines)

all_tokens-said : (number : ℕ) (lines : List (List ℕ)) → all_tokens (token_lines number lines) ≡ said lines
all_tokens-said number [] = refl
all_tokens-said number (line ∷ lines) = go (tokens_of line) (all_tokens-said (number + 1) lines) where
  go : (tokens : List (List ℕ)) → all_tokens (token_lines (number + 1) lines) ≡ said lines
      → all_tokens (with_line number tokens (token_lines (number + 1) lines)) ≡ cond (has_any tokens) (tokens ∷ said lines) (said lines)
  go [] rest = rest
  go (token ∷ tokens) rest = ap (λ more. (token ∷ tokens) ∷ more) rest

to_tokens : {A : Type 0} (Says : List (List ℕ) → A → Type 0) (lines : List TokenLine) (list : List A) → AreLinesOf Says lines list → AllZip Says (all_tokens lines) list
to_tokens Says [] [] are = tt
to_tokens Says [] (item ∷ list) are = absurd are
to_tokens Says (line ∷ lines) [] are = absurd are
to_tokens Says (line ∷ lines) (item ∷ list) are = (are.0, to_tokens Says lines list are.1)

to_lines : {A : Type 0} (Says : List (List ℕ) → A → Type 0) (lines : List TokenLine) (list : List A) → AllZip Says (all_tokens lines) list → AreLinesOf Says lines list
to_lines Says [] [] are = tt
to_lines Says [] (item ∷ list) are = absurd are
to_lines Says (line ∷ lines) [] are = absurd are
to_lines Says (line ∷ lines) (item ∷ list) are = (are.0, to_lines Says lines list are.1)

module _ {A : Type 0} (Says : List (List ℕ) → A → Type 0) (text : List ℕ) (list : List A) where
  pub by_tokens : AreLinesOf Says (lines_with_tokens text) list → AllZip Says (filter has_any (map tokens_of (lines_of text))) list
  by_tokens are = subst (λ tokens. AllZip Says tokens list) (all_tokens-said 1 (lines_of text)) (to_tokens Says (lines_with_tokens text) list are)

  pub by_lines : AllZip Says (filter has_any (map tokens_of (lines_of text))) list → AreLinesOf Says (lines_with_tokens text) list
  by_lines are = to_lines Says (lines_with_tokens text) list (subst (λ tokens. AllZip Says tokens list) (sym (all_tokens-said 1 (lines_of text))) are)
