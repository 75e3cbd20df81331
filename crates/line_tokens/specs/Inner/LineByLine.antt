-- A text that is read line by line, and in which each line with a token is one item: the items that are read, or the
-- fault. Brains and breaks are read in this way.
use Rattle.std.specs.Prelude.{ℕ, ◌+◌, List, [], ◌∷◌, ◌++◌, length, Option, Some, None, Result, Ok, Err}
use Rattle.std.specs.Option.{option_or}
use Rattle.line_tokens.specs.declared.refusal.Refusal.{Refusal}
use Rattle.line_tokens.specs.Steps.{Read}
use Rattle.line_tokens.specs.TokenLines.{TokenLine, token_lines}
use Rattle.line_tokens.specs.Faulty.{too_many}

-- how the lines of a text are read: how many items are allowed, the fault of a line beyond them, what is read from a
-- line's tokens, the fault of a refused line, and what is kept of the item of the line with this number
pub record Reader (A P F : Type 0) : Type 0 where
  pub most : ℕ
  pub beyond : ℕ → F
  pub read : List (List ℕ) → Read A
  pub refused : ℕ → Refusal → F
  pub keep : ℕ → A → P

-- one more item in front
abbrev pub put_before : {A F : Type 0} → A → Result (List A) F → Result (List A) F
put_before x (Ok xs) = Ok (x ∷ xs)
put_before x (Err fault) = Err fault

-- some more items in front
abbrev pub with_front : {A F : Type 0} → List A → Result (List A) F → Result (List A) F
with_front front (Ok xs) = Ok (front ++ xs)
with_front front (Err fault) = Err fault

-- the result, unless there is a fault before it
abbrev pub unless : {A F : Type 0} → Option F → Result A F → Result A F
unless None judged = judged
unless (Some fault) judged = Err fault

-- a line that was read, or its fault
abbrev pub at_line : {A F : Type 0} → (ℕ → Refusal → F) → ℕ → Read A → Result A F
at_line refused line (Ok item) = Ok item
at_line refused line (Err refusal) = Err (refused line refusal)

-- a line after this many items
unfoldable pub judged_line : {A P F : Type 0} → Reader A P F → ℕ → ℕ → List (List ℕ) → Result A F
judged_line r before line tokens =
    unless (too_many r.most r.beyond before line) (at_line r.refused line (r.read tokens))

-- a line, and then the lines after it
abbrev pub line_then : {A P F : Type 0} → (ℕ → A → P) → ℕ → Result A F → Result (List P) F → Result (List P) F
line_then keep number (Ok item) later = put_before (keep number item) later
line_then keep number (Err fault) later = Err fault

-- what is kept of the lines, if this many items precede them
abbrev pub read_lines : {A P F : Type 0} → Reader A P F → ℕ → List TokenLine → Result (List P) F
read_lines r before [] = Ok []
read_lines r before (line ∷ lines) =
    line_then r.keep line.number (judged_line r before line.number line.tokens) (read_lines r (before + 1) lines)

-- what is read from these lines, the first of which has this number, after what was kept before
unfoldable pub reading_from : {A P F : Type 0} → Reader A P F → List P → ℕ → List (List ℕ) → Result (List P) F
reading_from r front number lines = with_front front (read_lines r (length front) (token_lines number lines))

-- the fault of the first line at fault
abbrev pub first_line_fault : {F : Type 0} → (ℕ → TokenLine → Option F) → ℕ → List TokenLine → Option F
first_line_fault line_fault before [] = None
first_line_fault line_fault before (line ∷ lines) =
    option_or (line_fault before line) (first_line_fault line_fault (before + 1) lines)
