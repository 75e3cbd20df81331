-- The first line at fault of a text that has an item in each line (this project's own).
use Rattle.std.specs.Prelude.{◌≡◌, ℕ, ◌≤◌, nat_le, List, ◌∷◌, ◌++◌, length, Option, Some, None, if◌then◌else◌}
use Rattle.line_tokens.specs.TokenLines.{TokenLine, lines_with_tokens, AreLinesOf}

-- the fault of the line with this number, if as many items as allowed precede it
abbrev pub too_many : {F : Type 0} → ℕ → (ℕ → F) → ℕ → ℕ → Option F
too_many most fault before line = if nat_le most before then Some (fault line) else None

-- a line has this fault, and no line before it is at fault: those are the lines of items, and no more than allowed
pub record HasLineFault {A F : Type 0} (Says : List (List ℕ) → A → Type 0) (line_fault : ℕ → TokenLine → Option F)
    (most : ℕ) (text : List ℕ) (fault : F) : Type 0 where
  pub before : List TokenLine
  pub line : TokenLine
  pub after : List TokenLine
  pub lines : lines_with_tokens text ≡ before ++ line ∷ after
  pub read : List A
  pub good : AreLinesOf Says before read
  pub few : length before ≤ most
  pub wrong : line_fault (length before) line ≡ Some fault
