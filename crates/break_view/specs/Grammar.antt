-- Which texts are lists of breaks.
use Rattle.std.specs.Prelude.{ℕ, ◌≤◌, List, length}
use Rattle.line_tokens.specs.TokenLines.{TokenLine, AreLinesOf, lines_with_tokens}
use Rattle.break_view.specs.declared.breaks.Break.{Break}
use Rattle.break_view.specs.Forms.{BreakLine}

-- the most breaks of a text
abbrev pub most_breaks : ℕ
most_breaks = 256

-- the lines are those of the breaks, one to one and in order
abbrev pub AreBreaks : List TokenLine → List Break → Type 0
AreBreaks lines list = AreLinesOf BreakLine lines list

-- the text is that of the breaks: a line without a token is skipped, and every other line is one break
pub record IsBreakText (text : List ℕ) (list : List Break) : Type 0 where
  pub lines : AreBreaks (lines_with_tokens text) list
  pub few : length list ≤ most_breaks
