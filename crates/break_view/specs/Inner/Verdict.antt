-- A whole text, line by line: the breaks that are read, or the fault.
use Rattle.std.specs.Prelude.{ℕ, List, Result}
use Rattle.line_tokens.specs.declared.refusal.LineFault.{LineFault}
use Rattle.line_tokens.specs.declared.refusal.Refusal.{Refusal}
use Rattle.line_tokens.specs.TokenLines.{lines_with_tokens}
use Rattle.line_tokens.specs.Inner.LineByLine.{Reader, read_lines}
use Rattle.break_view.specs.declared.breaks.Break.{Break}
use Rattle.break_view.specs.declared.fault.BreakFault.{BreakFault}
use Rattle.break_view.specs.declared.fault.BreakFault.TheVariants.{UnknownWord, MissingToken, BadNumber, ExtraToken, TooMany}
use Rattle.break_view.specs.Grammar.{most_breaks}
use Rattle.break_view.specs.Inner.Reading.{read_line}

-- what is read from a text, or its fault
abbrev pub Judgement : Type 0 → Type 0
Judgement A = Result A BreakFault

-- the fault of a refused line, regardless of bad bytes
abbrev pub fault_at : ℕ → LineFault → BreakFault
fault_at line LineFault.UnknownWord = UnknownWord line
fault_at line LineFault.MissingToken = MissingToken line
fault_at line LineFault.BadNumber = BadNumber line
fault_at line LineFault.ExtraToken = ExtraToken line

abbrev pub refusal_at : ℕ → Refusal → BreakFault
refusal_at line refusal = fault_at line refusal.fault

-- how the lines of breaks are read: the break of each line is kept
abbrev pub break_reader : Reader Break Break BreakFault
break_reader = record {
  most = most_breaks;
  beyond = TooMany;
  read = read_line;
  refused = refusal_at;
  keep = λ line item. item;
}

-- the breaks of a text, or its fault
unfoldable pub read_text : List ℕ → Judgement (List Break)
read_text text = read_lines break_reader 0 (lines_with_tokens text)
