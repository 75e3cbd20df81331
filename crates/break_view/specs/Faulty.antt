-- What is wrong with a text that is not a list of breaks.
use Rattle.std.specs.Prelude.{ℕ, List, [], ◌∷◌, Option}
use Rattle.std.specs.Option.{option_or}
use Rattle.line_tokens.specs.TokenLines.{TokenLine}
use Rattle.line_tokens.specs.Faulty.{too_many, HasLineFault}
use Rattle.break_view.specs.declared.fault.BreakFault.{BreakFault}
use Rattle.break_view.specs.declared.fault.BreakFault.TheVariants.{TooMany}
use Rattle.break_view.specs.Forms.{BreakLine}
use Rattle.break_view.specs.Positions.{first_fault}
use Rattle.break_view.specs.Positions.Position.{BreakToken}
use Rattle.break_view.specs.Grammar.{most_breaks}

-- the fault of a line after this many breaks
abbrev pub line_fault : ℕ → TokenLine → Option BreakFault
line_fault before line =
    option_or (too_many most_breaks TooMany before line.number) (first_fault line.number line.tokens (BreakToken ∷ []))

-- the fault of a text: a line has it, and no line before it is at fault: those are the lines of breaks, and no more
-- than a text may have
abbrev pub IsBreakFault : List ℕ → BreakFault → Type 0
IsBreakFault text fault = HasLineFault BreakLine line_fault most_breaks text fault
