-- Which position of a line is at fault: the rule of faults, as the clauses of `read_breaks` use it.
use Rattle.std.specs.Prelude.{ℕ, List, [], ◌∷◌, ◌++◌, Option, Some, None, option_map}
use Rattle.ant_base.specs.Number.{number_within}
use Rattle.line_tokens.specs.Fields.{named}
use Rattle.line_tokens.specs.Judgement.{nothing_more, judged}
use Rattle.break_view.specs.declared.fault.BreakFault.{BreakFault}
use Rattle.break_view.specs.declared.fault.BreakFault.TheVariants.{UnknownWord, MissingToken, BadNumber, ExtraToken}
use Rattle.break_view.specs.declared.words.BreakWord.{BreakWord}
use Rattle.break_view.specs.Forms.{word_of_break, word_of_colour, break_kinds, colours, most_number}

-- what a position of a line needs
pub data Position : Type 0 where
  BreakToken ColourToken NumberToken : Position

-- the positions after the first word: the table of forms
abbrev pub positions_of : BreakWord → List Position
positions_of BreakWord.Round = NumberToken ∷ []
positions_of BreakWord.State = ColourToken ∷ NumberToken ∷ []
positions_of BreakWord.Stand = ColourToken ∷ NumberToken ∷ NumberToken ∷ []
positions_of BreakWord.Food = NumberToken ∷ NumberToken ∷ NumberToken ∷ []
positions_of BreakWord.Killed = NumberToken ∷ []
positions_of BreakWord.Score = ColourToken ∷ NumberToken ∷ []

-- the positions that the token adds, if its position accepts it
abbrev pub accepted : Position → List ℕ → Option (List Position)
accepted BreakToken token = option_map positions_of (named word_of_break break_kinds token)
accepted ColourToken token = option_map nothing_more (named word_of_colour colours token)
accepted NumberToken token = option_map nothing_more (number_within 0 most_number token)

-- the fault of a token that its position doesn't accept
abbrev pub fault_of : Position → ℕ → BreakFault
fault_of BreakToken line = UnknownWord line
fault_of ColourToken line = UnknownWord line
fault_of NumberToken line = BadNumber line

-- The fault of the first position at fault, if there is one. The positions are judged from the left. One without a
-- token is MissingToken, a token that its position doesn't accept has that position's fault, and a token after the last
-- position is ExtraToken.
abbrev pub first_fault : ℕ → List (List ℕ) → List Position → Option BreakFault
first_fault line [] [] = None
first_fault line [] (position ∷ positions) = Some (MissingToken line)
first_fault line (token ∷ tokens) [] = Some (ExtraToken line)
first_fault line (token ∷ tokens) (position ∷ positions) =
    judged (accepted position token) (fault_of position line) (λ brings. first_fault line tokens (brings ++ positions))
