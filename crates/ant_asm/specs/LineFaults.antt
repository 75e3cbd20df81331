-- Which position of a line is at fault (this project's own: the rule of faults).
use Rattle.std.specs.Prelude.{ℕ, List, [], ◌∷◌, ◌++◌, map, Option, Some, None, option_map, replicate, if◌then◌else◌}
use Rattle.line_tokens.specs.Judgement.{judged, nothing_more}
use Rattle.line_tokens.specs.Tokens.{has_bad_byte}
use Rattle.brain_read.specs.Forms.{forms, word_of_form}
use Rattle.line_tokens.specs.Fields.{named}
use Rattle.brain_read.specs.Judgement as brain
use Rattle.brain_read.specs.Judgement.{positions_of}
use Rattle.brain_read.specs.Judgement.Position.{FormToken, SightToken, SideToken, ConditionToken, MarkerToken, StateToken, BoundToken}
use Rattle.ant_asm.specs.declared.fault.AsmFault.{AsmFault}
use Rattle.ant_asm.specs.declared.fault.AsmFault.TheVariants.{BadByte, UnknownWord, MissingToken, BadNumber, ExtraToken, BadName}
use Rattle.ant_asm.specs.Lines.{Keyword, keywords, most_parameters, word_of_keyword}
use Rattle.ant_asm.specs.Lines.Keyword.{BlockWord, EndWord, UseWord}
use Rattle.ant_asm.specs.Names.{before_colon, label_of, name_if, name_of}

-- What a position of a line needs: what an instruction of a brain has there, a label, or a name. `MayLabel` and
-- `MayName` need it only if a token is left.
pub data Position : Type 0 where
  Of : brain.Position → Position
  LabelToken NameToken MayLabel MayName : Position

-- a label instead of an instruction's state
abbrev pub labelled_position : brain.Position → Position
labelled_position StateToken = LabelToken
labelled_position position = Of position

-- the positions after a keyword
abbrev pub positions_of_keyword : Keyword → List Position
positions_of_keyword BlockWord = NameToken ∷ replicate most_parameters MayName
positions_of_keyword EndWord = []
positions_of_keyword UseWord = NameToken ∷ replicate most_parameters MayLabel

-- the first of the two that exists
abbrev pub or_else : {A : Type 0} → Option A → Option A → Option A
or_else (Some x) other = Some x
or_else None other = other

-- if a name before `:` is the only token of a line, no positions follow it
abbrev pub positions_of_mark : List ℕ → List (List ℕ) → Option (List Position)
positions_of_mark token [] = option_map (λ name. []) (name_if (before_colon token))
positions_of_mark token (other ∷ tokens) = None

-- the positions after the first token of a line, given the tokens that follow it
abbrev pub positions_after : List ℕ → List (List ℕ) → Option (List Position)
positions_after token others =
    or_else (option_map (λ form. map labelled_position (positions_of form)) (named word_of_form forms token))
    (or_else (option_map positions_of_keyword (named word_of_keyword keywords token)) (positions_of_mark token others))

-- the positions that the token adds, if its position accepts it
abbrev pub accepted : Position → List ℕ → Option (List Position)
accepted (Of position) token = option_map (map Of) (brain.accepted position token)
accepted LabelToken token = option_map nothing_more (label_of token)
accepted NameToken token = option_map nothing_more (name_of token)
accepted MayLabel token = option_map nothing_more (label_of token)
accepted MayName token = option_map nothing_more (name_of token)

-- the fault of a token that has no bad byte, if a position of an instruction doesn't accept it
abbrev pub fault_of_brain : brain.Position → ℕ → AsmFault
fault_of_brain FormToken line = UnknownWord line
fault_of_brain SightToken line = UnknownWord line
fault_of_brain SideToken line = UnknownWord line
fault_of_brain ConditionToken line = UnknownWord line
fault_of_brain MarkerToken line = BadNumber line
fault_of_brain StateToken line = BadNumber line
fault_of_brain BoundToken line = BadNumber line

-- the fault of a token that has no bad byte, if its position doesn't accept it
abbrev pub fault_of : Position → ℕ → AsmFault
fault_of (Of position) line = fault_of_brain position line
fault_of LabelToken line = BadName line
fault_of NameToken line = BadName line
fault_of MayLabel line = BadName line
fault_of MayName line = BadName line

-- the fault of a position without a token
abbrev pub missing_at : Position → ℕ → Option AsmFault
missing_at (Of position) line = Some (MissingToken line)
missing_at LabelToken line = Some (MissingToken line)
missing_at NameToken line = Some (MissingToken line)
missing_at MayLabel line = None
missing_at MayName line = None

-- the fault of the first position at fault, if there is one
abbrev pub first_fault : ℕ → List (List ℕ) → List Position → Option AsmFault
first_fault line [] [] = None
first_fault line [] (position ∷ positions) = missing_at position line
first_fault line (token ∷ tokens) [] = Some (if has_bad_byte token then BadByte line else ExtraToken line)
first_fault line (token ∷ tokens) (position ∷ positions) =
    if has_bad_byte token then Some (BadByte line)
    else judged (accepted position token) (fault_of position line)
    (λ brings. first_fault line tokens (brings ++ positions))

-- the fault of the first position of a line that is at fault; the first token decides which positions follow it
unfoldable pub spelling_fault : ℕ → List (List ℕ) → Option AsmFault
spelling_fault line [] = Some (MissingToken line)
spelling_fault line (token ∷ tokens) =
    if has_bad_byte token then Some (BadByte line)
    else judged (positions_after token tokens) (UnknownWord line) (first_fault line tokens)
