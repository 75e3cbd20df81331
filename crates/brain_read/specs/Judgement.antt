-- Which position of a line is at fault, as the clauses of `read_brain` use it (this project's own: the rule of faults).
use Rattle.std.specs.Prelude.{ℕ, List, [], ◌∷◌, ◌++◌, Option, Some, None, option_map, if◌then◌else◌}
use Rattle.ant_base.specs.Number.{decimal_value, number_within}
use Rattle.line_tokens.specs.Judgement.{nothing_more, judged}
use Rattle.brain_read.specs.declared.fault.BrainFault.{BrainFault}
use Rattle.brain_read.specs.declared.fault.BrainFault.TheVariants.{BadByte, UnknownWord, MissingToken, BadNumber, ExtraToken}
use Rattle.brain_read.specs.declared.form.Form.{Form}
use Rattle.brain_read.specs.declared.form.ConditionWord.{ConditionWord}
use Rattle.line_tokens.specs.Tokens.{has_bad_byte}
use Rattle.line_tokens.specs.Fields.{named}
use Rattle.brain_read.specs.Forms.{word_of_form, word_of_sight, word_of_side, word_of_condition, forms, sights, sides, conditions, most_bound}

-- what a position of a line needs
pub data Position : Type 0 where
  FormToken SightToken SideToken ConditionToken MarkerToken StateToken BoundToken : Position

-- the positions after the first word: the table of forms
abbrev pub positions_of : Form → List Position
positions_of Form.Sense = SightToken ∷ StateToken ∷ StateToken ∷ ConditionToken ∷ []
positions_of Form.Mark = MarkerToken ∷ StateToken ∷ []
positions_of Form.Unmark = MarkerToken ∷ StateToken ∷ []
positions_of Form.PickUp = StateToken ∷ StateToken ∷ []
positions_of Form.Drop = StateToken ∷ []
positions_of Form.Turn = SideToken ∷ StateToken ∷ []
positions_of Form.Move = StateToken ∷ StateToken ∷ []
positions_of Form.Flip = BoundToken ∷ StateToken ∷ StateToken ∷ []

-- the positions after the word of a condition
abbrev pub positions_of_condition : ConditionWord → List Position
positions_of_condition ConditionWord.Marker = MarkerToken ∷ []
positions_of_condition _ = []

-- the positions that the token adds, if its position accepts it
abbrev pub accepted : Position → List ℕ → Option (List Position)
accepted FormToken token = option_map positions_of (named word_of_form forms token)
accepted SightToken token = option_map nothing_more (named word_of_sight sights token)
accepted SideToken token = option_map nothing_more (named word_of_side sides token)
accepted ConditionToken token = option_map positions_of_condition (named word_of_condition conditions token)
accepted MarkerToken token = option_map nothing_more (number_within 0 5 token)
accepted StateToken token = option_map nothing_more (decimal_value token)
accepted BoundToken token = option_map nothing_more (number_within 1 most_bound token)

-- the fault of a token without a bad byte that its position doesn't accept
abbrev pub fault_of : Position → ℕ → BrainFault
fault_of FormToken line = UnknownWord line
fault_of SightToken line = UnknownWord line
fault_of SideToken line = UnknownWord line
fault_of ConditionToken line = UnknownWord line
fault_of MarkerToken line = BadNumber line
fault_of StateToken line = BadNumber line
fault_of BoundToken line = BadNumber line

-- The fault of the first position at fault, if there is one. The positions are judged from the left. One without a
-- token is MissingToken, a token with a bad byte is BadByte, a token that its position doesn't accept has that
-- position's fault, and a token after the last position is ExtraToken.
abbrev pub first_fault : ℕ → List (List ℕ) → List Position → Option BrainFault
first_fault line [] [] = None
first_fault line [] (position ∷ positions) = Some (MissingToken line)
first_fault line (token ∷ tokens) [] = Some (if has_bad_byte token then BadByte line else ExtraToken line)
first_fault line (token ∷ tokens) (position ∷ positions) =
    if has_bad_byte token then Some (BadByte line)
    else judged (accepted position token) (fault_of position line)
    (λ brings. first_fault line tokens (brings ++ positions))
