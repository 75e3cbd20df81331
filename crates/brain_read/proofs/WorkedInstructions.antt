-- One instruction, worked out: as it is read, settled against a number of states, and printed.
use Rattle.std.proofs.Common.{◌≡◌, true, false, [], ◌∷◌, ◌++◌, map, Ok, Err, codes, refl, arith}
use Rattle.std.proofs.lemmas.Fmt.{decimal_digit}
use Rattle.hex_geometry.specs.declared.direction.Side.TheVariants.{Left}
use Rattle.hex_geometry.specs.declared.neighbourhood.Sight.TheVariants.{Here, LeftAhead}
use Rattle.ant_base.specs.Number.{decimal_value}
use Rattle.line_tokens.specs.declared.refusal.LineFault.TheVariants.{UnknownWord, MissingToken, BadNumber, ExtraToken}
use Rattle.line_tokens.specs.Steps.{Read}
use Rattle.line_tokens.specs.Tokens.{tokens_of}
use Rattle.brain_read.specs.declared.instr.Cond.TheVariants.{FoeHome, Marker}
use Rattle.brain_read.specs.declared.instr.Instr.{Instr}
use Rattle.brain_read.specs.declared.instr.Instr.TheVariants.{Sense, Mark, Unmark, PickUp, Drop, Turn, Move, Flip}
use Rattle.brain_read.specs.Canonical.{instruction_text, instruction_words}
use Rattle.brain_read.specs.Drafts.{draft_settled}
use Rattle.brain_read.specs.Forms.{form_words, sight_words, side_words, condition_words}
use Rattle.brain_read.specs.Reading.{read_line, read_sense, read_marked, read_branches, read_drop, read_turn, read_flip}
use Rattle.brain_read.specs.Steps.{take_sight, take_side, take_state, take_marker, take_bound, take_condition}

-- words in any ASCII case, states of up to ten digits, and a comment
instructions_read : map (λ line. read_line (tokens_of line)) (codes "turn LEFT 007 ; note" ∷ codes "Sense here 0 9999999999 marker 5" ∷ codes "Flip 4294967295 1 2" ∷ [])
    ≡ Ok (Turn Left 7) ∷ Ok (Sense Here 0 9999999999 (Marker 5)) ∷ Ok (Flip 4294967295 1 2) ∷ []
unfolding decimal_value read_line read_sense read_marked read_branches read_drop read_turn read_flip take_sight take_side take_state take_marker take_bound take_condition form_words sight_words side_words condition_words
instructions_read = refl

-- each form's tokens, no two alike, as its own
forms_read : map (λ line. read_line (tokens_of line)) (codes "Sense LeftAhead 1 2 FoeHome" ∷ codes "Mark 3 7" ∷ codes "Unmark 4 8" ∷ codes "PickUp 5 6" ∷ codes "Drop 9" ∷ codes "Move 8 6" ∷ [])
    ≡ Ok (Sense LeftAhead 1 2 FoeHome) ∷ Ok (Mark 3 7) ∷ Ok (Unmark 4 8) ∷ Ok (PickUp 5 6) ∷ Ok (Drop 9) ∷ Ok (Move 8 6) ∷ []
unfolding decimal_value read_line read_sense read_marked read_branches read_drop read_turn read_flip take_sight take_side take_state take_marker take_bound take_condition form_words sight_words side_words condition_words
forms_read = refl

-- no form has a token more
abbrev extra : Read Instr
extra = Err (record { fault = ExtraToken; bad_byte = false })

extra_refused : map (λ line. read_line (tokens_of line))
    (codes "Sense Here 1 2 Food 3" ∷ codes "Sense Here 1 2 Marker 3 4" ∷ codes "Mark 1 2 3" ∷ codes "Unmark 1 2 3" ∷ codes "PickUp 1 2 3" ∷ codes "Drop 1 2" ∷ codes "Turn Left 1 2" ∷ codes "Flip 1 2 3 4" ∷ [])
    ≡ extra ∷ extra ∷ extra ∷ extra ∷ extra ∷ extra ∷ extra ∷ extra ∷ []
unfolding decimal_value read_line read_sense read_marked read_branches read_drop read_turn read_flip take_sight take_side take_state take_marker take_bound take_condition form_words sight_words side_words condition_words
extra_refused = refl

-- the first position at fault, and whether its token has a bad byte
lines_refused : map (λ line. read_line (tokens_of line)) (codes "" ∷ codes "Jump 1" ∷ codes "Mark 6 0" ∷ codes "Move 1 2 3" ∷ (codes "Turn Left " ++ 200 ∷ []) ∷ [])
    ≡ Err (record { fault = MissingToken; bad_byte = false }) ∷ Err (record { fault = UnknownWord; bad_byte = false }) ∷ Err (record { fault = BadNumber; bad_byte = false })
    ∷ Err (record { fault = ExtraToken; bad_byte = false }) ∷ Err (record { fault = BadNumber; bad_byte = true }) ∷ []
unfolding decimal_value read_line read_sense read_marked read_branches read_drop read_turn read_flip take_sight take_side take_state take_marker take_bound take_condition form_words sight_words side_words condition_words
lines_refused = refl

-- every state has to be below the number of states; otherwise the first that isn't
states_settled : draft_settled 8 (Turn Left 7) ∷ draft_settled 7 (Turn Left 7) ∷ draft_settled 4 (Move 5 4) ∷ draft_settled 5 (Move 4 5) ∷ draft_settled 1 (Mark 5 0) ∷ []
    ≡ Ok (Turn Left 7) ∷ Err 7 ∷ Err 5 ∷ Err 5 ∷ Ok (Mark 5 0) ∷ []
states_settled = refl

-- a marker, a bound and a state are printed as they stand in the line
marker_printed : instruction_text (Sense Here 1 2 (Marker 5)) ≡ codes "Sense Here 1 2 Marker 5\n"
unfolding instruction_text
marker_printed = rw (decimal_digit 1 (omega arith), decimal_digit 2 (omega arith), decimal_digit 5 (omega arith)) refl

bound_printed : instruction_text (Flip 2 6 7) ≡ codes "Flip 2 6 7\n"
unfolding instruction_text
bound_printed = rw (decimal_digit 2 (omega arith), decimal_digit 6 (omega arith), decimal_digit 7 (omega arith)) refl

-- the words within another line have no LF
words_printed : instruction_words (Sense Here 1 2 (Marker 5)) ≡ codes "Sense Here 1 2 Marker 5"
unfolding instruction_words
words_printed = rw (decimal_digit 1 (omega arith), decimal_digit 2 (omega arith), decimal_digit 5 (omega arith)) refl
