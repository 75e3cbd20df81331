-- Texts of breaks, worked out.
use Rattle.std.proofs.Common.{◌≡◌, ℕ, zero, suc, List, [], ◌∷◌, ◌++◌, map, Some, None, codes, refl, arith}
use Rattle.cell_world.specs.declared.ant.Colour.TheVariants.{Red, Black}
use Rattle.ant_base.specs.Number.{decimal_value}
use Rattle.line_tokens.specs.TokenLines.{lines_with_tokens}
use Rattle.break_view.specs.declared.breaks.Break.TheVariants.{Round, State, Stand, Food, Killed, Score}
use Rattle.break_view.specs.declared.fault.BreakFault.TheVariants.{UnknownWord, MissingToken, BadNumber, ExtraToken, TooMany, OutOfMemory}
use Rattle.break_view.specs.Grammar.{IsBreakText}
use Rattle.line_tokens.specs.Inner.LineByLine.{judged_line, first_line_fault}
use Rattle.line_tokens.proofs.LineFaults as faults
use Rattle.break_view.specs.declared.fault.BreakFault.{BreakFault}
use Rattle.break_view.specs.Forms.{BreakLine}
use Rattle.break_view.specs.Faulty.{line_fault, IsBreakFault}
use Rattle.break_view.specs.Inner.Places.{break_words, colour_words}
use Rattle.break_view.specs.Inner.Reading.{read_line, read_number, read_coloured, read_stand, read_food}
use Rattle.break_view.specs.Inner.Steps.{take_colour, take_any}
use Rattle.break_view.specs.Inner.Verdict.{break_reader, read_text}
use Rattle.break_view.proofs.FaultyLemmas.{first_of_line, faithful, list_read_of}
use Rattle.std.specs.Fmt.{digits}
use Rattle.break_view.specs.FaultText.{break_fault_text}

-- a text without a break is accepted: an empty one, and one of comments and empty lines
no_text : IsBreakText (codes "") []
no_text = record { lines = tt; few = omega arith }

comments_alone : IsBreakText (codes "; Round 1\n\n ;\n") []
comments_alone = record { lines = tt; few = omega arith }

-- an id
pub one_break : IsBreakText (codes "Killed 2") (Killed 2 ∷ [])
unfolding decimal_value
one_break = record { lines = (record { spelled = (refl, (refl, tt)); in_range = (tt, (omega arith, tt)) }, tt); few = omega arith }

-- words are read in any ASCII case, numbers with leading zeros and up to the largest, and a comment is no part of a
-- line
two_breaks : IsBreakText (codes "sCORE red 03 ; food at home\n\nStand BLACK 2 4294967295") (Score Red 3 ∷ Stand Black 2 4294967295 ∷ [])
unfolding decimal_value
two_breaks = record {
  lines = (
    record { spelled = (refl, (refl, (refl, tt))); in_range = (tt, (tt, (omega arith, tt))) },
    (record { spelled = (refl, (refl, (refl, (refl, tt)))); in_range = (tt, (tt, (omega arith, (omega arith, tt)))) }, tt),
  );
  few = omega arith;
}

first_line_fault-first : (text : List ℕ) (fault : BreakFault) → first_line_fault line_fault 0 (lines_with_tokens text) ≡ Some fault → IsBreakFault text fault
first_line_fault-first = faults.first_line_fault-first break_reader BreakLine first_of_line faithful

-- each form takes its numbers from 0 to the largest
every_form :
    IsBreakText (codes "Round 0\nState Red 4294967295\nState Black 0\nStand Red 4294967295 0\nFood 4294967295 0 4294967295\nFood 0 4294967295 0\nKilled 4294967295\nScore Black 4294967295\nScore Red 0")
    (Round 0 ∷ State Red 4294967295 ∷ State Black 0 ∷ Stand Red 4294967295 0 ∷ Food 4294967295 0 4294967295 ∷ Food 0 4294967295 0 ∷ Killed 4294967295 ∷ Score Black 4294967295 ∷ Score Red 0 ∷ [])
unfolding decimal_value read_text read_line read_number read_coloured read_stand read_food take_colour take_any break_words colour_words judged_line
every_form = list_read_of _ _ refl

-- one fault of each kind, and the line that has it
pub no_such_word : IsBreakFault (codes "Jump 1") (UnknownWord 1)
unfolding decimal_value
no_such_word = first_line_fault-first (codes "Jump 1") (UnknownWord 1) refl

short_food : IsBreakFault (codes "Food 1 2") (MissingToken 1)
unfolding decimal_value
short_food = first_line_fault-first (codes "Food 1 2") (MissingToken 1) refl

round_x : IsBreakFault (codes "Round x") (BadNumber 1)
unfolding decimal_value
round_x = first_line_fault-first (codes "Round x") (BadNumber 1) refl

-- of two faults of a line the first position's, whatever is after it
faults_of_a_line : (IsBreakFault (codes "Round x 2") (BadNumber 1)) × (IsBreakFault (codes "State Green") (UnknownWord 1)) × (IsBreakFault (codes "Food x") (BadNumber 1)) × (IsBreakFault (codes "Score Red") (MissingToken 1))
unfolding decimal_value
faults_of_a_line = (first_line_fault-first (codes "Round x 2") (BadNumber 1) refl, first_line_fault-first (codes "State Green") (UnknownWord 1) refl, first_line_fault-first (codes "Food x") (BadNumber 1) refl, first_line_fault-first (codes "Score Red") (MissingToken 1) refl)

-- of two lines at fault the first
faults_of_lines : IsBreakFault (codes "Round 1\nFood 1\nJump") (MissingToken 2)
unfolding decimal_value
faults_of_lines = first_line_fault-first (codes "Round 1\nFood 1\nJump") (MissingToken 2) refl

long_round : IsBreakFault (codes "Round 1 2") (ExtraToken 1)
unfolding decimal_value
long_round = first_line_fault-first (codes "Round 1 2") (ExtraToken 1) refl

no_such_colour : IsBreakFault (codes "; note\nState Green 1") (UnknownWord 2)
unfolding decimal_value
no_such_colour = first_line_fault-first (codes "; note\nState Green 1") (UnknownWord 2) refl

-- a prefix of a word is not a word, and a word alone lacks its number
killed_cut :
    (IsBreakFault (codes "K") (UnknownWord 1)) × (IsBreakFault (codes "Ki") (UnknownWord 1)) × (IsBreakFault (codes "Kil") (UnknownWord 1))
    × (IsBreakFault (codes "Kill") (UnknownWord 1)) × (IsBreakFault (codes "Kille") (UnknownWord 1)) × (IsBreakFault (codes "Killed") (MissingToken 1))
unfolding decimal_value
killed_cut = (first_line_fault-first (codes "K") (UnknownWord 1) refl, first_line_fault-first (codes "Ki") (UnknownWord 1) refl, first_line_fault-first (codes "Kil") (UnknownWord 1) refl, first_line_fault-first (codes "Kill") (UnknownWord 1) refl, first_line_fault-first (codes "Kille") (UnknownWord 1) refl, first_line_fault-first (codes "Killed") (MissingToken 1) refl)

-- a number above the largest
too_large : IsBreakFault (codes "Food 4294967296 0 0") (BadNumber 1)
unfolding decimal_value
too_large = first_line_fault-first (codes "Food 4294967296 0 0") (BadNumber 1) refl

-- a byte outside 33 to 126 is not a fault by itself: a token with it is neither a word nor a number
strange_bytes : (IsBreakFault (codes "Round 1" ++ 200 ∷ []) (BadNumber 1)) × (IsBreakFault (1 ∷ codes "Round 1") (UnknownWord 1)) × (IsBreakFault (codes "Round 1 " ++ 200 ∷ []) (ExtraToken 1))
unfolding decimal_value
strange_bytes = (first_line_fault-first (codes "Round 1" ++ 200 ∷ []) (BadNumber 1) refl, first_line_fault-first (1 ∷ codes "Round 1") (UnknownWord 1) refl, first_line_fault-first (codes "Round 1 " ++ 200 ∷ []) (ExtraToken 1) refl)

-- the 256th break has its place, the next one has none, whatever its line says
last_break : line_fault 255 (record { number = 300; tokens = codes "Round" ∷ codes "1" ∷ [] }) ≡ None
unfolding decimal_value
last_break = refl

one_break_more : line_fault 256 (record { number = 257; tokens = codes "Jump" ∷ [] }) ≡ Some (TooMany 257)
unfolding decimal_value
one_break_more = refl

-- this many lines of one break
abbrev rounds : ℕ → List ℕ
rounds zero = []
rounds (suc n) = codes "Round 1\n" ++ rounds n

-- a text of 257 breaks is refused at the last of them, and one of 256 has no line at fault
line_257 : (IsBreakFault (rounds 257) (TooMany 257)) × (first_line_fault line_fault 0 (lines_with_tokens (rounds 256)) ≡ None)
unfolding decimal_value
line_257 = (first_line_fault-first (rounds 257) (TooMany 257) refl, refl)

-- what each fault says
faults_say : map break_fault_text (UnknownWord 1 ∷ MissingToken 2 ∷ BadNumber 3 ∷ ExtraToken 4 ∷ TooMany 257 ∷ OutOfMemory ∷ [])
    ≡ codes "line 1: unknown word" ∷ codes "line 2: missing token" ∷ codes "line 3: bad number" ∷ codes "line 4: extra token" ∷ codes "line 257: too many breaks" ∷ codes "out of memory" ∷ []
unfolding digits
faults_say = refl
