-- Small texts of brains, worked out: comments, blank lines, and the first fault of each.
use Rattle.std.proofs.Common.{◌≡◌, [], ◌∷◌, ◌++◌, map, Some, None, codes, refl}
use Rattle.ant_base.specs.Number.{decimal_value}
use Rattle.brain_read.specs.declared.fault.BrainFault.TheVariants.{BadByte, UnknownWord, MissingToken, BadNumber, ExtraToken, TooMany, Empty, NoSuchState, OutOfMemory}
use Rattle.brain_read.specs.Faulty.{line_fault}
use Rattle.line_tokens.specs.Inner.LineByLine.{first_line_fault}
use Rattle.line_tokens.specs.TokenLines.{lines_with_tokens}
use Rattle.std.specs.Fmt.{digits}
use Rattle.brain_read.specs.FaultText.{brain_fault_text}

-- texts without a fault in a line: words in any case, the greatest and the least numbers
faultless_lines : map (λ text. first_line_fault line_fault 0 (lines_with_tokens text))
    (codes "MARK 5 0" ∷ codes "unmark 0 0" ∷ codes "Flip 4294967295 0 0" ∷ codes "flip 1 0 0" ∷ codes "sense LEFTAHEAD 0 0 marker 5" ∷ codes "Sense Here 0 0 FoeMarker" ∷ codes "turn left 0" ∷ [])
    ≡ None ∷ None ∷ None ∷ None ∷ None ∷ None ∷ None ∷ []
unfolding decimal_value
faultless_lines = refl

-- numbers out of range, tokens too few and too many, and words that are none
faults_of_lines : map (λ text. first_line_fault line_fault 0 (lines_with_tokens text))
    (codes "Mark 6 0" ∷ codes "Flip 0 0 0" ∷ codes "Flip 4294967296 0 0" ∷ codes "Drop 00000000000" ∷ codes "Sense Here 0 0 Marker 6" ∷ codes "Sense Here 0 0 Marker" ∷ codes "Move 0" ∷ codes "Drop 0 0" ∷ codes "Sense Here 0 0 Rock 1" ∷ codes "Mov" ∷ codes "Turn Ahead 0" ∷ codes "Sense Here 0 0 Rocky" ∷ codes "Sense Left 0 0 Rock" ∷ [])
    ≡ Some (BadNumber 1) ∷ Some (BadNumber 1) ∷ Some (BadNumber 1) ∷ Some (BadNumber 1) ∷ Some (BadNumber 1) ∷ Some (MissingToken 1) ∷ Some (MissingToken 1) ∷ Some (ExtraToken 1) ∷ Some (ExtraToken 1) ∷ Some (UnknownWord 1) ∷ Some (UnknownWord 1) ∷ Some (UnknownWord 1) ∷ Some (UnknownWord 1) ∷ []
unfolding decimal_value
faults_of_lines = refl

-- of a line the first position at fault counts, and there a bad byte before the word or the number
bad_bytes : map (λ text. first_line_fault line_fault 0 (lines_with_tokens text))
    ((codes "Drop 0" ++ 127 ∷ []) ∷ (codes "Drop x " ++ 228 ∷ []) ∷ (codes "Drop 0 " ++ 228 ∷ []) ∷ (codes "Drop 0 0 " ++ 228 ∷ []) ∷ (codes "Drop" ++ 11 ∷ codes "0") ∷ (228 ∷ codes " x") ∷ [])
    ≡ Some (BadByte 1) ∷ Some (BadNumber 1) ∷ Some (BadByte 1) ∷ Some (ExtraToken 1) ∷ Some (BadByte 1) ∷ Some (BadByte 1) ∷ []
unfolding decimal_value
bad_bytes = refl

-- of a text the first line at fault
first_of_two_faults : first_line_fault line_fault 0 (lines_with_tokens (codes "Drop 5\n\nJump\nDrop")) ≡ Some (UnknownWord 3)
unfolding decimal_value
first_of_two_faults = refl

-- what each fault says
faults_say : map brain_fault_text (BadByte 1 ∷ UnknownWord 2 ∷ MissingToken 3 ∷ BadNumber 4 ∷ ExtraToken 5 ∷ TooMany 6 ∷ Empty ∷ NoSuchState 7 80 ∷ OutOfMemory ∷ [])
    ≡ codes "line 1: bad byte" ∷ codes "line 2: unknown word" ∷ codes "line 3: missing token" ∷ codes "line 4: bad number" ∷ codes "line 5: extra token" ∷ codes "line 6: too many instructions"
    ∷ codes "no instruction" ∷ codes "line 7: no such state 80" ∷ codes "out of memory" ∷ []
unfolding digits
faults_say = refl
