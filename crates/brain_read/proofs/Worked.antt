-- What the definitions say of single lines and small texts.
use Rattle.std.proofs.Common.{◌≡◌, [], ◌∷◌, Some, None, codes, refl, arith}
use Rattle.std.proofs.lemmas.Fmt.{decimal_digit}
use Rattle.hex_geometry.specs.declared.neighbourhood.Sight.TheVariants.{Ahead}
use Rattle.ant_base.specs.Number.{decimal_value}
use Rattle.brain_read.specs.declared.fault.BrainFault.TheVariants.{MissingToken, BadNumber, ExtraToken, TooMany, NoSuchState}
use Rattle.brain_read.specs.declared.instr.Cond.TheVariants.{Food}
use Rattle.brain_read.specs.declared.instr.Instr.TheVariants.{Sense, PickUp, Drop, Move, Flip}
use Rattle.line_tokens.specs.Tokens.{tokens_of}
use Rattle.brain_read.specs.Forms.{InstrLine}
use Rattle.brain_read.specs.Faulty.{IsBrainFault, line_fault}
use Rattle.brain_read.specs.Faulty.IsBrainFault.{OfLine, OfState}
use Rattle.brain_read.specs.Inner.Verdict.{brain_reader}
use Rattle.brain_read.proofs.FirstFaults.{first_of_line, faithful, first_state_fault-first}
use Rattle.line_tokens.proofs.LineFaults.{first_line_fault-first}
use Rattle.brain_read.specs.Canonical.{instruction_text, brain_text}

-- a line is its instruction's
sense_line : InstrLine (tokens_of (codes "Sense Ahead 1 3 Food")) (Sense Ahead 1 3 Food)
unfolding decimal_value
sense_line = record { spelled = (refl, (refl, (refl, (refl, (refl, tt))))); in_range = tt }

-- words are read in any ASCII case, numbers with leading zeros, and a comment is no part of a line
flip_line : InstrLine (tokens_of (codes "flip 003 4 5 ; note")) (Flip 3 4 5)
unfolding decimal_value
flip_line = record { spelled = (refl, (refl, (refl, (refl, tt)))); in_range = (omega arith, omega arith) }

-- there is no marker 6
pub marker_6 : IsBrainFault (codes "Mark 6 0") (BadNumber 1)
unfolding decimal_value
marker_6 = OfLine (first_line_fault-first brain_reader InstrLine first_of_line faithful (codes "Mark 6 0") (BadNumber 1) refl)

-- the second state of a Move is missing; lines are counted with the empty ones
missing_state : IsBrainFault (codes "Drop 0\n\nMove 2") (MissingToken 3)
unfolding decimal_value
missing_state = OfLine (first_line_fault-first brain_reader InstrLine first_of_line faithful (codes "Drop 0\n\nMove 2") (MissingToken 3) refl)

-- a Drop names one state
extra_state : IsBrainFault (codes "Drop 0 0") (ExtraToken 1)
unfolding decimal_value
extra_state = OfLine (first_line_fault-first brain_reader InstrLine first_of_line faithful (codes "Drop 0 0") (ExtraToken 1) refl)

-- the first line that names a state beyond the last one, and its first such state
no_such_state : IsBrainFault (codes "Drop 1\nMove 0 7\nMove 8 9") (NoSuchState 2 7)
unfolding decimal_value
no_such_state =
    OfState (first_state_fault-first (codes "Drop 1\nMove 0 7\nMove 8 9") (NoSuchState 2 7) (Drop 1 ∷ Move 0 7 ∷ Move 8 9 ∷ [])
    (record { spelled = (refl, (refl, tt)); in_range = tt }, (record { spelled = (refl, (refl, (refl, tt))); in_range = tt }, (record { spelled = (refl, (refl, (refl, tt))); in_range = tt }, tt)))
    (omega arith) refl)

-- the 10,000th instruction has its place, the next one has none, whatever its line says
last_instruction : line_fault 9999 (record { number = 10007; tokens = codes "drop" ∷ codes "0" ∷ [] }) ≡ None
unfolding decimal_value
last_instruction = refl

one_instruction_more : line_fault 10000 (record { number = 10007; tokens = codes "Jump" ∷ [] }) ≡ Some (TooMany 10007)
unfolding decimal_value
one_instruction_more = refl

-- the first three lines of the task's sample brain
sample_text : brain_text (Sense Ahead 1 3 Food ∷ Move 2 0 ∷ PickUp 8 0 ∷ []) ≡ codes "Sense Ahead 1 3 Food\nMove 2 0\nPickUp 8 0\n"
unfolding brain_text instruction_text
sample_text = rw (decimal_digit 1 (omega arith), decimal_digit 3 (omega arith), decimal_digit 2 (omega arith), decimal_digit 0 (omega arith), decimal_digit 8 (omega arith)) refl
