-- That out of memory is not a text's fault.
use Rattle.std.proofs.Common.{◌≡◌, ℕ, Bool, true, false, if◌then◌else◌, List, [], ◌∷◌, ◌++◌, Option, Some, None, subst}
use Rattle.std.specs.Option.{option_or}
use Rattle.std.specs.Prelude.{⊤, length, nat_le}
use Rattle.brain_read.specs.declared.fault.BrainFault.{BrainFault}
use Rattle.brain_read.specs.declared.fault.BrainFault.TheVariants.{BadByte, ExtraToken, TooMany, Empty, NoSuchState, OutOfMemory}
use Rattle.line_tokens.specs.Faulty.{too_many}
use Rattle.brain_read.specs.Faulty.{IsBrainFault, line_fault}
use Rattle.line_tokens.specs.TokenLines.{TokenLine}
use Rattle.brain_read.specs.Faulty.IsBrainFault.{OfLine, OfNothing, OfState}
use Rattle.line_tokens.specs.Judgement.{judged}
use Rattle.brain_read.specs.Judgement.{Position, accepted, fault_of, first_fault}
use Rattle.brain_read.specs.Judgement.Position.{FormToken}
use Rattle.brain_read.specs.Soundness.{most_states}
use Rattle.line_tokens.specs.Tokens.{has_bad_byte}

-- if there is a fault, it isn't out of memory
abbrev OfText : Option BrainFault → Type 0
OfText (Some OutOfMemory) = ⊥
OfText it = ⊤

-- one of two faults
either_fault : (b : Bool) (first second : BrainFault) → OfText (Some first) → OfText (Some second) → OfText (Some (if b then first else second))
either_fault true first second one other = one
either_fault false first second one other = other

-- one that a test finds, or a later one
either_later : (b : Bool) (fault : BrainFault) (later : Option BrainFault) → OfText (Some fault) → OfText later → OfText (if b then Some fault else later)
either_later true fault later one other = one
either_later false fault later one other = other

-- the first of two
option_or-of_text : (first second : Option BrainFault) → OfText first → OfText second → OfText (option_or first second)
option_or-of_text None second one other = other
option_or-of_text (Some fault) second one other = one

-- the fault of a token at its position
fault_of-of_text : (position : Position) (line : ℕ) → OfText (Some (fault_of position line))
fault_of-of_text FormToken line = tt
fault_of-of_text it line = tt

-- a position's fault, or that of what follows
judged-of_text : (brings : Option (List Position)) (fault : BrainFault) (next : List Position → Option BrainFault) → OfText (Some fault) → ((positions : List Position) → OfText (next positions)) → OfText (judged brings fault next)
judged-of_text None fault next one others = one
judged-of_text (Some positions) fault next one others = others positions

-- the fault of a line
first_fault-of_text : (line : ℕ) (tokens : List (List ℕ)) (positions : List Position) → OfText (first_fault line tokens positions)
first_fault-of_text line [] [] = tt
first_fault-of_text line [] (position ∷ positions) = tt
first_fault-of_text line (token ∷ tokens) [] = either_fault (has_bad_byte token) (BadByte line) (ExtraToken line) tt tt
first_fault-of_text line (token ∷ tokens) (position ∷ positions) =
    either_later (has_bad_byte token) (BadByte line) (judged (accepted position token) (fault_of position line) (λ brings. first_fault line tokens (brings ++ positions))) tt
    (judged-of_text (accepted position token) (fault_of position line) (λ brings. first_fault line tokens (brings ++ positions)) (fault_of-of_text position line) (λ brings. first_fault-of_text line tokens (brings ++ positions)))

-- that of a line before which this many instructions stand
line_fault-of_text : (before : ℕ) (line : TokenLine) → OfText (line_fault before line)
line_fault-of_text before line =
    option_or-of_text (too_many most_states TooMany before line.number) (first_fault line.number line.tokens (FormToken ∷ []))
    (either_later (nat_le most_states before) (TooMany line.number) None tt tt)
    (first_fault-of_text line.number line.tokens (FormToken ∷ []))

-- out of memory is not a text's fault
pub no_want : (text : List ℕ) → IsBrainFault text OutOfMemory → ⊥
no_want text (OfLine at) = subst OfText at.wrong (line_fault-of_text (length at.before) at.line)
no_want text (OfNothing none is) = (let never : OutOfMemory ≡ Empty = is in cc)
no_want text (OfState at) = (let never : OutOfMemory ≡ NoSuchState at.line.number at.state = at.is in cc)
