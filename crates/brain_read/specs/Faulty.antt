-- What is wrong with a text that is not a brain (this project's own).
use Rattle.std.specs.Prelude.{◌≡◌, ℕ, ◌≤◌, not, nat_lt, List, [], ◌∷◌, ◌++◌, length, find, Option, Some}
use Rattle.std.specs.Option.{option_or}
use Rattle.line_tokens.specs.Faulty.{too_many, HasLineFault}
use Rattle.brain_read.specs.declared.fault.BrainFault.{BrainFault}
use Rattle.brain_read.specs.declared.fault.BrainFault.TheVariants.{TooMany, Empty, NoSuchState}
use Rattle.brain_read.specs.declared.instr.Instr.{Instr}
use Rattle.brain_read.specs.Soundness.{most_states}
use Rattle.brain_read.specs.Judgement.{first_fault}
use Rattle.brain_read.specs.Judgement.Position.{FormToken}
use Rattle.brain_read.specs.Forms.{InstrLine}
use Rattle.line_tokens.specs.TokenLines.{TokenLine, lines_with_tokens}
use Rattle.brain_read.specs.Grammar.{AreLines, states_of, StatesBelow}

-- the fault of a line after this many instructions
abbrev pub line_fault : ℕ → TokenLine → Option BrainFault
line_fault before line =
    option_or (too_many most_states TooMany before line.number) (first_fault line.number line.tokens (FormToken ∷ []))

-- the first state that isn't below n
abbrev pub first_not_below : ℕ → List ℕ → Option ℕ
first_not_below n states = find (λ state. not (nat_lt state n)) states

-- no line is at fault, and this is the first line that names a state that isn't below the number of instructions
pub record HasNoSuchState (text : List ℕ) (fault : BrainFault) : Type 0 where
  pub before : List TokenLine
  pub line : TokenLine
  pub after : List TokenLine
  pub lines : lines_with_tokens text ≡ before ++ line ∷ after
  pub read : List Instr
  pub instruction : Instr
  pub unread : List Instr
  pub good : AreLines (lines_with_tokens text) (read ++ instruction ∷ unread)
  pub as_many : length before ≡ length read
  pub few : length (lines_with_tokens text) ≤ most_states
  pub below : StatesBelow (length (lines_with_tokens text)) read
  pub state : ℕ
  pub wrong : first_not_below (length (lines_with_tokens text)) (states_of instruction) ≡ Some state
  pub is : fault ≡ NoSuchState line.number state

-- the fault of a text: that of its first line at fault; or it has no instruction; or it names a state that doesn't
-- exist
pub data IsBrainFault (text : List ℕ) (fault : BrainFault) : Type 0 where
  OfLine : HasLineFault InstrLine line_fault most_states text fault → IsBrainFault text fault
  OfNothing : lines_with_tokens text ≡ [] → fault ≡ Empty → IsBrainFault text fault
  OfState : HasNoSuchState text fault → IsBrainFault text fault
