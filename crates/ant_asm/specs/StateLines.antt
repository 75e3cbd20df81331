-- For each state, the line of the text that has its instruction (this project's own).
use Rattle.std.specs.Prelude.{◌≡◌, ℕ, zero, suc, List, [], ◌∷◌, ◌++◌, length, slice_get, Option, Some, codes, decimal}
use Rattle.std.specs.List.{AllByRecursion}
use Rattle.ant_base.specs.Layout.{◌+++◌}
use Rattle.line_tokens.specs.TokenLines.{TokenLine, lines_with_tokens}
use Rattle.brain_read.specs.declared.instr.Instr.{Instr}
use Rattle.ant_asm.specs.declared.action.Action.{Action}
use Rattle.ant_asm.specs.Program.{Items}
use Rattle.ant_asm.specs.declared.action.Label.{Label}
use Rattle.ant_asm.specs.Places.{Address, placed, places}
use Rattle.ant_asm.specs.Assembled.{number_in}
use Rattle.ant_asm.specs.LabelGame.{instruction_by}
use Rattle.ant_asm.specs.Names.{Named}
use Rattle.ant_asm.specs.Lines.{Says}
use Rattle.ant_asm.specs.Lines.Line.{Instructs, Uses}
use Rattle.ant_asm.specs.Standing.{way_or_next}
use Rattle.ant_asm.specs.Labels.{AreSaid, NumberedLine, Outline, WayStep, outline_of}
use Rattle.ant_asm.specs.Labels.Outline.{Closed, Labelled, Instructed, Used}
use Rattle.ant_asm.specs.Text.{IsAsmText}
use Rattle.ant_asm.specs.Answers.{IsAssembledText}

-- the line of a state's instruction, and the uses on the way to its body
pub record StateLine : Type 0 where
  pub state : ℕ
  pub line : ℕ
  pub way : List WayStep

-- the lines of a body from its k-th item on, without the labels before that item
abbrev pub from_item : ℕ → Outline → Outline
from_item k Closed = Closed
from_item k (Labelled name others) = from_item k others
from_item zero (Instructed line others) = Instructed line others
from_item zero (Used line name block others) = Used line name block others
from_item (suc k) (Instructed line others) = from_item k others
from_item (suc k) (Used line name block others) = from_item k others

-- The line of the instruction to which an address leads, and the uses on the way. The address has led to an item of a
-- body so far. Only the rest of the address is given, with the lines of the body from that item on. The next number of
-- the address is a place in the block that the item uses. If the address leads to no instruction, the line is 0. No
-- instruction is on line 0, since lines are counted from 1.
abbrev pub line_from : ℕ → Address → Outline → List WayStep → StateLine
line_from state [] (Instructed line others) way = record { state = state; line = line; way = way }
line_from state (k ∷ address) (Used line name block others) way =
    line_from state address (from_item k block) (way ++ (record { name = name; line = line }) ∷ [])
line_from state address others way = record { state = state; line = 0; way = way }

-- the line of a state's instruction, by its address and main's lines
abbrev pub line_at : Outline → ℕ → Address → StateLine
line_at main state [] = record { state = state; line = 0; way = [] }
line_at main state (k ∷ address) = line_from state address (from_item k main) []

-- the lines of the instructions at these addresses; the first address is that of this state, the next is that of the
-- next state, and so on
abbrev pub lines_at : Outline → ℕ → List Address → List StateLine
lines_at main state [] = []
lines_at main state (address ∷ addresses) = line_at main state address ∷ lines_at main (suc state) addresses

-- For each state of a program the line of its instruction, if the program's lines say this. The number of a state is
-- the number of its instruction's address among all addresses of the program, in order.
abbrev pub state_lines_of : Items → List NumberedLine → List StateLine
state_lines_of main lines = lines_at (outline_of lines) 0 (places main)

-- these are the lines of the states of the text's program
pub record AreStateLinesOf (text : List ℕ) (list : List StateLine) : Type 0 where
  pub main : Items
  pub is : IsAsmText text main
  pub lines : List NumberedLine
  pub said : AreSaid (lines_with_tokens text) lines
  pub are : list ≡ state_lines_of main lines

-- the text of the uses on the way: `before` precedes the first use, and `/` precedes each of the others
abbrev pub uses_text : List ℕ → List WayStep → List ℕ
uses_text before [] = []
uses_text before (step ∷ steps) =
    (before +++ step.name +++ codes "@" +++ decimal step.line) ++ uses_text (codes "/") steps

-- the line of a state: its number, the line of its instruction, and the uses on the way
abbrev pub state_line_text : StateLine → List ℕ
state_line_text it = decimal it.state +++ codes " " +++ decimal it.line +++ uses_text (codes " ") it.way +++ codes "\n"

-- a line for each state, in order
abbrev pub state_lines_text : List StateLine → List ℕ
state_lines_text [] = []
state_lines_text (it ∷ others) = state_line_text it ++ state_lines_text others

-- The line with this number in the text has the instruction of the i-th of these addresses. Each label in that line
-- means a label of the line's body. The instruction has, instead of each label, the number of the place to which it
-- leads.
pub record SaysInstruction (text : List ℕ) (list : List Address) (i number : ℕ) (instruction : Instr) : Type 0 where
  pub place : ℕ
  pub line : TokenLine
  pub stands : slice_get (lines_with_tokens text) place ≡ Some line
  pub numbered : line.number ≡ number
  pub action : Action Named
  pub says : Says line.tokens (Instructs action)
  pub main : Items
  pub program : IsAsmText text main
  pub address : Address
  pub at : slice_get list i ≡ Some address
  pub meaning : List ℕ → Option Label
  pub is : instruction
      ≡ instruction_by (λ label. number_in list ((placed main address).target (way_or_next meaning label))) action

-- the line with this number in the text is a use of the block with this name
pub record SaysUse (text : List ℕ) (step : WayStep) : Type 0 where
  pub place : ℕ
  pub line : TokenLine
  pub stands : slice_get (lines_with_tokens text) place ≡ Some line
  pub numbered : line.number ≡ step.line
  pub handed : List Named
  pub says : Says line.tokens (Uses step.name handed)

-- For each state of the brain to which the text is assembled there is one line, in order from state 0. It is the line
-- that has the state's instruction. It has the uses on the way there: one use for each place of the state's address
-- except the last.
pub record LineForEachState : Type 0 where
  pub as_many : (text : List ℕ) (brain : List Instr) (list : List Address) (lines : List StateLine)
      → IsAssembledText text brain list → AreStateLinesOf text lines → length lines ≡ length brain
  pub in_order : (text : List ℕ) (lines : List StateLine) (i : ℕ) (it : StateLine) → AreStateLinesOf text lines
      → slice_get lines i ≡ Some it → it.state ≡ i
  pub says : (text : List ℕ) (brain : List Instr) (list : List Address) (lines : List StateLine) (i : ℕ)
      (it : StateLine) (instruction : Instr) → IsAssembledText text brain list → AreStateLinesOf text lines →
      slice_get lines i ≡ Some it → slice_get brain i ≡ Some instruction
      → SaysInstruction text list i it.line instruction
  pub uses : (text : List ℕ) (brain : List Instr) (list : List Address) (lines : List StateLine) (i : ℕ)
      (it : StateLine) (address : Address) → IsAssembledText text brain list → AreStateLinesOf text lines →
      slice_get lines i ≡ Some it → slice_get list i ≡ Some address
      → (length address ≡ suc (length it.way)) × AllByRecursion (SaysUse text) it.way
