-- Which texts are brains (the task's neurology).
use Rattle.std.specs.Prelude.{ℕ, ◌≤◌, ◌<◌, List, [], ◌∷◌, length, filter, map}
use Rattle.std.specs.List.{AllByRecursion, AllZip}
use Rattle.ant_base.specs.Lines.{lines_of}
use Rattle.line_tokens.specs.TokenLines.{TokenLine, AreLinesOf}
use Rattle.line_tokens.specs.Tokens.{has_any, tokens_of}
use Rattle.brain_read.specs.declared.instr.Instr.{Instr}
use Rattle.brain_read.specs.declared.instr.Instr.TheVariants.{Sense, Mark, Unmark, PickUp, Drop, Turn, Move, Flip}
use Rattle.brain_read.specs.Forms.{InstrLine}

-- the lines spell the instructions, one each
abbrev pub AreLines : List TokenLine → List Instr → Type 0
AreLines lines list = AreLinesOf InstrLine lines list

-- the states that an instruction names, in the order of its line
abbrev pub states_of : Instr → List ℕ
states_of (Sense sight met unmet condition) = met ∷ unmet ∷ []
states_of (Mark i next) = next ∷ []
states_of (Unmark i next) = next ∷ []
states_of (PickUp met unmet) = met ∷ unmet ∷ []
states_of (Drop next) = next ∷ []
states_of (Turn side next) = next ∷ []
states_of (Move met unmet) = met ∷ unmet ∷ []
states_of (Flip bound met unmet) = met ∷ unmet ∷ []

-- every state that an instruction of the list names is below n
abbrev pub StatesBelow : ℕ → List Instr → Type 0
StatesBelow n list = AllByRecursion (λ instruction. AllByRecursion (λ state. state < n) (states_of instruction)) list

-- the text is that of the brain: each of its lines that has a token is one instruction, in order; there are 1 to 10,000
-- instructions; and each state that one names is below their number
pub record IsBrainText (text : List ℕ) (brain : List Instr) : Type 0 where
  pub lines : AllZip InstrLine (filter has_any (map tokens_of (lines_of text))) brain
  pub some : 1 ≤ length brain
  pub few : length brain ≤ 10000
  pub states :
      AllByRecursion (λ instruction. AllByRecursion (λ state. state < length brain) (states_of instruction)) brain
