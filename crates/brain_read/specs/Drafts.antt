-- Instructions as they were read, before their states are checked against the number of instructions, as the clauses of
-- `Draft` and `read_instruction` use them (this project's own).
use Rattle.std.specs.Prelude.{ℕ, Option, Some, None, Result, Ok, Err}
use Rattle.brain_read.specs.Faulty.{first_not_below}
use Rattle.brain_read.specs.Grammar.{states_of}
use Rattle.brain_read.specs.declared.draft.Draft.{Draft}
use Rattle.line_tokens.specs.declared.refusal.Refusal.{Refusal}
use Rattle.brain_read.specs.declared.instr.Instr.{Instr}
use Rattle.brain_read.specs.declared.instr.Instr.TheVariants.{Sense, Mark, Unmark, PickUp, Drop, Turn, Move, Flip}
use Rattle.line_tokens.specs.Steps.{Read}

-- the instruction of a draft; its states may be of any size
abbrev pub drafted : Draft → Instr
drafted (Draft.Sense sight met unmet condition) = Sense sight met unmet condition
drafted (Draft.Mark i next) = Mark i next
drafted (Draft.Unmark i next) = Unmark i next
drafted (Draft.PickUp met unmet) = PickUp met unmet
drafted (Draft.Drop next) = Drop next
drafted (Draft.Turn side next) = Turn side next
drafted (Draft.Move met unmet) = Move met unmet
drafted (Draft.Flip bound met unmet) = Flip bound met unmet

-- what reading a line returned
abbrev pub as_read : Result Draft Refusal → Read Instr
as_read (Ok draft) = Ok (drafted draft)
as_read (Err refusal) = Err refusal

-- an instruction, or the state that it may not name
abbrev pub or_state : Option ℕ → Instr → Result Instr ℕ
or_state None instruction = Ok instruction
or_state (Some state) instruction = Err state

-- an instruction whose states are below n, or the first state that isn't
abbrev pub draft_settled : ℕ → Instr → Result Instr ℕ
draft_settled n instruction = or_state (first_not_below n (states_of instruction)) instruction
