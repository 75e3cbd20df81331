-- A whole text, line by line: the instructions that are read, or the fault.
use Rattle.std.specs.Prelude.{ℕ, List, [], ◌∷◌, length, Result, Ok, Err}
use Rattle.brain_read.specs.declared.fault.BrainFault.{BrainFault}
use Rattle.brain_read.specs.declared.fault.BrainFault.TheVariants.{TooMany, Empty, NoSuchState}
use Rattle.brain_read.specs.declared.instr.Instr.{Instr}
use Rattle.brain_read.specs.Soundness.{most_states}
use Rattle.brain_read.specs.Refusals.{refusal_at}
use Rattle.brain_read.specs.Reading.{read_line}
use Rattle.line_tokens.specs.Inner.LineByLine.{Reader, put_before, read_lines}
use Rattle.line_tokens.specs.TokenLines.{lines_with_tokens}
use Rattle.brain_read.specs.Drafts.{draft_settled}

-- an instruction and the number of its line
pub record Placed : Type 0 where
  pub line : ℕ
  pub instruction : Instr

-- what is read from a text, or its fault
abbrev pub Judgement : Type 0 → Type 0
Judgement A = Result A BrainFault

-- an instruction with the number of its line
abbrev pub placed_at : ℕ → Instr → Placed
placed_at line instruction = record { line = line; instruction = instruction }

-- how the lines of a brain are read
abbrev pub brain_reader : Reader Instr Placed BrainFault
brain_reader = record { most = most_states; beyond = TooMany; read = read_line; refused = refusal_at; keep = placed_at }

-- an instruction, and then those after it
abbrev pub settled_then : ℕ → Result Instr ℕ → Judgement (List Instr) → Judgement (List Instr)
settled_then line (Ok instruction) later = put_before instruction later
settled_then line (Err state) later = Err (NoSuchState line state)

-- the instructions, if all their states are below n
abbrev pub settle_all : ℕ → List Placed → Judgement (List Instr)
settle_all n [] = Ok []
settle_all n (placed ∷ list) = settled_then placed.line (draft_settled n placed.instruction) (settle_all n list)

-- the brain of the instructions that were read
abbrev pub settle : List Placed → Judgement (List Instr)
settle [] = Err Empty
settle (placed ∷ list) = settle_all (length (placed ∷ list)) (placed ∷ list)

-- the brain of what was read
abbrev pub settle_read : Judgement (List Placed) → Judgement (List Instr)
settle_read (Ok list) = settle list
settle_read (Err fault) = Err fault

-- the brain of a text, or its fault
unfoldable pub read_text : List ℕ → Judgement (List Instr)
read_text text = settle_read (read_lines brain_reader 0 (lines_with_tokens text))
