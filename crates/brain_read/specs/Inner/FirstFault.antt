-- The first line of a text with a state that doesn't exist, searched line by line.
use Rattle.std.specs.Prelude.{ℕ, List, [], ◌∷◌, Option, None, option_map}
use Rattle.std.specs.Option.{option_or}
use Rattle.brain_read.specs.declared.fault.BrainFault.{BrainFault}
use Rattle.brain_read.specs.declared.fault.BrainFault.TheVariants.{NoSuchState}
use Rattle.brain_read.specs.declared.instr.Instr.{Instr}
use Rattle.line_tokens.specs.TokenLines.{TokenLine}
use Rattle.brain_read.specs.Grammar.{states_of}
use Rattle.brain_read.specs.Faulty.{first_not_below}

-- the first line with a state that isn't below n, and its first such state
abbrev pub first_state_fault : ℕ → List TokenLine → List Instr → Option BrainFault
first_state_fault n [] list = None
first_state_fault n (line ∷ lines) [] = None
first_state_fault n (line ∷ lines) (instruction ∷ list) =
    option_or (option_map (NoSuchState line.number) (first_not_below n (states_of instruction)))
    (first_state_fault n lines list)
