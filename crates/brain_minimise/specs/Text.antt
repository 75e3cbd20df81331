-- The texts about a minimised brain and the new numbers of its states.
use Rattle.std.specs.Prelude.{ℕ, List, Option, Some, None, length, codes, decimal}
use Rattle.ant_base.specs.Layout.{◌+++◌, numbered}
use Rattle.brain_read.specs.declared.instr.Instr.{Instr}
use Rattle.brain_read.specs.Canonical.{brain_text}
use Rattle.brain_minimise.specs.Minimised.{new_number}

-- how many states there were and how many were kept, in a comment line, and the canonical text of the minimised brain
unfoldable pub minimised_text : List Instr → List Instr → List ℕ
minimised_text old new = codes "; " +++ decimal (length old) +++ codes " states, " +++ decimal (length new) +++ codes " kept\n" +++ brain_text new

-- the new number of a state, or that it was dropped
abbrev pub became_text : Option ℕ → List ℕ
became_text None = codes "dropped"
became_text (Some number) = decimal number

-- the line of an old state: its number, and its new one or that it was dropped
abbrev pub state_line : List (Option ℕ) → ℕ → List ℕ
state_line numbers state = decimal state +++ codes " " +++ became_text (new_number numbers state) +++ codes "\n"

-- the lines of all old states by a map, in order
unfoldable pub states_text : List (Option ℕ) → List ℕ
states_text numbers = numbered (state_line numbers) (length numbers)
