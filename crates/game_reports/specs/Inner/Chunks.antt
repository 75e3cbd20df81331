-- Turns that are not reported.
use Rattle.std.specs.Prelude.{Bool, true, false}
use Rattle.brain_read.specs.declared.instr.Instr.{Instr}
use Rattle.brain_read.specs.declared.instr.Instr.TheVariants.{Sense, Mark, Unmark, PickUp, Drop, Turn, Move, Flip}

-- whether an instruction never kills and never moves food
abbrev pub is_quiet : Instr → Bool
is_quiet (Sense sight met unmet condition) = true
is_quiet (Mark i next) = true
is_quiet (Unmark i next) = true
is_quiet (PickUp met unmet) = false
is_quiet (Drop next) = false
is_quiet (Turn side next) = true
is_quiet (Move met unmet) = false
is_quiet (Flip bound met unmet) = true

-- whether an instruction may move food
abbrev pub moves_food : Instr → Bool
moves_food (Sense sight met unmet condition) = false
moves_food (Mark i next) = false
moves_food (Unmark i next) = false
moves_food (PickUp met unmet) = true
moves_food (Drop next) = true
moves_food (Turn side next) = false
moves_food (Move met unmet) = false
moves_food (Flip bound met unmet) = false
