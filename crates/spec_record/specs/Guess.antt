-- The guess for a turn of a window: the place of its random number (this project's own).
use Rattle.std.specs.Prelude.{ℕ, zero, suc, ◌+◌, ◌-◌, Bool, true, false, List, [], ◌∷◌, Option, Some, None}
use Rattle.hex_geometry.specs.declared.position.Pos.{Pos}
use Rattle.cell_world.specs.declared.ant.Ant.{Ant}
use Rattle.cell_world.specs.Cell.{one_if}
use Rattle.cell_world.specs.World.{Cells, World, place_in}
use Rattle.brain_read.specs.declared.instr.Instr.{Instr}
use Rattle.brain_read.specs.declared.instr.Instr.TheVariants.{Sense, Mark, Unmark, PickUp, Drop, Turn, Move, Flip}
use Rattle.ant_turn.specs.Minds.{Minds, mind_of}
use Rattle.ant_turn.specs.Turn.{instruction_at}

-- whether an instruction draws a random number
abbrev pub is_flip : Instr → Bool
is_flip (Sense sight met unmet condition) = false
is_flip (Mark i next) = false
is_flip (Unmark i next) = false
is_flip (PickUp met unmet) = false
is_flip (Drop next) = false
is_flip (Turn side next) = false
is_flip (Move met unmet) = false
is_flip (Flip bound met unmet) = true

-- whether an ant with this resting count acts and is at a Flip
abbrev pub flips_now : ℕ → Minds → Ant → Bool
flips_now zero minds ant = is_flip (instruction_at (mind_of minds ant.colour) ant.state)
flips_now (suc left) minds ant = false

abbrev pub ant_flips : Minds → Option Ant → Bool
ant_flips minds None = false
ant_flips minds (Some ant) = flips_now ant.resting minds ant

abbrev pub flips_from : Minds → Cells → Option Pos → Bool
flips_from minds cells None = false
flips_from minds cells (Some p) = ant_flips minds (cells p).ant

-- whether the ant of id t is alive, doesn't rest and is at a Flip
unfoldable pub flips : Minds → World → ℕ → Bool
flips minds w t = flips_from minds w.cells (place_in w t)

-- how many ants of the n ids from `from` on are alive, don't rest and are at a Flip
abbrev pub flips_among : Minds → World → ℕ → ℕ → ℕ
flips_among minds w from zero = 0
flips_among minds w from (suc n) = flips_among minds w from n + one_if (flips minds w (from + n))

-- the guess for turn t of a window that begins at turn `from` with this base and base place
unfoldable pub guess : Minds → World → ℕ → ℕ → ℕ → ℕ
guess minds base place from t = place + flips_among minds base from (t - from)

-- the guesses for n turns from `from` on
abbrev pub guesses_of : Minds → World → ℕ → ℕ → ℕ → ℕ → List ℕ
guesses_of minds base place from t zero = []
guesses_of minds base place from t (suc n) = guess minds base place from t ∷ guesses_of minds base place from (suc t) n
