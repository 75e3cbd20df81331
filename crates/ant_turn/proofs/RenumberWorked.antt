-- Renumbering, worked out.
use Rattle.std.proofs.Common.{◌≡◌, ℕ, zero, suc, Some, None, true, refl}
use Rattle.hex_geometry.specs.declared.direction.Dir.TheVariants.{West}
use Rattle.hex_geometry.specs.declared.neighbourhood.Sight.TheVariants.{Ahead}
use Rattle.cell_world.specs.declared.ant.Ant.{Ant}
use Rattle.cell_world.specs.declared.ant.Colour.{Colour}
use Rattle.cell_world.specs.declared.ant.Colour.TheVariants.{Red, Black}
use Rattle.brain_read.specs.declared.instr.Cond.TheVariants.{Marker}
use Rattle.brain_read.specs.declared.instr.Instr.TheVariants.{Sense, Flip}
use Rattle.ant_turn.specs.Renumber.{Numbers, state_number, redirected, renumbered_ant, side_states}

-- state 0 stays 0, state 1 has no number, and each later state is one less
abbrev closing : Numbers
closing zero = Some 0
closing (suc zero) = None
closing (suc (suc state)) = Some (suc state)

-- an ant in this state
abbrev ant_in : Colour → ℕ → Ant
ant_in colour state = record { id = 7; colour = colour; state = state; resting = 3; facing = West; laden = true }

-- a red ant in state 5 comes to state 4, one in state 1 stays, and a black one stays in any state
ants_renumbered :
    (renumbered_ant (side_states closing Red) (ant_in Red 5) ≡ ant_in Red 4)
    × (renumbered_ant (side_states closing Red) (ant_in Red 1) ≡ ant_in Red 1)
    × (renumbered_ant (side_states closing Red) (ant_in Black 5) ≡ ant_in Black 5)
ants_renumbered = (refl, refl, refl)

-- an instruction keeps its kind and its parameters
instructions_redirected :
    (redirected (state_number closing) (Sense Ahead 2 0 (Marker 5)) ≡ Sense Ahead 1 0 (Marker 5))
    × (redirected (state_number closing) (Flip 9 3 1) ≡ Flip 9 2 1)
instructions_redirected = (refl, refl)
