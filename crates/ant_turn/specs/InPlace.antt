-- Turns of ants that stay where they are (the task's kinetics).
use Rattle.std.specs.Prelude.{◌≡◌, ⊤, true}
use Rattle.hex_geometry.specs.declared.position.Pos.{Pos}
use Rattle.hex_geometry.specs.Neighbourhood.{adjacent_pos, sensed_pos}
use Rattle.cell_world.specs.declared.ant.Ant.{Ant}
use Rattle.cell_world.specs.declared.cell.Cell.{Cell}
use Rattle.cell_world.specs.World.{Cells}
use Rattle.brain_read.specs.declared.instr.Instr.{Instr}
use Rattle.brain_read.specs.declared.instr.Instr.TheVariants.{Sense, Mark, Unmark, PickUp, Drop, Turn, Move, Flip}
use Rattle.ant_turn.specs.Turn.{is_blocked}

-- the ant at p stays there when it executes its instruction: it doesn't move, or the cell ahead is blocked; and if it
-- senses, it senses this cell
abbrev pub StaysSeeing : Cells → Pos → Ant → Cell → Instr → Type 0
StaysSeeing cells p ant seen (Sense sight met unmet condition) = seen ≡ cells (sensed_pos p ant.facing sight)
StaysSeeing cells p ant seen (Mark i next) = ⊤
StaysSeeing cells p ant seen (Unmark i next) = ⊤
StaysSeeing cells p ant seen (PickUp met unmet) = ⊤
StaysSeeing cells p ant seen (Drop next) = ⊤
StaysSeeing cells p ant seen (Turn side next) = ⊤
StaysSeeing cells p ant seen (Move met unmet) = is_blocked (cells (adjacent_pos p ant.facing)) ≡ true
StaysSeeing cells p ant seen (Flip bound met unmet) = ⊤
