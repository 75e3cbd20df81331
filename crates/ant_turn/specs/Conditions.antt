-- Which cells meet a condition (the task's phenomenology).
use Rattle.std.specs.Prelude.{Bool, true, false, if◌then◌else◌, nat_lt, Option, Some, None, ◌&&◌}
use Rattle.hex_geometry.specs.declared.position.Pos.{Pos}
use Rattle.cell_world.specs.declared.ant.Ant.{Ant}
use Rattle.cell_world.specs.declared.ant.Colour.{Colour}
use Rattle.cell_world.specs.declared.cell.Cell.{Cell}
use Rattle.cell_world.specs.Cell.{is_ant_of, is_hill_of, marks_of}
use Rattle.cell_world.specs.Colour.{foe_of}
use Rattle.cell_world.specs.Marks.{has_mark, has_any_mark}
use Rattle.cell_world.specs.World.{World}
use Rattle.brain_read.specs.declared.instr.Cond.{Cond}
use Rattle.brain_read.specs.declared.instr.Cond.TheVariants.{Friend, Foe, FriendWithFood, FoeWithFood, Food, Rock, Marker, FoeMarker, Home, FoeHome}

-- whether the ant, if there is one, carries food
abbrev pub is_laden : Option Ant → Bool
is_laden None = false
is_laden (Some ant) = ant.laden

-- whether it is the condition Rock
abbrev pub is_rock_condition : Cond → Bool
is_rock_condition Rock = true
is_rock_condition _ = false

-- whether a clear cell meets a condition for an ant of this colour
abbrev pub clear_meets : Cell → Cond → Colour → Bool
clear_meets cell Friend colour = is_ant_of colour cell.ant
clear_meets cell Foe colour = is_ant_of (foe_of colour) cell.ant
clear_meets cell FriendWithFood colour = is_ant_of colour cell.ant && is_laden cell.ant
clear_meets cell FoeWithFood colour = is_ant_of (foe_of colour) cell.ant && is_laden cell.ant
clear_meets cell Food colour = nat_lt 0 cell.food
clear_meets cell Rock colour = false
clear_meets cell (Marker i) colour = has_mark (marks_of colour cell) i
clear_meets cell FoeMarker colour = has_any_mark (marks_of (foe_of colour) cell)
clear_meets cell Home colour = is_hill_of colour cell.hill
clear_meets cell FoeHome colour = is_hill_of (foe_of colour) cell.hill

-- whether a cell meets a condition for an ant of this colour: a rocky cell meets only Rock
unfoldable pub meets : Cell → Cond → Colour → Bool
meets cell condition colour = if cell.rocky then is_rock_condition condition else clear_meets cell condition colour

-- whether the cell at a position meets it
abbrev pub matches_at : World → Pos → Cond → Colour → Bool
matches_at w p condition colour = meets (w.cells p) condition colour
