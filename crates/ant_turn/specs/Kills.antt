-- Surrounded ants (the task's martial arts).
use Rattle.std.specs.Prelude.{ℕ, ◌+◌, Bool, false, if◌then◌else◌, nat_le, List, [], ◌∷◌, ◌++◌, length, filter, Option, Some, None}
use Rattle.hex_geometry.specs.declared.position.Pos.{Pos}
use Rattle.hex_geometry.specs.Neighbourhood.{neighbours_of}
use Rattle.cell_world.specs.declared.ant.Ant.{Ant}
use Rattle.cell_world.specs.declared.ant.Colour.{Colour}
use Rattle.cell_world.specs.declared.cell.Cell.{Cell}
use Rattle.cell_world.specs.Cell.{is_ant_of, one_if}
use Rattle.cell_world.specs.Colour.{foe_of}
use Rattle.cell_world.specs.World.{Cells, put_cell}
use Rattle.ant_turn.specs.Sheet.{Sheet}

-- how many of these cells hold ants of this colour
abbrev pub ants_among : Cells → Colour → List Pos → ℕ
ants_among cells colour places = length (filter (λ q. is_ant_of colour (cells q).ant) places)

-- whether the ant, if there is one, has foes on enough of these cells
abbrev pub has_foes : Sheet → Cells → List Pos → Option Ant → Bool
has_foes sheet cells places None = false
has_foes sheet cells places (Some ant) =
    nat_le sheet.surround (length (filter (λ q. is_ant_of (foe_of ant.colour) (cells q).ant) places))

-- whether an ant is at p and enough of its six neighbours hold ants of the other colour
unfoldable pub is_surrounded : Sheet → Cells → Pos → Bool
is_surrounded sheet cells p = has_foes sheet cells (neighbours_of p) (cells p).ant

-- the food that a killed ant leaves: its corpse, and what it carried
abbrev pub corpse_food : Sheet → Option Ant → ℕ
corpse_food sheet None = 0
corpse_food sheet (Some ant) = sheet.corpse + one_if ant.laden

-- the cell after its ant was killed
abbrev pub after_kill : Sheet → Cell → Cell
after_kill sheet cell = record cell { food = cell.food + corpse_food sheet cell.ant; ant = None }

-- the check of one cell: an ant is killed if it is surrounded; otherwise nothing happens
unfoldable pub check_at : Sheet → Cells → Pos → Cells
check_at sheet cells p = if is_surrounded sheet cells p then put_cell cells p (after_kill sheet (cells p)) else cells

-- checks of cells in order, each on the cells that the earlier ones left
abbrev pub check_all : Sheet → Cells → List Pos → Cells
check_all sheet cells [] = cells
check_all sheet cells (p ∷ places) = check_all sheet (check_at sheet cells p) places

-- the id of the ant, if there is one
abbrev pub id_of : Option Ant → List ℕ
id_of None = []
id_of (Some ant) = ant.id ∷ []

-- the ant that the check of one cell kills
unfoldable pub killed_at : Sheet → Cells → Pos → List ℕ
killed_at sheet cells p = if is_surrounded sheet cells p then id_of (cells p).ant else []

-- the ants that checks of cells in order kill, in that order
abbrev pub killed_all : Sheet → Cells → List Pos → List ℕ
killed_all sheet cells [] = []
killed_all sheet cells (p ∷ places) = killed_at sheet cells p ++ killed_all sheet (check_at sheet cells p) places

-- the cells that are checked around p: p itself, and then its neighbours in the order of directions
unfoldable pub places_around : Pos → List Pos
places_around p = p ∷ neighbours_of p

-- the check around p
abbrev pub check_around_at : Sheet → Cells → Pos → Cells
check_around_at sheet cells p = check_all sheet cells (places_around p)

-- the ants that it kills, in the order of its checks
abbrev pub killed_around : Sheet → Cells → Pos → List ℕ
killed_around sheet cells p = killed_all sheet cells (places_around p)
