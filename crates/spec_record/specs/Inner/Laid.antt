-- What is found in a list of cells that were set.
use Rattle.std.specs.Prelude.{ℕ, Bool, false, if◌then◌else◌, [], ◌∷◌, Option, Some, None}
use Rattle.hex_geometry.specs.declared.position.Pos.{Pos}
use Rattle.hex_geometry.specs.Position.{same_pos}
use Rattle.cell_world.specs.declared.cell.Cell.{Cell}
use Rattle.cell_world.specs.Cell.{holds_id}
use Rattle.spec_record.specs.Trail.{Sets}

-- the last cell set at p, or this one if there is none
abbrev pub newest : Option Cell → Pos → Sets → Option Cell
newest found p [] = found
newest found p (new ∷ more) = newest (if same_pos new.0 p then Some new.1 else found) p more

-- whether the cell that was found, if any, holds the ant with this id
abbrev pub found_holds : ℕ → Option Cell → Bool
found_holds t None = false
found_holds t (Some cell) = holds_id t cell

-- the first of these positions at which the last cell set, among all of them, holds the ant with this id
abbrev pub first_held : Sets → ℕ → Sets → Option Pos
first_held all t [] = None
first_held all t (new ∷ more) = if found_holds t (newest None new.0 all) then Some new.0 else first_held all t more
