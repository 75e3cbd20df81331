-- The writes of a look, set in a world (this project's own).
use Rattle.std.specs.Prelude.{◌≡◌, ℕ, Bool, true, false, ⊤, if◌then◌else◌, nat_lt, List, [], ◌∷◌}
use Rattle.hex_geometry.specs.declared.position.Pos.{Pos}
use Rattle.hex_geometry.specs.Position.{same_pos}
use Rattle.cell_world.specs.declared.cell.Cell.{Cell}
use Rattle.cell_world.specs.declared.part.Parts.{Parts}
use Rattle.cell_world.specs.Cell.{cell_weight}
use Rattle.cell_world.specs.Parts.{CanPatch, no_parts, patched, union}
use Rattle.cell_world.specs.Valid.{CanSet}
use Rattle.cell_world.specs.World.{Cells, World, put, put_cell}
use Rattle.spec_record.specs.Claims.{Claim, Sighting, seen_cell, seen_parts, seen_place}

-- the parts of a claim, at its position
abbrev pub parts_there : Claim → Pos → Parts
parts_there c p = if same_pos c.at p then c.parts else no_parts

-- all parts that are claimed at a position
abbrev pub parts_at : List Claim → Pos → Parts
parts_at [] p = no_parts
parts_at (c ∷ claims) p = union (parts_there c p) (parts_at claims p)

-- the cell at a write's position after the write: the old cell with the named parts of the write's
abbrev pub patched_by_write : Cells → Sighting → Cell
patched_by_write cells write = patched (cells (seen_place write)) (seen_cell write) (seen_parts write)

-- the cells with a write's parts set
abbrev pub with_write : Cells → Sighting → Cells
with_write cells write = put_cell cells (seen_place write) (patched_by_write cells write)

-- the cells with the parts of writes set, one write after another
abbrev pub patched_cells : Cells → List Sighting → Cells
patched_cells cells [] = cells
patched_cells cells (write ∷ writes) = patched_cells (with_write cells write) writes

-- whether a write raises the weight of its cell
abbrev pub raises : Cells → Sighting → Bool
raises cells write = nat_lt (cell_weight (cells (seen_place write))) (cell_weight (patched_by_write cells write))

-- a write may be set in a world: its cell can be patched, and the patched cell may be set
pub record CanWrite (w : World) (room : ℕ) (write : Sighting) : Type 0 where
  pub can_patch : CanPatch (w.cells (seen_place write)) (seen_cell write) (seen_parts write)
  pub can_set : CanSet w room (seen_place write) (patched_by_write w.cells write)

-- the world with a write set, if it doesn't raise its cell's weight
abbrev pub with_lighter : World → Sighting → World
with_lighter w write = if raises w.cells write then w else put w (seen_place write) (patched_by_write w.cells write)

-- the world with a write set, if it raises its cell's weight
abbrev pub with_heavier : World → Sighting → World
with_heavier w write = if raises w.cells write then put w (seen_place write) (patched_by_write w.cells write) else w

-- the world with those writes set that don't raise their cell's weight
abbrev pub after_lighter : World → List Sighting → World
after_lighter w [] = w
after_lighter w (write ∷ writes) = after_lighter (with_lighter w write) writes

-- the world with those writes set that raise their cell's weight
abbrev pub after_heavier : World → List Sighting → World
after_heavier w [] = w
after_heavier w (write ∷ writes) = after_heavier (with_heavier w write) writes

-- those writes that don't raise their cell's weight may be set, one after another
abbrev pub CanSetLighter : World → ℕ → List Sighting → Type 0
CanSetLighter w room [] = ⊤
CanSetLighter w room (write ∷ writes) =
    (raises w.cells write ≡ false → CanWrite w room write) × CanSetLighter (with_lighter w write) room writes

-- those writes that raise their cell's weight may be set, one after another
abbrev pub CanSetHeavier : World → ℕ → List Sighting → Type 0
CanSetHeavier w room [] = ⊤
CanSetHeavier w room (write ∷ writes) =
    (raises w.cells write ≡ true → CanWrite w room write) × CanSetHeavier (with_heavier w write) room writes

-- all writes may be set: first those that don't raise their cell's weight, then the others
pub record CanSetWrites (w : World) (room : ℕ) (writes : List Sighting) : Type 0 where
  pub lighter : CanSetLighter w room writes
  pub heavier : CanSetHeavier (after_lighter w writes) room writes
