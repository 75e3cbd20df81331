-- Laws of cells and their parts (this project's own).
use Rattle.std.specs.Prelude.{◌≡◌, true, false}
use Rattle.cell_world.specs.declared.cell.Cell.{Cell}
use Rattle.cell_world.specs.declared.part.Part.{Part}
use Rattle.cell_world.specs.declared.part.Parts.{Parts}
use Rattle.cell_world.specs.Parts.{Agree, Alike, CanPatch, has_part, patched}

-- cells that are equal in every part, in ground and in hill are equal
abbrev pub CellsAreParts : Type 0
CellsAreParts = (c d : Cell) → ((k : Part) → Alike k c d) → c.rocky ≡ d.rocky → c.hill ≡ d.hill → c ≡ d

-- what a patched cell is
pub record HasParts (cell source : Cell) (parts : Parts) (new : Cell) : Type 0 where
  -- it has the named parts of the source
  pub named : Agree parts new source
  -- every other part is its own
  pub others : (k : Part) → has_part parts k ≡ false → Alike k new cell
  -- its ground and hill are its own
  pub same_kind : new.rocky ≡ cell.rocky
  pub same_hill : new.hill ≡ cell.hill

-- each patched cell has them
abbrev pub PatchesTakeParts : Type 0
PatchesTakeParts =
    (cell source : Cell) (parts : Parts) → CanPatch cell source parts
    → HasParts cell source parts (patched cell source parts)

-- patching what a cell already has changes nothing
abbrev pub PatchesChangeNothing : Type 0
PatchesChangeNothing =
    (cell source : Cell) (parts : Parts) → CanPatch cell source parts → Agree parts cell source
    → patched cell source parts ≡ cell

-- two sets have no part in common
abbrev pub AreDisjoint : Parts → Parts → Type 0
AreDisjoint a b = (k : Part) → has_part a k ≡ true → has_part b k ≡ false

-- two patches that have no part in common give the same cell in either order
abbrev pub PatchesSettle : Type 0
PatchesSettle = (cell one other : Cell) (a b : Parts) → AreDisjoint a b → CanPatch cell one a → CanPatch cell other b →
    patched (patched cell one a) other b ≡ patched (patched cell other b) one a
