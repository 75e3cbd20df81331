-- What a book works on: a world of its own, which positions were written since it was lent, and the verdicts on its
-- turns.
use Rattle.std.specs.Prelude.{◌≡◌, ℕ, ◌+◌, ◌*◌, min, Bool, true, false, List, [], ◌∷◌, length, slice_index_or}
use Rattle.std.specs.List.{Contains}
use Rattle.hex_geometry.specs.declared.position.Pos.{Pos}
use Rattle.hex_geometry.specs.Position.{IsInside}
use Rattle.cell_world.specs.Cell.{one_if}
use Rattle.cell_world.specs.Grid.{Grid}
use Rattle.hex_geometry.specs.RowOrder.{index_of}

-- how many marks are set
abbrev pub marks_in : List Bool → ℕ
marks_in [] = 0
marks_in (mark ∷ marks) = one_if mark + marks_in marks

-- the greatest length of a list of written positions after this many more: at most the number of the world's cells
abbrev pub most_listed : Grid → ℕ → ℕ → ℕ
most_listed grid listed more = min (listed + more) (grid.width * grid.height)

-- the marks of a world's cells are those of the listed positions, each of which is listed once
pub record AreMarked (grid : Grid) (marked : List Bool) (written : List Pos) : Type 0 where
  pub sized : length marked ≡ grid.width * grid.height
  pub inside : (p : Pos) → Contains written p → IsInside grid.width grid.height p
  pub listed : (p : Pos) → IsInside grid.width grid.height p
      → slice_index_or marked (index_of grid.width p) false ≡ true → Contains written p
  pub bear : (p : Pos) → Contains written p → slice_index_or marked (index_of grid.width p) false ≡ true
  pub counted : marks_in marked ≡ length written
