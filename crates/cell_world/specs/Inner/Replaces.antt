-- A cell that may replace another one.
use Rattle.std.specs.Prelude.{◌≡◌, ℕ, ◌≤◌, true}
use Rattle.cell_world.specs.declared.cell.Cell.{Cell}
use Rattle.cell_world.specs.Cell.{holds_id, cell_weight}

-- the new cell may replace the old one: it has the same ground and hill, has the same ant or none, and isn't heavier
pub record Replaces (old new : Cell) : Type 0 where
  pub same_kind : new.rocky ≡ old.rocky
  pub same_hill : new.hill ≡ old.hill
  pub same_ant : (t : ℕ) → holds_id t new ≡ true → holds_id t old ≡ true
  pub no_heavier : cell_weight new ≤ cell_weight old
