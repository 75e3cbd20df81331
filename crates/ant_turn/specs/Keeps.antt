-- What a world keeps from turn to turn.
use Rattle.std.specs.Prelude.{◌≡◌, ℕ, ◌≤◌, false}
use Rattle.hex_geometry.specs.declared.position.Pos.{Pos}
use Rattle.cell_world.specs.Cell.{holds_id}
use Rattle.cell_world.specs.Valid.{Valid}
use Rattle.cell_world.specs.World.{World, weight}
use Rattle.ant_turn.specs.Minds.{Minds, Fits}

-- what the world `now` has in common with an earlier one: it is a world with the same sizes, number of ids, rocks and
-- hills; the brains fit it, it isn't heavier, and the dead are still dead
pub record Keeps (minds : Minds) (earlier now : World) : Type 0 where
  pub width : now.width ≡ earlier.width
  pub height : now.height ≡ earlier.height
  pub ids : now.ids ≡ earlier.ids
  pub rocks : (p : Pos) → (now.cells p).rocky ≡ (earlier.cells p).rocky
  pub hills : (p : Pos) → (now.cells p).hill ≡ (earlier.cells p).hill
  pub dead : (t : ℕ) → ((p : Pos) → holds_id t (earlier.cells p) ≡ false) → (p : Pos) → holds_id t (now.cells p) ≡ false
  pub valid : Valid now
  pub fits : Fits now minds
  pub no_heavier : weight now ≤ weight earlier
