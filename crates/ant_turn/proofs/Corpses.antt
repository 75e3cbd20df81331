-- A cell whose ant was killed may be set.
use Rattle.std.proofs.Common.{◌≡◌, ℕ, ◌+◌, ◌≤◌, Some, refl, ap, arith}
use Rattle.std.proofs.lemmas.Bool.{false≢true}
use Rattle.hex_geometry.specs.declared.position.Pos.{Pos}
use Rattle.cell_world.specs.declared.ant.Ant.{Ant}
use Rattle.cell_world.specs.declared.cell.Cell.{Cell}
use Rattle.cell_world.specs.Cell.{cell_weight, ant_weight, one_if}
use Rattle.cell_world.specs.World.{World}
use Rattle.cell_world.specs.Valid.{Valid, CanSet}
use Rattle.cell_world.specs.Inner.Replaces.{Replaces}
use Rattle.cell_world.proofs.Places.{ant-clear}
use Rattle.cell_world.proofs.ValidLemmas.{CanSet-replaces, HasMarksOfSix-same}
use Rattle.ant_turn.specs.Kills.{after_kill, corpse_food}
use Rattle.ant_turn.specs.Sheet.{Sheet}

-- the weight of a cell whose ant was killed
after_kill-weight : (sheet : Sheet) (cell : Cell) (ant : Ant) → cell.ant ≡ Some ant → sheet.corpse ≤ 9 → cell_weight (after_kill sheet cell) ≤ cell_weight cell
unfolding cell_weight
after_kill-weight sheet cell ant is light =
    let food : corpse_food sheet cell.ant ≡ sheet.corpse + one_if ant.laden = ap (corpse_food sheet) is in
    let weight : ant_weight cell.ant ≡ 9 + one_if ant.laden = ap ant_weight is in
    omega arith

-- a corpse of at most nine particles may replace its ant
pub Replaces-after_kill : (sheet : Sheet) (cell : Cell) (ant : Ant) → cell.ant ≡ Some ant → sheet.corpse ≤ 9 → Replaces cell (after_kill sheet cell)
Replaces-after_kill sheet cell ant is light = record {
  same_kind = refl;
  same_hill = refl;
  same_ant = λ t holds. absurd (false≢true holds);
  no_heavier = after_kill-weight sheet cell ant is light;
}

-- the cell of an ant may be set to what is left when it was killed
pub CanSet-after_kill : (sheet : Sheet) (w : World) (room : ℕ) (p : Pos) (ant : Ant) → sheet.corpse ≤ 9 → Valid w → 1 ≤ room → (w.cells p).ant ≡ Some ant → CanSet w room p (after_kill sheet (w.cells p))
CanSet-after_kill sheet w room p ant light valid left is =
    CanSet-replaces w room p (after_kill sheet (w.cells p)) valid left (ant-clear w p ant valid is) (Replaces-after_kill sheet (w.cells p) ant is light)
    (HasMarksOfSix-same (w.cells p) (after_kill sheet (w.cells p)) refl refl (valid.six p))
