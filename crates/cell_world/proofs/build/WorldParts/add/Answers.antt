-- the id of the ant is the number of bodies so far
use Rattle.std.proofs.Common.{sym, subst, arith}
use Rattle.cell_world.specs.declared.cell.Cell.{Cell}
use Rattle.cell_world.specs.Inner.Bodies.{IsKnown}
use Rattle.cell_world.proofs.OpeningStores.{IsKnown-opening_cell}
use Rattle.cell_world.proofs.build.WorldParts.add.Goals as goal

pub of-tile-requires : goal.of-tile-requires
of-tile-requires c =
    subst (λ (cell : Cell). IsKnown 65535 cell.ant) (sym c.opening_cell-cell.ensures) (IsKnown-opening_cell 65535 _ c.args.kind (omega arith))
