-- a write that is the only one may be set
use Rattle.std.proofs.Common.{sym, subst}
use Rattle.cell_world.specs.declared.cell.Cell.{Cell}
use Rattle.cell_world.specs.Grid.{world_of}
use Rattle.cell_world.specs.Parts.{patched}
use Rattle.cell_world.specs.Valid.{CanSet}
use Rattle.spec_record.specs.Claims.{seen_cell, seen_parts, seen_place}
use Rattle.round_book.proofs.PassLemmas.{CanSet-alone}
use Rattle.round_book.proofs.passes.set_parts.Goals as goal

pub set-requires : goal.set-requires
set-requires c =
    subst (λ (cell : Cell). CanSet (world_of c.args.world.now) 9 (seen_place c.args.write.now) cell) (sym c.patched.ensures)
    (subst (λ (cell : Cell). CanSet (world_of c.args.world.now) 9 (seen_place c.args.write.now) (patched cell (seen_cell c.args.write.now) (seen_parts c.args.write.now))) (sym c.cell-cell.ensures.content)
    (CanSet-alone (world_of c.args.world.now) c.args.write.now c.requires))
