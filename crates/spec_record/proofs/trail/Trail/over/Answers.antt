-- nothing is laid over the base yet
use Rattle.std.proofs.Common.{sym, ◌∙◌, ap, subst}
use Rattle.cell_world.specs.Grid.{world_of}
use Rattle.cell_world.specs.Valid.{Valid}
use Rattle.cell_world.specs.World.{with_cells}
use Rattle.spec_record.specs.Trail.{Sets, laid}
use Rattle.spec_record.proofs.LaidCells.{laid-nothing}
use Rattle.spec_record.proofs.trail.Trail.over.Goals as goal

pub returns-clause-world : goal.returns-clause-world
returns-clause-world c =
    let w = world_of c.args.base.now in
    ap (λ (sets : Sets). with_cells w (laid w.cells sets)) c.new.ensures ∙ ap (with_cells w) (laid-nothing w.cells)

pub invariant_of-result : goal.invariant_of-result
invariant_of-result c =
    let w = world_of c.args.base.now in
    subst Valid (sym (ap (λ (sets : Sets). with_cells w (laid w.cells sets)) c.new.ensures ∙ ap (with_cells w) (laid-nothing w.cells))) c.width-width.ensures.world.valid
