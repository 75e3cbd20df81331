-- one set more is looked at
use Rattle.std.proofs.Common.{◌+◌, Option, drop, sym, ◌∙◌, ap}
use Rattle.cell_world.specs.declared.cell.Cell.{Cell}
use Rattle.spec_record.specs.Inner.Laid.{newest}
use Rattle.spec_record.proofs.LaidCells.{newest-next}
use Rattle.spec_record.proofs.trail.newest.Goals as goal

pub loop-q-preserved : goal.loop-q-preserved
loop-q-preserved c =
    ap (λ (o : Option Cell). newest o c.args.p (drop (c.loop-q.q-index + 1) c.args.sets.now)) c.newer-found.ensures
    ∙ sym (newest-next c.loop-q.found c.args.p c.args.sets.now c.loop-q.q-index _ c.loop-q-test.true)
    ∙ c.loop-q.invariant
