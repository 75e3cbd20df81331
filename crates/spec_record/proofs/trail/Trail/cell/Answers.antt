-- the last cell that was set there, or that of the base
use Rattle.std.proofs.Common.{◌≡◌, Some, None, refl, sym, ◌∙◌, ap}
use Rattle.cell_world.specs.Grid.{world_of}
use Rattle.spec_record.specs.Inner.Laid.{newest}
use Rattle.spec_record.specs.Trail.{TrailValue}
use Rattle.spec_record.proofs.LaidCells.{laid-newest, or_cell}
use Rattle.spec_record.proofs.trail.Trail.cell.Goals as goal

pub returns-in-Some-clause-content : goal.returns-in-Some-clause-content
returns-in-Some-clause-content c =
    let it = c.args.self.now in
    let base = (world_of it.base).cells in
    let all = laid-newest base base c.args.p None it.sets refl in
    let found : newest None c.args.p it.sets ≡ Some c.in-Some.cell = ap (newest None c.args.p) (ap (λ (t : TrailValue). t.sets) (sym c.self.view_is) ∙ sym c.as_slice.ensures.value) ∙ sym c.newest.ensures ∙ c.in-Some.is in
    sym (all ∙ ap (λ o. or_cell o (base c.args.p)) found)

pub returns-in-None-clause-content : goal.returns-in-None-clause-content
returns-in-None-clause-content c =
    let it = c.args.self.now in
    let base = (world_of it.base).cells in
    let all = laid-newest base base c.args.p None it.sets refl in
    let found : newest None c.args.p it.sets ≡ None = ap (newest None c.args.p) (ap (λ (t : TrailValue). t.sets) (sym c.self.view_is) ∙ sym c.as_slice.ensures.value) ∙ sym c.newest.ensures ∙ c.in-None.is in
    c.cell.ensures.content ∙ ap (λ (t : TrailValue). (world_of t.base).cells c.args.p) c.self.view_is ∙ sym (all ∙ ap (λ o. or_cell o (base c.args.p)) found)
