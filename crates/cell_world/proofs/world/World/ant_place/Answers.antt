-- each body has its ant's place, and an id that was never made has none
use Rattle.std.proofs.Common.{sym, ◌∙◌, ap, arith}
use Rattle.cell_world.specs.Grid.{Grid, world_of}
use Rattle.cell_world.specs.World.{place_in}
use Rattle.cell_world.proofs.InsideLemmas.{body-place}
use Rattle.cell_world.proofs.Places.{place_in-unknown}
use Rattle.cell_world.proofs.world.World.ant_place.Goals as goal

pub returns-then-id-len-clause-place : goal.returns-then-id-len-clause-place
returns-then-id-len-clause-place c =
    body-place c.self.inside c.args.id c.index.result.now c.self.invariant (omega arith) c.index.ensures
    ∙ ap (λ (g : Grid). place_in (world_of g) c.args.id) c.self.view_is

pub returns-else-id-len-clause-place : goal.returns-else-id-len-clause-place
returns-else-id-len-clause-place c =
    rw (← c.self.view_is) (sym (place_in-unknown _ c.args.id c.self.invariant.world.valid (omega arith)))
