-- one cell more is laid over the base
use Rattle.std.proofs.Common.{◌≡◌, sym, ◌∙◌, ap, subst}
use Rattle.cell_world.specs.Grid.{world_of}
use Rattle.cell_world.specs.Valid.{Valid}
use Rattle.cell_world.specs.World.{put, with_cells}
use Rattle.cell_world.proofs.ValidLemmas.{Valid-put}
use Rattle.spec_record.specs.Trail.{Sets, TrailValue, laid, trail_room, trail_world}
use Rattle.spec_record.proofs.LaidCells.{laid-last}
use Rattle.spec_record.proofs.trail.TrailGround.set.Goals as goal
use Rattle.spec_record.proofs.trail.TrailGround.set.Goals.{After-push}

-- the world then
put-there : (c : After-push) → trail_world (record { base = c.self.inside.base.now; sets = c.push.new.self.items }) ≡ put (trail_world c.args.self.now) c.args.p c.args.cell
put-there c =
    let w = world_of c.self.inside.base.now in
    ap (λ (sets : Sets). with_cells w (laid w.cells sets)) c.push.ensures.items
    ∙ ap (with_cells w) (laid-last w.cells c.self.inside.sets.items c.args.p c.args.cell)
    ∙ ap (λ (t : TrailValue). put (trail_world t) c.args.p c.args.cell) c.self.view_is

-- it is one
valid-there : (c : After-push) → Valid (trail_world (record { base = c.self.inside.base.now; sets = c.push.new.self.items }))
valid-there c =
    subst Valid (sym (put-there c)) (Valid-put (trail_world c.args.self.now) (trail_room c.args.self.now) c.args.p c.args.cell (subst (λ (t : TrailValue). Valid (trail_world t)) c.self.view_is c.self.invariant) c.requires)

pub invariant_of-self : goal.invariant_of-self
invariant_of-self c = valid-there (goal.at.invariant_of-self c).After-push

pub returns-clause-set : goal.returns-clause-set
returns-clause-set c = put-there (goal.at.returns-clause-set c).After-push

pub returns-clause-valid : goal.returns-clause-valid
returns-clause-valid c = valid-there (goal.at.returns-clause-valid c).After-push
