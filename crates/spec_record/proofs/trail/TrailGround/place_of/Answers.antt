-- on a cell that was set, on its cell of the base, or nowhere
use Rattle.std.proofs.Common.{◌≡◌, None, sym, ◌∙◌, ap, subst}
use Rattle.cell_world.specs.Cell.{holds_id}
use Rattle.cell_world.specs.Grid.{world_of}
use Rattle.cell_world.specs.Valid.{Valid}
use Rattle.cell_world.specs.World.{place_in}
use Rattle.cell_world.proofs.Places.{place_in-inside}
use Rattle.spec_record.specs.Inner.Laid.{first_held}
use Rattle.spec_record.specs.Trail.{Sets, TrailValue, trail_world}
use Rattle.spec_record.proofs.LaidCells.{place_in-set, place_in-left, place_in-was_dead, place_in-is_gone}
use Rattle.spec_record.proofs.trail.TrailGround.place_of.Goals as goal
use Rattle.spec_record.proofs.trail.TrailGround.place_of.Goals.{After-set_place, After-ant_place}

-- what a trail keeps
valid : (c : After-set_place) → Valid (trail_world c.args.self.now)
valid c = subst (λ (t : TrailValue). Valid (trail_world t)) c.self.view_is c.self.invariant

-- what the list says
held : (c : After-set_place) → c.set_place.result ≡ first_held c.args.self.now.sets c.args.id c.args.self.now.sets
held c = c.set_place.ensures ∙ ap (λ (sets : Sets). first_held sets c.args.id sets) (c.as_slice.ensures.value ∙ ap (λ (t : TrailValue). t.sets) c.self.view_is)

pub returns-in-Some-clause-place : goal.returns-in-Some-clause-place
returns-in-Some-clause-place c =
    let there = (goal.at.returns-in-Some-clause-place c).After-set_place in
    sym (place_in-set c.args.self.now c.args.id c.in-Some.p (valid there) (sym (held there) ∙ c.in-Some.is))

-- where it is in the base
was : (c : After-ant_place) → c.ant_place.result ≡ place_in (world_of c.args.self.now.base) c.args.id
was c = c.ant_place.ensures.place ∙ ap (λ (t : TrailValue). place_in (world_of t.base) c.args.id) c.self.view_is

-- the base is a world
base_valid : (c : After-ant_place) → Valid (world_of c.args.self.now.base)
base_valid c = subst (λ (t : TrailValue). Valid (world_of t.base)) c.self.view_is c.ant_place.ensures.world.valid

-- no cell that was set holds the ant
none_held : (c : After-ant_place) → first_held c.args.self.now.sets c.args.id c.args.self.now.sets ≡ None
none_held c = sym (held c.before.before) ∙ c.in_default.is

pub returns-in_default-ant_place-clause-place : goal.returns-in_default-ant_place-clause-place
returns-in_default-ant_place-clause-place c =
    let there = (goal.at.returns-in_default-ant_place-clause-place c).After-ant_place in
    sym (place_in-was_dead c.args.self.now c.args.id (base_valid there) (none_held there) (sym (was there) ∙ c.in_default-ant_place.is))

pub cell-requires : goal.cell-requires
cell-requires c =
    let there = (goal.at.cell-requires c).After-ant_place in
    place_in-inside (world_of c.args.self.now.base) c.args.id c.in-Some-ant_place.p (sym (was there) ∙ c.in-Some-ant_place.is)

pub returns-then-holds-clause-place : goal.returns-then-holds-clause-place
returns-then-holds-clause-place c =
    let there = (goal.at.returns-then-holds-clause-place c).After-set_place in
    sym (place_in-left c.args.self.now c.args.id c.in-Some-ant_place.p (valid there) (ap (holds_id c.args.id) (sym c.cell.ensures.content) ∙ sym c.holds.ensures ∙ c.if-holds.true))

pub returns-clause-place : goal.returns-clause-place
returns-clause-place c =
    let there = (goal.at.returns-clause-place c).After-ant_place in
    sym (place_in-is_gone c.args.self.now c.args.id c.in-Some-ant_place.p (base_valid there) (none_held there) (sym (was there) ∙ c.in-Some-ant_place.is) (ap (holds_id c.args.id) (sym c.cell.ensures.content) ∙ sym c.holds.ensures ∙ c.if-holds.false))
