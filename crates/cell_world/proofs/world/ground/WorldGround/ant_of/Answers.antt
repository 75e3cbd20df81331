-- the ant and its place are those of its body
use Rattle.std.proofs.Common.{◌≡◌, ◌∙◌, ◌<◌, length, ap, subst, sym}
use Rattle.std.specs.Prelude.{Some, option_map}
use Rattle.cell_world.specs.declared.ant.PlacedAnt.{PlacedAnt}
use Rattle.cell_world.specs.Grid.{Grid, cell_in, world_of}
use Rattle.cell_world.specs.Inner.Inside.{grid_of}
use Rattle.cell_world.specs.World.{place_in}
use Rattle.cell_world.proofs.InsideLemmas.{body-ant, body-place}
use Rattle.cell_world.proofs.Places.{place_in-holds}
use Rattle.cell_world.proofs.world.ground.WorldGround.ant_of.Goals as goal
use Rattle.cell_world.proofs.world.ground.WorldGround.ant_of.Goals.{After-index}

-- the id was made
made : (c : After-index) → c.args.id < length c.self.inside.bodies.items
made c = subst (λ (g : Grid). c.args.id < g.ids) (sym c.self.view_is) c.requires

-- the place of the body
place_is : (c : After-index) → c.index.result.now.place ≡ place_in (world_of (grid_of c.self.inside)) c.args.id
place_is c = body-place c.self.inside c.args.id c.index.result.now c.self.invariant (made c) c.index.ensures

-- is the ant's
now_is : (c : After-index) → c.index.result.now.place ≡ place_in (world_of c.args.self.now) c.args.id
now_is c = place_is c ∙ ap (λ (g : Grid). place_in (world_of g) c.args.id) c.self.view_is

pub returns-in_err-place-clause-place : goal.returns-in_err-place-clause-place
returns-in_err-place-clause-place c =
    ap (option_map (λ (it : PlacedAnt). it.place)) c.from_residual.ensures ∙ sym c.in_err-place.was ∙ now_is (goal.at.returns-in_err-place-clause-place c).After-index

pub returns-clause-place : goal.returns-clause-place
returns-clause-place c = sym c.in_ok-place.was ∙ now_is (goal.at.returns-clause-place c).After-index

pub returns-clause-ant : goal.returns-clause-ant
returns-clause-ant c =
    let there = (goal.at.returns-clause-ant c).After-index in
    let found : place_in (world_of (grid_of c.self.inside)) c.args.id ≡ Some c.in_ok-place.place = sym (place_is there) ∙ c.in_ok-place.was in
    ap (λ (g : Grid). (cell_in g c.in_ok-place.place).ant) (sym c.self.view_is)
    ∙ body-ant c.self.inside c.args.id c.in_ok-place.place c.index.result.now c.self.invariant (made there) c.index.ensures (place_in-holds (world_of (grid_of c.self.inside)) c.args.id c.in_ok-place.place found)
    ∙ ap Some (sym c.ant.ensures)
