-- the cell that was put is read from its tile, and the bodies follow its ant
use Rattle.std.proofs.Common.{◌≡◌, ◌∙◌, ap, length, subst, sym}
use Rattle.hex_geometry.specs.declared.position.Pos.{Pos}
use Rattle.cell_world.specs.declared.cell.Cell.{Cell}
use Rattle.cell_world.specs.Grid.{Grid, world_of}
use Rattle.cell_world.specs.Inner.Inside.{grid_of}
use Rattle.cell_world.specs.Inner.Bodies.{IsMadeBody}
use Rattle.cell_world.specs.Valid.{CanSet}
use Rattle.cell_world.specs.World.{put}
use Rattle.cell_world.proofs.InsideLemmas.{FieldsChanged, fields_set, fields_set-changed, merged_tile}
use Rattle.cell_world.proofs.Sets.{grid_set, world_of-set}
use Rattle.cell_world.proofs.StoredLemmas.{tile-made}
use Rattle.cell_world.proofs.world.ground.WorldGround.set.Goals as goal
use Rattle.cell_world.proofs.world.ground.WorldGround.set.Goals.{After-note_change}

-- the change may be made of the fields
can_set : (g now : Grid) (p : Pos) (cell : Cell) → g ≡ now → CanSet (world_of now) 9 p cell → CanSet (world_of g) 9 p cell
can_set g now p cell same can = subst (λ (h : Grid). CanSet (world_of h) 9 p cell) (sym same) can

pub note_change-requires-clause-before : goal.note_change-requires-clause-before
note_change-requires-clause-before c =
    let fields = c.self.inside in
    let old = c.index_mut-here.result.now in
    subst (λ bodies. IsMadeBody (length bodies) c.id-before.result) (sym c.deref_mut.ensures.value)
    (subst (IsMadeBody (length fields.bodies.items)) (sym c.id-before.ensures) (tile-made fields.width fields.height fields.tiles.items fields.bodies.items c.args.p c.index_of.result old c.self.invariant.world (can_set (grid_of fields) c.args.self.now c.args.p c.args.cell c.self.view_is c.requires).inside c.index_of.ensures c.index_mut-here.ensures.value))

-- the change that was made of the fields
changed : (c : After-note_change) → FieldsChanged c.self.inside (fields_set c.self.inside c.index_of.result (merged_tile c.index_mut-here.result.now c.args.cell c.of-here.result) c.note_change.new.bodies) c.args.p c.args.cell
changed c =
    fields_set-changed c.self.inside c.args.p c.index_of.result c.index_mut-here.result.now c.args.cell c.of-here.result c.id-before.result 9 c.deref_mut.result.now c.note_change.new.bodies c.self.invariant (can_set (grid_of c.self.inside) c.args.self.now c.args.p c.args.cell c.self.view_is c.requires) c.index_of.ensures c.index_mut-here.ensures.value c.of-here.ensures c.id-before.ensures c.deref_mut.ensures.value c.note_change.ensures

-- the cell that was put
is_put : (c : After-note_change) → world_of (grid_set (grid_of c.self.inside) c.args.p c.args.cell) ≡ put (world_of c.args.self.now) c.args.p c.args.cell
is_put c =
    world_of-set (grid_of c.self.inside) c.args.p c.args.cell c.self.invariant.world.full (can_set (grid_of c.self.inside) c.args.self.now c.args.p c.args.cell c.self.view_is c.requires).inside
    ∙ ap (λ (g : Grid). put (world_of g) c.args.p c.args.cell) c.self.view_is

pub invariant_of-self : goal.invariant_of-self
invariant_of-self c = (changed (goal.at.invariant_of-self c).After-note_change).kept

pub returns-clause-set : goal.returns-clause-set
returns-clause-set c =
    let there = (goal.at.returns-clause-set c).After-note_change in ap world_of (changed there).grid ∙ is_put there

pub returns-clause-valid : goal.returns-clause-valid
returns-clause-valid c = (changed (goal.at.returns-clause-valid c).After-note_change).kept.world.valid
