-- the tile at the index reads as the cell at the position
use Rattle.std.proofs.Common.{length, sym, ◌∙◌, subst, ap, ap₂, ◌≡◌}
use Rattle.hex_geometry.specs.Position.{IsInside}
use Rattle.cell_world.specs.declared.ant.Ant.{Ant}
use Rattle.cell_world.specs.declared.cell.Cell.{Cell}
use Rattle.std.specs.Prelude.{Option}
use Rattle.hex_geometry.specs.declared.position.Pos.{Pos}
use Rattle.cell_world.specs.Grid.{Grid, cell_in}
use Rattle.cell_world.specs.Inner.Inside.{grid_of}
use Rattle.cell_world.specs.Inner.Bodies.{IsMadeBody}
use Rattle.cell_world.specs.Inner.Stored.{ant_named, cell_from}
use Rattle.cell_world.proofs.StoredLemmas.{cell_in-tile_is, tile-made}
use Rattle.cell_world.proofs.world.World.cell.Goals as goal

-- the position is inside the grid for which the fields stand
inside : (g now : Grid) (p : Pos) → g ≡ now → IsInside now.width now.height p → IsInside g.width g.height p
inside g now p same within = subst (λ (h : Grid). IsInside h.width h.height p) (sym same) within

pub ant_named-requires : goal.ant_named-requires
ant_named-requires c =
    let fields = c.self.inside in
    subst (λ bodies. IsMadeBody (length bodies) c.id.result) (sym c.deref.ensures.value)
    (subst (IsMadeBody (length fields.bodies.items)) (sym c.id.ensures)
    (tile-made fields.width fields.height fields.tiles.items fields.bodies.items c.args.p c.index_of.result c.index-tile.result.now c.self.invariant.world (inside (grid_of fields) c.args.self.now c.args.p c.self.view_is c.requires) c.index_of.ensures c.index-tile.ensures))

pub returns-clause-content : goal.returns-clause-content
returns-clause-content c =
    let fields = c.self.inside in
    let tile = c.index-tile.result.now in
    let with : Option Ant → Cell = λ o. record (cell_from fields.bodies.items tile) { ant = o } in
    ap with (c.ant_named.ensures ∙ ap₂ ant_named c.deref.ensures.value c.id.ensures)
    ∙ sym (cell_in-tile_is fields.width fields.height fields.tiles.items fields.bodies.items c.args.p c.index_of.result tile c.self.invariant.world (inside (grid_of fields) c.args.self.now c.args.p c.self.view_is c.requires) c.index_of.ensures c.index-tile.ensures)
    ∙ ap (λ (g : Grid). cell_in g c.args.p) c.self.view_is
