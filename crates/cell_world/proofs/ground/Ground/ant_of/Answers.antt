-- the place of an ant is inside, and its cell holds it
use Rattle.std.proofs.Common.{◌≡◌, ◌∙◌, ap, subst, sym}
use Rattle.std.specs.Prelude.{Some, None}
use Rattle.hex_geometry.specs.Position.{IsInside}
use Rattle.cell_world.specs.declared.cell.Cell.{Cell}
use Rattle.cell_world.specs.World.{World}
use Rattle.cell_world.proofs.Places.{Holder, place_in-ant, place_in-inside}
use Rattle.cell_world.proofs.ground.Ground.ant_of.Goals as goal

pub cell_at-requires : goal.cell_at-requires
cell_at-requires g c =
    subst (λ (w : World). IsInside w.width w.height c.in_ok-place.place) (sym c.place_of.ensures.world)
    (place_in-inside (g.Self.Ground.world c.args.self.now) c.args.id c.in_ok-place.place (sym c.place_of.ensures.place ∙ c.in_ok-place.was))

pub returns-in_err-ant-clause-place : goal.returns-in_err-ant-clause-place
returns-in_err-ant-clause-place g c =
    let w : World = g.Self.Ground.world c.args.self.now in
    let it : Holder c.args.id (w.cells c.in_ok-place.place).ant = place_in-ant w c.args.id c.in_ok-place.place (sym c.place_of.ensures.place ∙ c.in_ok-place.was) in
    let read : c.cell_at.result ≡ w.cells c.in_ok-place.place = c.cell_at.ensures.content ∙ ap (λ (v : World). v.cells c.in_ok-place.place) c.place_of.ensures.world in
    let both : None ≡ Some it.ant = sym c.in_err-ant.was ∙ ap (λ (cell : Cell). cell.ant) read ∙ it.is in
    absurd (cc)
