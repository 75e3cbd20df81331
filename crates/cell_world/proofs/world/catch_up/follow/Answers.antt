use Rattle.std.proofs.Common.{ℕ, get_or, Option, arith, subst}
use Rattle.std.proofs.lemmas.List.Elements.{Contains-get_or}
use Rattle.hex_geometry.specs.declared.position.Pos.{Pos}
use Rattle.cell_world.specs.Inner.CatchUp.{Followed}
use Rattle.cell_world.proofs.CatchUpLemmas.{Catching-end, Catching-go}
use Rattle.cell_world.proofs.world.catch_up.follow.Goals as goal

pub loop-p-preserved : goal.loop-p-preserved
loop-p-preserved c =
    let here : Pos = get_or c.args.places.now c.loop-p.p-index (record { x = 0; y = 0 }) in
    Catching-go c.args.width c.args.tiles.now.items c.loop-p.tiles.items c.args.others.now.items c.args.bodies.now.items c.loop-p.bodies.items c.follow_body.new.bodies.items c.follow_body-in-loop-p.new.bodies.items c.args.other_bodies.now.items
    c.args.places.now c.loop-p.p-index c.index_of-i.result (record { x = 0; y = 0 }) c.index-tile.result.now c.id-before.result c.index.result.now
    c.loop-p-test.true
    (c.requires.inside here (Contains-get_or c.args.places.now c.loop-p.p-index (record { x = 0; y = 0 }) c.loop-p-test.true))
    c.requires.all_tiles
    c.loop-p.invariant
    c.index_of-i.ensures
    c.index-tile.ensures
    c.index.ensures
    c.id-before.ensures
    c.follow_body.ensures
    (subst (λ (o : Option ℕ). Followed c.follow_body.new.bodies.items c.follow_body-in-loop-p.new.bodies.items c.args.other_bodies.now.items o) c.id.ensures c.follow_body-in-loop-p.ensures)

pub returns : goal.returns
returns c =
    Catching-end c.args.width c.args.tiles.now.items c.loop-p.tiles.items c.args.others.now.items c.args.bodies.now.items c.loop-p.bodies.items c.args.other_bodies.now.items c.args.places.now c.loop-p.p-index
    (omega (arith, c.loop-p-test.false)) c.loop-p.invariant
