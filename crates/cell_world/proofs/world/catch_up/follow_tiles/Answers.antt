use Rattle.std.proofs.Common.{get_or, arith}
use Rattle.std.proofs.lemmas.List.Elements.{Contains-get_or}
use Rattle.hex_geometry.specs.declared.position.Pos.{Pos}
use Rattle.cell_world.proofs.CatchUpLemmas.{Catching-end, Catching-tile}
use Rattle.cell_world.proofs.world.catch_up.follow_tiles.Goals as goal

pub loop-p-preserved : goal.loop-p-preserved
loop-p-preserved c = λ old start.
    let here : Pos = get_or c.args.places.now c.loop-p.p-index (record { x = 0; y = 0 }) in
    Catching-tile c.args.width c.args.tiles.now.items c.loop-p.tiles.items c.args.others.now.items old c.args.bodies.now.items c.args.places.now c.loop-p.p-index c.index_of-i.result (record { x = 0; y = 0 }) c.index.result.now
    c.loop-p-test.true
    (c.requires.inside here (Contains-get_or c.args.places.now c.loop-p.p-index (record { x = 0; y = 0 }) c.loop-p-test.true))
    c.requires.all_tiles
    (c.loop-p.invariant old start)
    c.index_of-i.ensures
    c.index.ensures

pub returns : goal.returns
returns c = λ old start.
    Catching-end c.args.width c.args.tiles.now.items c.loop-p.tiles.items c.args.others.now.items old c.args.bodies.now.items c.args.bodies.now.items c.args.places.now c.loop-p.p-index
    (omega (arith, c.loop-p-test.false)) (c.loop-p.invariant old start)
