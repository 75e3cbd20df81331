-- the tiles so far are the other world's
use Rattle.std.proofs.Common.{List, drop}
use Rattle.cell_world.specs.declared.body.Body.{Body}
use Rattle.cell_world.specs.Inner.CatchUp.{Catching}
use Rattle.cell_world.proofs.world.catch_up.follow_tiles.Given as goal

abbrev pub invariant-loop-p : goal.invariant-loop-p
invariant-loop-p l =
    (old : List Body) → Catching l.width l.fn.tiles.items l.fn.tiles.items l.others.items old l.bodies.items l.bodies.items l.places →
    Catching l.width l.fn.tiles.items l.tiles.items l.others.items old l.bodies.items l.bodies.items (drop l.p-index l.places)
