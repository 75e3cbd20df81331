-- what is kept of all positions but those that are left is as in the other world
use Rattle.std.proofs.Common.{drop}
use Rattle.cell_world.specs.Inner.CatchUp.{Catching}
use Rattle.cell_world.proofs.world.catch_up.follow.Given as goal

abbrev pub invariant-loop-p : goal.invariant-loop-p
invariant-loop-p l = Catching l.width l.fn.tiles.items l.tiles.items l.others.items l.fn.bodies.items l.bodies.items l.other_bodies.items (drop l.p-index l.places)
