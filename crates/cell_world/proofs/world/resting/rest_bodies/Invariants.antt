-- the ids so far were distinguished
use Rattle.std.proofs.Common.{◌≡◌, ◌-◌, ◌≤◌, length, take}
use Rattle.cell_world.specs.Inner.ToldApart.{ToldApart}
use Rattle.cell_world.proofs.world.resting.rest_bodies.Given as goal

abbrev pub invariant-loop-id : goal.invariant-loop-id
invariant-loop-id l =
    ToldApart l.fn.bodies l.bodies l.from l.id (take l.count l.acting) × (l.count ≤ l.id - l.from) × (length l.acting ≡ 64)
