-- the first ids have their ants, and what is after them stays
use Rattle.std.proofs.Common.{◌≡◌, ◌++◌, drop, map}
use Rattle.std.specs.List.{range_with_len}
use Rattle.cell_world.specs.Grid.{world_of}
use Rattle.ants_c.specs.Looked.{seen_ant}
use Rattle.ants_c.proofs.look.put_ants.Given as goal

abbrev pub invariant-loop-id : goal.invariant-loop-id
invariant-loop-id l = l.room ≡ map (seen_ant (world_of l.world)) (range_with_len 0 l.id) ++ drop l.id l.fn.room
