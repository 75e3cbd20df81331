-- the cell and the neighbours so far are blocked
use Rattle.std.proofs.Common.{true}
use Rattle.world_gen.proofs.draft.block_round.Given as goal
use Rattle.world_gen.specs.Inner.Sets.{IsRoundBelow, SetsWhere}

abbrev pub invariant-loop-number : goal.invariant-loop-number
invariant-loop-number l = SetsWhere l.width l.height true (IsRoundBelow l.p l.number) l.fn.blocked l.blocked
