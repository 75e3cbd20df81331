use Rattle.std.proofs.Common.{length}
use Rattle.ant_asm.proofs.program.+is_one_of.Given as goal

-- the names that are left
abbrev pub decreases-is_one_of : goal.decreases-is_one_of
decreases-is_one_of l = length l.names.now
