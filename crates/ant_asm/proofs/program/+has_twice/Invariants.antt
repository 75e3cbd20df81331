use Rattle.std.proofs.Common.{length}
use Rattle.ant_asm.proofs.program.+has_twice.Given as goal

-- the names that are left
abbrev pub decreases-has_twice : goal.decreases-has_twice
decreases-has_twice l = length l.names.now
