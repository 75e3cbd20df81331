use Rattle.std.proofs.Common.{◌≡◌, length}
use Rattle.match_save.specs.Inner.Answered.{behind}
use Rattle.match_save.specs.Inner.Reading.{ants_from, read_ants}
use Rattle.match_save.proofs.ants.read_ants.Given as goal

-- the ants that are left, after those that were read, are all ants
abbrev pub invariant-loop-ants : goal.invariant-loop-ants
invariant-loop-ants l =
    read_ants l.width l.height l.fn.lines ≡ behind l.ants.items (ants_from l.width l.height l.lines.items l.least l.lines.number)

abbrev pub decreases-loop-ants : goal.decreases-loop-ants
decreases-loop-ants l = length l.lines.items
