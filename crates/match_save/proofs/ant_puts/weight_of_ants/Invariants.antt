use Rattle.std.proofs.Common.{◌≡◌, ◌+◌, ◌*◌, ◌≤◌, drop}
use Rattle.match_save.specs.Inner.AntPuts.{weight_of_ants}
use Rattle.match_save.proofs.ant_puts.weight_of_ants.Given as goal

-- those that were weighed, and those that are left
abbrev pub invariant-loop-it : goal.invariant-loop-it
invariant-loop-it l = (l.weight + weight_of_ants (drop l.it-index l.ants) ≡ weight_of_ants l.ants) × (l.weight ≤ 10 * l.it-index)
