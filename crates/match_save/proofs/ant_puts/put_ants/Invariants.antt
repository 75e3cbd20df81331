use Rattle.std.proofs.Common.{drop}
use Rattle.match_save.specs.Inner.Puts.{PutsOn}
use Rattle.match_save.proofs.ant_puts.put_ants.Given as goal

abbrev pub invariant-loop-it : goal.invariant-loop-it
invariant-loop-it l = PutsOn l.fn.world l.world l.ants (drop l.it-index l.ants)
