-- The rounds so far rise. So all rounds rise exactly if those that are left do, above the last one so far.
use Rattle.std.proofs.Common.{◌↔◌, ◌+◌, ◌≤◌, drop}
use Rattle.match_run.specs.Run.{most_rounds}
use Rattle.ants_c.specs.Looked.{AreRising}
use Rattle.ants_c.proofs.look.are_rising.Given as goal

abbrev pub invariant-loop-round : goal.invariant-loop-round
invariant-loop-round l = (AreRising 0 l.fn.rounds ↔ AreRising l.least (drop l.round-index l.fn.rounds)) × (l.least ≤ most_rounds + 1)
