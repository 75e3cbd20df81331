use Rattle.std.proofs.Common.{[]}
use Rattle.cell_world.specs.declared.ant.Colour.{Colour}
use Rattle.game_reports.specs.Inner.Tallies.{IsTallied}
use Rattle.game_reports.proofs.tally.none_counted.Given as goal

-- there are this many
abbrev pub invariant-loop : goal.invariant-loop
invariant-loop l = (colour : Colour) → IsTallied colour l.counter [] l.tallies.items
