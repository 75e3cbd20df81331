use Rattle.std.proofs.Common.{◌≡◌, [], All, map}
use Rattle.tournament.specs.Games.{below}
use Rattle.tournament.specs.Inner.Tallies.{IsSmall}
use Rattle.tournament.specs.Standing.{line_of}
use Rattle.tournament.proofs.tally.Tally.new.Given as goal

-- the lines of the players so far are there
abbrev pub invariant-loop-player : goal.invariant-loop-player
invariant-loop-player l = record {
  lines : l.lines.items ≡ map (line_of []) (below l.player);
  small : All (IsSmall 0) l.lines.items;
}
