use Rattle.std.proofs.Common.{◌≡◌, ◌+◌, All, length, map, take}
use Rattle.tournament.specs.Inner.Tallies.{IsSmall, with_games}
use Rattle.tournament.proofs.tally.lines_with.Given as goal

-- the lines so far are there with the games
abbrev pub invariant-loop-line : goal.invariant-loop-line
invariant-loop-line l = record {
  lines : l.more.items ≡ map (with_games l.games) (take l.line-index l.lines);
  small : All (IsSmall (l.before + length l.games)) l.more.items;
}
