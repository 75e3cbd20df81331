use Rattle.std.proofs.Common.{◌≡◌, ◌++◌}
use Rattle.std.specs.List.{flat_map}
use Rattle.tournament.specs.Games.{both_ways, above}
use Rattle.tournament.proofs.games.add_pairs.Given as goal

-- the games with the players so far were added
abbrev pub invariant-loop-second : goal.invariant-loop-second
invariant-loop-second l = l.games.items ≡ l.initial.games.items ++ flat_map (both_ways l.world l.first) (above l.first l.second)
