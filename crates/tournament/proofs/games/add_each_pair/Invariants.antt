use Rattle.std.proofs.Common.{◌≡◌, ◌++◌}
use Rattle.std.specs.List.{flat_map}
use Rattle.tournament.specs.Games.{below, games_with}
use Rattle.tournament.proofs.games.add_each_pair.Given as goal

-- the games of the players so far with those of higher numbers were added
abbrev pub invariant-loop-first : goal.invariant-loop-first
invariant-loop-first l = l.games.items ≡ l.initial.games.items ++ flat_map (games_with l.players l.world) (below l.first)
