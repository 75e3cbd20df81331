use Rattle.std.proofs.Common.{◌≡◌}
use Rattle.tournament.specs.Games.{games_between}
use Rattle.tournament.proofs.games.games_between.Given as goal

-- the games on the worlds so far are there
abbrev pub invariant-loop-k : goal.invariant-loop-k
invariant-loop-k l = l.games.items ≡ games_between l.gauntlet l.players l.first l.k
