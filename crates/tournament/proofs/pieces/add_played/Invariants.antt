use Rattle.std.proofs.Common.{◌≡◌, ◌++◌, map, take}
use Rattle.tournament.specs.Games.{played_by}
use Rattle.tournament.proofs.pieces.add_played.Given as goal

-- the games so far were added with their scores
abbrev pub invariant-loop-game : goal.invariant-loop-game
invariant-loop-game g l = l.played.items ≡ l.initial.played.items ++ map (played_by (g.F.Referee.score l.referee)) (take l.game-index l.games)
