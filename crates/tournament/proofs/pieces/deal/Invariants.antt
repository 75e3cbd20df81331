use Rattle.std.proofs.Common.{◌≡◌, ◌*◌, ◌/◌, take, All, []}
use Rattle.tournament.specs.Inner.Pieces.{dealt_games}
use Rattle.tournament.proofs.pieces.deal.Given as goal

-- the pieces so far are the games up to their border, and nothing of them was played
abbrev pub invariant-loop-k : goal.invariant-loop-k
invariant-loop-k l = record {
  games : dealt_games l.pieces.items ≡ take (l.k * l.count / l.workers) l.games;
  fresh : All (λ piece. piece.played.items ≡ []) l.pieces.items;
}
