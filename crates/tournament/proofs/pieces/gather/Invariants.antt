use Rattle.std.proofs.Common.{◌≡◌, take, All, false}
use Rattle.tournament.specs.Inner.Pieces.{played_games}
use Rattle.tournament.proofs.pieces.gather.Given as goal

-- what the pieces so far played is there, and none of their games was refused
abbrev pub invariant-loop-piece : goal.invariant-loop-piece
invariant-loop-piece l = (l.played.items ≡ played_games (take l.piece-index l.pieces)) × All (λ piece. piece.refused ≡ false) (take l.piece-index l.pieces)
