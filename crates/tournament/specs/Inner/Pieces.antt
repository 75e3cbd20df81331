-- The games of a cup cut into pieces, and a piece after a worker has played it.
use Rattle.std.specs.Prelude.{◌≡◌, ℕ, List, [], map}
use Rattle.std.specs.Bool.{OnFalse}
use Rattle.std.specs.List.{flat_map}
use Rattle.cell_world.specs.declared.score.Score.{Score}
use Rattle.tournament.specs.declared.games.Pairing.{Pairing}
use Rattle.tournament.specs.declared.games.Played.{Played}
use Rattle.tournament.specs.declared.pieces.Piece.{Piece}
use Rattle.tournament.specs.Games.{played_by}
use Rattle.tournament.specs.Plays.{AreKnown}

-- the games of all pieces, one after another
abbrev pub dealt_games : List Piece → List Pairing
dealt_games pieces = flat_map (λ piece. piece.games.items) pieces

-- the games with scores of all pieces, one after another
abbrev pub played_games : List Piece → List Played
played_games pieces = flat_map (λ piece. piece.played.items) pieces

-- nothing of the piece was played, and the referee knows its games
pub record IsPieceReady (knows : ℕ → ℕ → ℕ → Type 0) (piece : Piece) : Type 0 where
  pub fresh : piece.played.items ≡ []
  pub known : AreKnown knows piece.games.items

-- all games of the old piece were played, unless one failed
abbrev pub IsPieceDone : (ℕ → ℕ → ℕ → Score) → Piece → Piece → Type 0
IsPieceDone score old new = OnFalse new.refused (new.played.items ≡ map (played_by score) old.games.items)
