use Rattle.std.proofs.lemmas.List.Elements.{All-same}
use Rattle.tournament.specs.Inner.Pieces.{IsPieceReady}
use Rattle.tournament.proofs.PiecesLemmas.{ready_by}
use Rattle.tournament.proofs.play.play_games.Goals as goal

pub play_together-requires-clause-ready : goal.play_together-requires-clause-ready
play_together-requires-clause-ready g c = λ κs outlives.
    let knows = g.F.Referee.knows c.args.referee.now in
    All-same (IsPieceReady knows) _ _ c.deref_mut.ensures.value
    (ready_by knows c.in_ok-pieces.pieces.items (All-same (λ game. knows game.world game.red game.black) _ _ c.in_ok-pieces.ensures.games c.requires.known) c.in_ok-pieces.ensures.fresh)
