use Rattle.tournament.proofs.PiecesLemmas.{gathered_done}
use Rattle.tournament.proofs.fork.play_together.Goals as goal

pub returns : goal.returns
returns g c =
    gathered_done c.gather.result (g.F.Referee.score c.args.referee.now) c.args.pieces.now c.play_pieces.new.pieces c.play_pieces.ensures.len c.play_pieces.ensures.done c.gather.ensures.played c.gather.ensures.whole
