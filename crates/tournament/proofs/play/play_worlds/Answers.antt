-- the games on these worlds can be played, and what was played has their scores
use Rattle.std.proofs.Common.{List, ◌∙◌, arith, subst}
use Rattle.tournament.specs.Plays.{ArePlayed}
use Rattle.tournament.specs.declared.games.Pairing.{Pairing}
use Rattle.tournament.proofs.PiecesLemmas.{can_play_between}
use Rattle.tournament.proofs.play.play_worlds.Goals as goal

pub play-requires : goal.play-requires
play-requires g c =
    c.requires.plays.may c.args.referee c.deref.result c.args.workers
    (can_play_between (g.F.Referee.knows c.args.referee.now) c.args.gauntlet c.args.players c.args.first c.args.count c.args.workers c.deref.result.now (omega arith) c.requires.worlds.0 c.requires.workers.0 c.requires.workers.1
    (c.deref.ensures.value ∙ c.in_ok-games.ensures) c.requires.known)

pub returns : goal.returns
returns g c =
    let games = c.deref.ensures.value ∙ c.in_ok-games.ensures in
    let can =
    can_play_between (g.F.Referee.knows c.args.referee.now) c.args.gauntlet c.args.players c.args.first c.args.count c.args.workers c.deref.result.now (omega arith) c.requires.worlds.0 c.requires.workers.0 c.requires.workers.1 games c.requires.known in
    subst (λ (all : List Pairing). ArePlayed (g.F.Referee.score c.args.referee.now) all c.play.result) games (c.requires.plays.plays c.args.referee c.deref.result c.args.workers c.play.result can c.play.ensures)
