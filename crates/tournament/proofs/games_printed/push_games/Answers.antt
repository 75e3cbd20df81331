use Rattle.std.proofs.Common.{arith}
use Rattle.std.proofs.lemmas.Result.{err_from_is_err_and}
use Rattle.ant_base.proofs.Pushes.{all_of_nothing}
use Rattle.tournament.specs.Names.{texts_of}
use Rattle.tournament.proofs.PrintedLemmas.{line_pushed, line_stopped}
use Rattle.tournament.proofs.games_printed.push_games.Goals as goal

pub loop-game-init : goal.loop-game-init
loop-game-init g c = record { number = omega arith; printed = all_of_nothing _ }

pub loop-game-preserved : goal.loop-game-preserved
loop-game-preserved g c = record {
  number = omega (arith, c.loop-game.invariant.number);
  printed = line_pushed c.args.format (texts_of c.args.worlds.now) c.args.players.now c.args.games.now c.loop-game.game-index c.args.first c.loop-game.number _ (g.K.Sink.state c.args.sink.now) (g.K.Sink.state c.loop-game.sink) (g.K.Sink.state c.push_game.new.sink)
      c.loop-game-test.true c.loop-game.invariant.number c.loop-game.invariant.printed c.in_ok-push_game.ensures;
}

pub returns-in_err-push_game : goal.returns-in_err-push_game
returns-in_err-push_game g c =
    let p = err_from_is_err_and c.from_residual.result c.from_residual.ensures.1 in
    rw p.1
    (line_stopped c.args.format (texts_of c.args.worlds.now) c.args.players.now c.args.games.now c.loop-game.game-index c.args.first c.loop-game.number _ (g.K.Sink.state c.args.sink.now) (g.K.Sink.state c.loop-game.sink) (g.K.Sink.state c.push_game.new.sink)
    c.loop-game-test.true c.loop-game.invariant.number c.loop-game.invariant.printed c.in_err-push_game.ensures)
