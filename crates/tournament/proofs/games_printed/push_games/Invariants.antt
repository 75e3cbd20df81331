-- the lines of the games so far are pushed, and the next number is known
use Rattle.std.proofs.Common.{◌≡◌, ◌+◌, take}
use Rattle.ant_base.specs.Sink.{PushedAll}
use Rattle.tournament.specs.Names.{texts_of}
use Rattle.tournament.specs.Printed.{games_text}
use Rattle.tournament.proofs.games_printed.push_games.Given as goal

abbrev pub invariant-loop-game : goal.invariant-loop-game
invariant-loop-game g l = record {
  number : l.number ≡ l.first + l.game-index;
  printed : PushedAll (g.K.Sink.state l.fn.sink) (g.K.Sink.state l.sink) (games_text l.format (texts_of l.worlds) l.players (take l.game-index l.games) l.first);
}
