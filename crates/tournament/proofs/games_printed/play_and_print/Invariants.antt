-- the games on the worlds so far are played, and their lines pushed
use Rattle.std.proofs.Common.{length}
use Rattle.tournament.specs.Inner.Tallies.{IsTally}
use Rattle.tournament.specs.Names.{texts_of}
use Rattle.tournament.specs.Printed.{HasPrinted, first_played}
use Rattle.tournament.proofs.games_printed.play_and_print.Given as goal

abbrev pub invariant-loop-world : goal.invariant-loop-world
invariant-loop-world g l = record {
  played : IsTally (length l.players) (first_played l.format l.players l.world (g.F.Referee.score l.referee)) l.tally;
  printed : HasPrinted (g.K.Sink.state l.fn.sink) (g.K.Sink.state l.sink) l.format (texts_of l.worlds) l.players (g.F.Referee.score l.referee) l.world;
}
