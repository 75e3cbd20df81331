use Rattle.std.proofs.Common.{◌≡◌, true}
use Rattle.ant_base.specs.Layout.{numbered}
use Rattle.ant_base.specs.Sink.{PushedAll}
use Rattle.match_run.specs.Alone.{IsPlayedOn}
use Rattle.game_reports.specs.Inner.WayWords.{broken_line, worlds_from}
use Rattle.game_reports.specs.Trace.{lives_in_first}
use Rattle.game_reports.proofs.reports.trace.push_lines.Given as goal

-- these rounds are played, in which the ant lived, and their lines are pushed
abbrev pub invariant-loop : goal.invariant-loop
invariant-loop g l = record {
  played : IsPlayedOn l.fn.game l.game l.counter;
  lives : lives_in_first (worlds_from l.fn.game) l.id l.counter ≡ true;
  text : PushedAll (g.K.Sink.state l.fn.sink) (g.K.Sink.state l.sink) (numbered (broken_line (worlds_from l.fn.game) l.id l.fn.game.done) l.counter);
}
