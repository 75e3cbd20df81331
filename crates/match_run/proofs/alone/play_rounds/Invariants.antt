use Rattle.ant_base.specs.Sink.{PushedAll}
use Rattle.match_run.specs.Dumps.{chooses}
use Rattle.match_run.specs.Later.{later_dumps}
use Rattle.match_run.specs.Alone.{IsPlayedOn, standing}
use Rattle.match_run.proofs.alone.play_rounds.Given as goal

-- these rounds are played, and their dumps are pushed
abbrev pub invariant-loop-more : goal.invariant-loop-more
invariant-loop-more g l = record {
  played : IsPlayedOn l.fn.game l.game l.more;
  text : PushedAll (g.K.Sink.state l.fn.sink) (g.K.Sink.state l.sink) (later_dumps l.fn.game.minds l.fn.game.seed (chooses l.dumps) (standing l.fn.game) l.fn.game.done l.more);
}
