use Rattle.std.proofs.Common.{◌≡◌, ◌*◌}
use Rattle.ant_base.specs.Sink.{PushedAll}
use Rattle.match_run.specs.Dumps.{chooses}
use Rattle.match_run.specs.Game.{GoesOnFor, counted_on, now_of}
use Rattle.match_run.specs.Later.{later_dumps}
use Rattle.match_run.proofs.whole_run.play_rounds.Given as goal

-- these rounds are played, and their dumps are pushed
abbrev pub invariant-loop-more : goal.invariant-loop-more
invariant-loop-more g l = record {
  ready : g.C.Crew.ready l.crew;
  at : GoesOnFor l.fn.game l.game l.more;
  text : PushedAll (g.K.Sink.state l.fn.sink) (g.K.Sink.state l.sink) (later_dumps l.fn.game.field.minds l.fn.game.field.seed (chooses l.dumps) (now_of l.fn.game) l.fn.game.done l.more);
  turns : g.C.Crew.played l.crew ≡ counted_on (g.C.Crew.played l.fn.crew) (l.fn.game.field.world.ids * l.more);
}
