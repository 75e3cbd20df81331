use Rattle.std.proofs.Common.{take}
use Rattle.std.specs.List.{flat_map}
use Rattle.ant_base.specs.Sink.{PushedAll}
use Rattle.game_reports.specs.Inner.EventWords.{told_death}
use Rattle.game_reports.proofs.reports.events.push_each_death.Given as goal

-- the lines of the first of them are pushed
abbrev pub invariant-loop-killed : goal.invariant-loop-killed
invariant-loop-killed g l = PushedAll (g.K.Sink.state l.initial.sink) (g.K.Sink.state l.sink) (flat_map (told_death l.turn.round l.turn.actor) (take l.killed-index l.dead))
