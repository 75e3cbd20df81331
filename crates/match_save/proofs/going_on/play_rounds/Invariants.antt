-- this many rounds were played
use Rattle.std.proofs.Common.{◌≡◌, ◌*◌}
use Rattle.match_run.specs.Game.{GoesOnFor, counted_on}
use Rattle.match_save.proofs.going_on.play_rounds.Given as goal

abbrev pub invariant-loop : goal.invariant-loop
invariant-loop g l = record {
  ready : g.C.Crew.ready l.crew;
  at : GoesOnFor l.fn.game l.game l.counter;
  turns : g.C.Crew.played l.crew ≡ counted_on (g.C.Crew.played l.fn.crew) (l.fn.game.field.world.ids * l.counter);
}
