-- these rounds are played, and after none of them the ant carries food
use Rattle.match_run.specs.Game.{GoesOnFor, now_of}
use Rattle.ant_turn.specs.Rounds.{after_rounds}
use Rattle.sample_caller.specs.Watched.{MeetsNone, is_laden}
use Rattle.sample_caller.proofs.watched.first_laden.Given as goal

abbrev pub invariant-loop-done : goal.invariant-loop-done
invariant-loop-done l = record {
  at : GoesOnFor l.initial.game l.game l.done;
  none : MeetsNone (λ round. is_laden l.id (after_rounds l.initial.game.field.minds l.initial.game.field.seed (now_of l.initial.game) round).world) l.done;
}
