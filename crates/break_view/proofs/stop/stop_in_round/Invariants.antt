use Rattle.ant_turn.specs.Minds.{minds_of}
use Rattle.break_view.proofs.WatchedRounds.{IsWatching}
use Rattle.break_view.proofs.stop.stop_in_round.Given as goal

-- this many turns were taken, and no break held after any of them
abbrev pub invariant-loop-id : goal.invariant-loop-id
invariant-loop-id l = IsWatching (minds_of l.brains) l.watch.items.now l.round l.initial.world l.initial.stream l.id l.world l.stream l.score
