use Rattle.ant_turn.specs.Minds.{minds_of}
use Rattle.cell_world.specs.Grid.{world_of}
use Rattle.break_view.proofs.WatchedRounds.{IsWatched}
use Rattle.break_view.proofs.stop.find_stop_from.Given as goal

-- this many rounds were played, and no break held after any of their turns that is looked at
abbrev pub invariant-loop-round : goal.invariant-loop-round
invariant-loop-round l = IsWatched (minds_of l.brains) l.seed l.from (world_of l.fn.world) l.breaks l.round l.world l.stream l.score
