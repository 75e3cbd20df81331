use Rattle.std.proofs.Common.{◌≡◌, ◌+◌, ◌-◌}
use Rattle.match_run.specs.Game.{counted_on}
use Rattle.match_run.specs.Inner.Windows.{WindowsPlayed}
use Rattle.match_run.proofs.windows.play_windows.Given as goal

-- some windows are played
abbrev pub invariant-loop-progress : goal.invariant-loop-progress
invariant-loop-progress g l = record {
  ready : g.C.Crew.ready l.crew;
  played : WindowsPlayed l.fn.field l.size l.from l.fn.totals l.field l.progress.next l.progress.totals;
  add_up : l.progress.totals.taken + l.progress.totals.redone ≡ l.progress.totals.turns;
  turns : g.C.Crew.played l.crew ≡ counted_on (g.C.Crew.played l.fn.crew) (l.progress.totals.turns - l.fn.totals.turns);
}

-- how many turns are left
abbrev pub decreases-loop-progress : goal.decreases-loop-progress
decreases-loop-progress g l = l.ids - l.progress.next
