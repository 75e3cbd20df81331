use Rattle.std.proofs.Common.{◌-◌, ◌≤◌, Ok}
use Rattle.ant_turn.specs.Minds.{minds_of}
use Rattle.ant_turn.specs.Rounds.{after_turns}
use Rattle.match_run.specs.Told.{told_in_turns}
use Rattle.match_run.specs.Watch.{IsWatched, moment_of}
use Rattle.match_run.proofs.watched.watch_round.Given as goal

-- the turns of the ids so far were watched
abbrev pub invariant-loop-from : goal.invariant-loop-from
invariant-loop-from g l =
    let minds = minds_of l.brains in
    let w = g.W.On.Ground.world l.initial.board in
    IsWatched (g.W.Watch.logs l.watch) (g.W.Watch.ready l.watch minds) minds l.initial.stream l.initial.log l.log
    (told_in_turns (g.W.Watch.telling l.watch minds l.initial.stream.seed l.round) minds l.initial.stream.seed (moment_of w l.initial.stream) 0 l.from) l.from
    (after_turns minds l.initial.stream.seed (moment_of w l.initial.stream) 0 l.from) (g.W.On.Ground.world l.board) l.stream (Ok tt)
    × (l.from ≤ l.ids)

-- how many ids are left
abbrev pub decreases-loop-from : goal.decreases-loop-from
decreases-loop-from g l = l.ids - l.from
