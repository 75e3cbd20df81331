use Rattle.std.proofs.Common.{◌*◌, Ok}
use Rattle.ant_turn.specs.Minds.{minds_of}
use Rattle.ant_turn.specs.Rounds.{after_rounds}
use Rattle.cell_world.specs.Limits.{most_ants}
use Rattle.match_run.specs.Told.{told_in_rounds}
use Rattle.match_run.specs.Watch.{IsWatched, moment_of}
use Rattle.match_run.proofs.watched.watch_rounds.Given as goal

-- these rounds were watched
abbrev pub invariant-loop-done : goal.invariant-loop-done
invariant-loop-done g l =
    let minds = minds_of l.brains in
    let w = g.W.On.Ground.world l.initial.board in
    IsWatched (g.W.Watch.logs l.watch) (g.W.Watch.ready l.watch minds) minds l.initial.stream l.initial.log l.log
    (told_in_rounds (g.W.Watch.telling l.watch minds l.initial.stream.seed) minds l.initial.stream.seed (moment_of w l.initial.stream) l.done) (l.done * most_ants)
    (after_rounds minds l.initial.stream.seed (moment_of w l.initial.stream) l.done) (g.W.On.Ground.world l.board) l.stream (Ok tt)
