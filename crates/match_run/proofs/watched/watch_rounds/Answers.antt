use Rattle.std.proofs.Common.{◌≡◌, ◌+◌, ◌*◌, Ok, Err, arith}
use Rattle.ant_turn.specs.Minds.{minds_of}
use Rattle.ant_turn.specs.Rounds.{after_rounds}
use Rattle.cell_world.specs.Limits.{most_ants}
use Rattle.match_run.specs.Watch.{moment_of}
use Rattle.match_run.proofs.WatchLemmas.{IsWatched-broken, IsWatched-none, IsWatched-rounds, ready-fewer, err_is}
use Rattle.match_run.proofs.watched.watch_rounds.Goals as goal

pub loop-done-init : goal.loop-done-init
loop-done-init g c = IsWatched-none (c.requires.fair 0) (minds_of c.args.brains.now) (g.W.On.Ground.world c.args.board.now) c.args.stream.now c.args.log.now c.requires.fit

pub watch_round-requires-clause-fit : goal.watch_round-requires-clause-fit
watch_round-requires-clause-fit g c = c.loop-done.invariant.stands.fit

pub watch_round-requires-clause-place : goal.watch_round-requires-clause-place
watch_round-requires-clause-place g c = omega (arith, c.loop-done.invariant.place, c.loop-done-test.true, c.requires.place)

pub watch_round-requires-clause-ready : goal.watch_round-requires-clause-ready
watch_round-requires-clause-ready g c =
    c.loop-done.invariant.room most_ants (ready-fewer (c.requires.fair 0) (minds_of c.args.brains.now) c.args.log.now (c.args.rounds * most_ants) (most_ants + c.loop-done.done * most_ants) c.requires.ready
    (omega (arith, c.loop-done-test.true)))

pub returns-in_err-watch_round : goal.returns-in_err-watch_round
returns-in_err-watch_round g c =
    let minds = minds_of c.args.brains.now in
    let fair = c.requires.fair 0 in
    let tell = g.W.Watch.telling c.args.watch.now minds in
    let p = err_is c.from_residual.result c.in_err-watch_round.field-0.0 c.from_residual.ensures.1 in
    rw p
    (IsWatched-broken fair minds tell c.args.stream.now (g.W.On.Ground.world c.args.board.now) (c.loop-done.done + 1) (IsWatched-rounds fair minds tell c.args.stream.now (g.W.On.Ground.world c.args.board.now) c.loop-done.done c.loop-done.invariant (Err c.in_err-watch_round.field-0.0) c.in_err-watch_round.ensures)
    c.args.rounds (omega (arith, c.loop-done-test.true)) (c.args.rounds * most_ants)
    (after_rounds minds c.args.stream.now.seed (moment_of (g.W.On.Ground.world c.args.board.now) c.args.stream.now) c.args.rounds))

pub loop-done-preserved : goal.loop-done-preserved
loop-done-preserved g c =
    let minds = minds_of c.args.brains.now in
    IsWatched-rounds (c.requires.fair 0) minds (g.W.Watch.telling c.args.watch.now minds) c.args.stream.now (g.W.On.Ground.world c.args.board.now) c.loop-done.done c.loop-done.invariant (Ok tt) c.in_ok-watch_round.ensures

pub returns : goal.returns
returns g c =
    let all : c.args.rounds ≡ c.loop-done.done = omega (arith, c.loop-done-test.false, c.loop-done.auto.done-end) in
    rw all c.loop-done.invariant
