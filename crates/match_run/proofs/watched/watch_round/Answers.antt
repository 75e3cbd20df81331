use Rattle.std.proofs.Common.{◌-◌, ℕ, Ok, Err, arith}
use Rattle.ant_turn.specs.Minds.{minds_of}
use Rattle.ant_turn.specs.Rounds.{after_round}
use Rattle.cell_world.specs.Limits.{most_ants}
use Rattle.match_run.specs.Watch.{moment_of}
use Rattle.match_run.proofs.WatchLemmas.{IsWatched-ended, IsWatched-none, IsWatched-round, IsWatched-turns, IsAtMoment-ids, ready-fewer, err_is}
use Rattle.match_run.proofs.watched.watch_round.Goals as goal

pub loop-from-init : goal.loop-from-init
loop-from-init g c = (IsWatched-none (c.requires.fair 0) (minds_of c.args.brains.now) (g.W.On.Ground.world c.args.board.now) c.args.stream.now c.args.log.now c.requires.fit, omega arith)

pub watch_chunk-requires-clause-fit : goal.watch_chunk-requires-clause-fit
watch_chunk-requires-clause-fit g c = c.loop-from.invariant.0.stands.fit

pub watch_chunk-requires-clause-made : goal.watch_chunk-requires-clause-made
watch_chunk-requires-clause-made g c = omega (arith, c.min-to.ensures, IsAtMoment-ids (g.W.On.Ground.world c.args.board.now) c.loop-from.from c.loop-from.invariant.0.stands, c.ids-ids.ensures.ids)

pub watch_chunk-requires-clause-place : goal.watch_chunk-requires-clause-place
watch_chunk-requires-clause-place g c = omega (arith, c.min-to.ensures, c.loop-from.invariant.0.place, c.ids-ids.ensures.ids, c.ids-ids.ensures.valid.few, c.loop-from-test.true, c.requires.place)

pub watch_chunk-requires-clause-ready : goal.watch_chunk-requires-clause-ready
watch_chunk-requires-clause-ready g c =
    c.loop-from.invariant.0.room (c.min-to.result - c.loop-from.from) (ready-fewer (c.requires.fair 0) (minds_of c.args.brains.now) c.args.log.now most_ants _ c.requires.ready
    (omega (arith, c.min-to.ensures, c.ids-ids.ensures.ids, c.ids-ids.ensures.valid.few, c.loop-from-test.true)))

pub returns-in_err-watch_chunk : goal.returns-in_err-watch_chunk
returns-in_err-watch_chunk g c =
    let minds = minds_of c.args.brains.now in
    let fair = c.requires.fair 0 in
    let tell = λ (seed : ℕ). g.W.Watch.telling c.args.watch.now minds seed c.args.round in
    let p = err_is c.from_residual.result c.in_err-watch_chunk.field-0.0 c.from_residual.ensures.1 in
    rw p
    (IsWatched-ended fair minds tell c.args.stream.now (g.W.On.Ground.world c.args.board.now) (IsWatched-turns fair minds tell c.args.stream.now (g.W.On.Ground.world c.args.board.now) c.loop-from.invariant.0 c.min-to.result (omega (arith, c.min-to.ensures, c.loop-from-test.true)) (Err c.in_err-watch_chunk.field-0.0) c.in_err-watch_chunk.ensures)
    (g.W.On.Ground.world c.args.board.now).ids (omega (arith, c.min-to.ensures, c.ids-ids.ensures.ids))
    most_ants (after_round minds c.args.stream.now.seed (moment_of (g.W.On.Ground.world c.args.board.now) c.args.stream.now)))

pub loop-from-preserved : goal.loop-from-preserved
loop-from-preserved g c =
    let minds = minds_of c.args.brains.now in (
      IsWatched-turns (c.requires.fair 0) minds (λ seed. g.W.Watch.telling c.args.watch.now minds seed c.args.round) c.args.stream.now (g.W.On.Ground.world c.args.board.now) c.loop-from.invariant.0 c.min-to.result (omega (arith, c.min-to.ensures, c.loop-from-test.true)) (Ok tt) c.in_ok-watch_chunk.ensures,
      omega (arith, c.min-to.ensures),
    )

pub returns : goal.returns
returns g c =
    let minds = minds_of c.args.brains.now in
    IsWatched-round (c.requires.fair 0) minds (λ seed. g.W.Watch.telling c.args.watch.now minds seed c.args.round) c.args.stream.now (g.W.On.Ground.world c.args.board.now) c.loop-from.invariant.0
    (omega (arith, c.loop-from.invariant.1, c.ids-ids.ensures.ids, c.loop-from-test.false)) c.ids-ids.ensures.valid.few
