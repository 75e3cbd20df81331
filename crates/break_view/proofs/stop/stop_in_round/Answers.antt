use Rattle.std.proofs.Common.{◌≡◌, ◌+◌, ◌-◌, ℕ, sym, ◌∙◌, subst, refl, arith}
use Rattle.ant_turn.specs.Minds.{minds_of}
use Rattle.match_run.specs.Inner.Alone.{moment_from}
use Rattle.match_run.proofs.AloneLemmas.{IsTaken, IsTaken-none, IsTaken-place, IsTaken-ids, IsTaken-more, IsTaken-all}
use Rattle.cell_world.specs.Grid.{world_of}
use Rattle.break_view.specs.Inner.Rounds.{IsQuiet}
use Rattle.break_view.proofs.WatchedRounds.{quiet-none, quiet-more, met-taken}
use Rattle.break_view.proofs.QuietTurns.{still_quiet}
use Rattle.break_view.proofs.stop.stop_in_round.Goals as goal
use Rattle.break_view.proofs.stop.stop_in_round.Goals.{After-met_now}

-- one turn more was taken
taken : (c : After-met_now) → IsTaken (minds_of c.args.brains) c.args.world.now c.args.stream.now (c.loop-id.id + 1) c.take_watched-same.new.world c.take_watched-same.new.stream
taken c = IsTaken-more c.loop-id.invariant.taken _ _ c.take_watched-same.ensures.world c.take_watched-same.ensures.stream c.take_watched-same.ensures.fit

pub loop-id-init : goal.loop-id-init
loop-id-init c = record {
  taken = IsTaken-none (minds_of c.args.brains) c.args.world.now c.args.stream.now c.requires.fit;
  scored = c.requires.score;
  quiet = quiet-none (minds_of c.args.brains) c.args.stream.now.seed (moment_from c.args.world.now c.args.stream.now) c.args.watch.items.now c.args.round;
}

pub take_watched-same-requires-clause-fit : goal.take_watched-same-requires-clause-fit
take_watched-same-requires-clause-fit c = c.loop-id.invariant.taken.fits

pub take_watched-same-requires-clause-id : goal.take_watched-same-requires-clause-id
take_watched-same-requires-clause-id c = omega (arith, IsTaken-ids c.loop-id.invariant.taken, c.ant_count-id-end.ensures.ids, c.loop-id-test.true)

pub take_watched-same-requires-clause-place : goal.take_watched-same-requires-clause-place
take_watched-same-requires-clause-place c =
    omega (arith, IsTaken-place c.loop-id.invariant.taken, c.ant_count-id-end.ensures.ids, c.ant_count-id-end.ensures.world.valid.few, c.loop-id-test.true, c.requires.place)

pub returns-in-Some-clause-end : goal.returns-in-Some-clause-end
returns-in-Some-clause-end c =
    let now = taken (goal.at.returns-in-Some-clause-end c).After-met_now in
    record {
      round = refl;
      made = omega (arith, c.ant_count-id-end.ensures.ids, c.loop-id-test.true);
      met = met-taken c.args.watch.items.now c.args.round c.loop-id.id now ∙ sym c.met_now.ensures ∙ c.in-Some.is;
      quiet = c.loop-id.invariant.quiet;
      moment = now.moment;
    }

pub returns-in-Some-clause-seed : goal.returns-in-Some-clause-seed
returns-in-Some-clause-seed c = (taken (goal.at.returns-in-Some-clause-seed c).After-met_now).seed

pub returns-in-Some-clause-place : goal.returns-in-Some-clause-place
returns-in-Some-clause-place c =
    let now = taken (goal.at.returns-in-Some-clause-place c).After-met_now in
    omega (arith, IsTaken-place now, c.ant_count-id-end.ensures.ids, c.ant_count-id-end.ensures.world.valid.few, c.loop-id-test.true)

pub loop-id-preserved : goal.loop-id-preserved
loop-id-preserved c =
    let now = taken (goal.at.loop-id-preserved c).After-met_now in
    record {
      taken = now;
      scored = c.take_watched-same.ensures.score;
      quiet = quiet-more (minds_of c.args.brains) c.args.stream.now.seed (moment_from c.args.world.now c.args.stream.now) c.args.watch.items.now c.args.round c.loop-id.id
          c.loop-id.invariant.quiet (met-taken c.args.watch.items.now c.args.round c.loop-id.id now ∙ sym c.met_now.ensures ∙ c.in_default.is);
    }

pub returns-clause-end : goal.returns-clause-end
returns-clause-end c =
    let all : c.loop-id.id ≡ c.args.world.now.ids = omega (arith, c.ant_count-id-end.ensures.ids, c.loop-id-test.false, c.loop-id.auto.id-end) in
    record {
      quiet = subst (IsQuiet (minds_of c.args.brains) c.args.stream.now.seed (moment_from c.args.world.now c.args.stream.now) c.args.watch.items.now c.args.round) all c.loop-id.invariant.quiet;
      moment = IsTaken-all c.loop-id.invariant.taken all;
    }

pub returns-clause-seed : goal.returns-clause-seed
returns-clause-seed c = c.loop-id.invariant.taken.seed

pub returns-clause-place : goal.returns-clause-place
returns-clause-place c =
    let all : c.loop-id.id ≡ c.args.world.now.ids = omega (arith, c.ant_count-id-end.ensures.ids, c.loop-id-test.false, c.loop-id.auto.id-end) in
    omega (arith, IsTaken-place c.loop-id.invariant.taken, all, c.ant_count-id-end.ensures.world.valid.few)

pub returns-clause-fit : goal.returns-clause-fit
returns-clause-fit c = c.loop-id.invariant.taken.fits

pub met_now-requires-clause-quiet : goal.met_now-requires-clause-quiet
met_now-requires-clause-quiet c = λ same above.
    let before : c.loop-id.id ≡ (c.loop-id.id - 1) + 1 = omega (arith, above) in
    let taken : IsTaken (minds_of c.args.brains) c.args.world.now c.args.stream.now ((c.loop-id.id - 1) + 1) c.loop-id.world c.loop-id.stream =
    subst (λ (n : ℕ). IsTaken (minds_of c.args.brains) c.args.world.now c.args.stream.now n c.loop-id.world c.loop-id.stream) before c.loop-id.invariant.taken in
    still_quiet c.args.watch.items.now (world_of c.loop-id.world) (world_of c.take_watched-same.new.world) c.args.round (c.loop-id.id - 1) c.loop-id.id (c.take_watched-same.ensures.same same)
    (sym (met-taken c.args.watch.items.now c.args.round (c.loop-id.id - 1) taken) ∙ c.loop-id.invariant.quiet (c.loop-id.id - 1) (omega (arith, above)))
