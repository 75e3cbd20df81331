use Rattle.std.proofs.Common.{◌+◌, ◌-◌, ℕ, arith}
use Rattle.match_run.specs.Game.{GoesOnFor}
use Rattle.match_run.proofs.PlayLemmas.{GoesOnFor-more, GoesOnFor-none, GoesOnFor-turns, counted-round, counted-start, counted-stopped, rises-rounds}
use Rattle.match_save.proofs.ResumedGames.{refused-turns}
use Rattle.match_save.proofs.going_on.play_rounds.Goals as goal

pub loop-init : goal.loop-init
loop-init g c = record {
  ready = c.requires.ready;
  at = GoesOnFor-none c.args.game.now c.requires.ends;
  turns = counted-start (g.C.Crew.played c.args.crew.now) c.args.game.now.field.world.ids (omega (arith, c.turns-count.ensures, c.turns-count.type_inv));
}

pub round-requires-clause-ready : goal.round-requires-clause-ready
round-requires-clause-ready g c = c.loop.invariant.ready

pub round-requires-clause-few : goal.round-requires-clause-few
round-requires-clause-few g c = (let done = c.loop.invariant.at.done in omega (arith, done, c.loop-test.true, c.requires.few_rounds))

pub returns-in_err-round-clause-rises : goal.returns-in_err-round-clause-rises
returns-in_err-round-clause-rises g c =
    let at = c.loop.invariant.at in
    let ids : ℕ = c.args.game.now.field.world.ids in
    let turns = refused-turns c.loop.game c.round.new.self at.next c.in_err-round.ensures.refused in
    let so_far = GoesOnFor-turns at c.window-window.ensures.sized in
    let last = turns.1 in
    let same = at.same.ids in
    rises-rounds (g.C.Crew.played c.args.crew.now) (g.C.Crew.played c.round.new.crew) c.args.game.now.totals.turns c.round.new.self.totals.turns ids c.loop.counter c.args.rounds
    (omega (arith, c.turns-count.ensures, c.turns-count.type_inv))
    (counted-stopped (g.C.Crew.played c.args.crew.now) (g.C.Crew.played c.loop.crew) (g.C.Crew.played c.round.new.crew) c.args.game.now.totals.turns c.loop.game.totals.turns c.round.new.self.totals.turns ids c.loop.counter
    c.loop.invariant.turns c.in_err-round.ensures.turns so_far turns.0)
    (omega (arith, last, so_far, same))
    c.loop-test.true

pub loop-preserved : goal.loop-preserved
loop-preserved g c =
    let old = c.loop.invariant.at in
    let next : GoesOnFor c.args.game.now c.round.new.self (c.loop.counter + 1) = GoesOnFor-more old c.round.new.self c.in_ok-round.ensures.played in
    record {
      ready = c.in_ok-round.ensures.ready;
      at = next;
      turns = counted-round (g.C.Crew.played c.args.crew.now) (g.C.Crew.played c.loop.crew) (g.C.Crew.played c.round.new.crew) c.loop.game.totals.turns c.round.new.self.totals.turns c.args.game.now.totals.turns c.args.game.now.field.world.ids c.loop.counter c.loop.invariant.turns c.in_ok-round.ensures.turns (GoesOnFor-turns old c.window-window.ensures.sized) (GoesOnFor-turns next c.window-window.ensures.sized);
    }
