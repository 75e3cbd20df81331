use Rattle.std.proofs.Common.{◌≡◌, ◌+◌, ◌-◌, ◌*◌, ◌≤◌, ℕ, List, ◌++◌, append_assoc, subst, sym, arith}
use Rattle.std.proofs.lemmas.Result.{err_from_is_err_and}
use Rattle.ant_base.proofs.Pushes.{all_of_nothing, all_then}
use Rattle.match_run.specs.Dumps.{chooses}
use Rattle.match_run.specs.Game.{GoesOnFor, counted_on, now_of}
use Rattle.ant_base.specs.Sink.{PushedAll}
use Rattle.cell_world.specs.Grid.{world_of}
use Rattle.match_run.specs.Run.{chosen_dump}
use Rattle.match_run.specs.Inner.Rounds.{RoundStopped}
use Rattle.match_run.specs.Later.{later_dumps}
use Rattle.match_run.proofs.PlayLemmas.{GoesOnFor-more, GoesOnFor-none, GoesOnFor-turns, GoesOnFor-world, RoundStopped-turns, RoundsStop-shown, counted-round, counted-start, counted-stopped, rises-all, rises-rounds, later_dumps-front, later_dumps-more, later_dumps-none, stopped-shown}
use Rattle.match_run.proofs.LaterLaws.{some_then}
use Rattle.match_run.proofs.whole_run.play_rounds.Goals as goal

pub loop-more-init : goal.loop-more-init
loop-more-init g c =
    let game = c.args.game.now in
    record {
      ready = c.requires.ready;
      at = GoesOnFor-none game c.requires.ends;
      text = rw (later_dumps-none game.field.minds game.field.seed (chooses c.args.dumps.now) (now_of game) game.done) (all_of_nothing (g.K.Sink.state c.args.sink.now));
      turns = counted-start (g.C.Crew.played c.args.crew.now) game.field.world.ids (omega (arith, c.turns-count.ensures, c.turns-count.type_inv));
    }

pub returns-in_err-play_round-clause-text : goal.returns-in_err-play_round-clause-text
returns-in_err-play_round-clause-text g c =
    let game = c.args.game.now in
    let more = c.loop-more.more in
    let chosen = chooses c.args.dumps.now in
    let p = err_from_is_err_and c.from_residual.result c.from_residual.ensures.1 in
    let rest = later_dumps-front game.field.minds game.field.seed chosen (now_of game) game.done (more + 1) (c.args.rounds - game.done) (omega (arith, c.loop-more-test.true, c.done-done.ensures.done)) in
    let so_far : List ℕ = later_dumps game.field.minds game.field.seed chosen (now_of game) game.done (more + 1) in
    rw (p.1, p.2) (λ tail some. rw (rest.1, append_assoc so_far rest.0 tail)
    (stopped-shown (g.K.Sink.state c.args.sink.now) (g.K.Sink.state c.loop-more.sink) (g.K.Sink.state c.play_round.new.sink) chosen c.loop-more.invariant.at c.play_round.new.game c.in_err-play_round.field-0.0 c.loop-more.invariant.text
    (subst (λ (done : ℕ). RoundStopped c.loop-more.game c.play_round.new.game chosen (done + more + 1) (g.K.Sink.state c.loop-more.sink) (g.K.Sink.state c.play_round.new.sink) c.in_err-play_round.field-0.0) c.done-done.ensures.done c.in_err-play_round.ensures.shown) (rest.0 ++ tail) (some_then rest.0 tail some)))

pub returns-in_err-play_round-clause-stopped : goal.returns-in_err-play_round-clause-stopped
returns-in_err-play_round-clause-stopped g c =
    let chosen = chooses c.args.dumps.now in
    let p = err_from_is_err_and c.from_residual.result c.from_residual.ensures.1 in
    rw (p.1, p.2)
    (RoundsStop-shown c.play_round.new.game (c.args.rounds - c.args.game.now.done) chosen (g.K.Sink.state c.args.sink.now) (g.K.Sink.state c.loop-more.sink) (g.K.Sink.state c.play_round.new.sink) c.in_err-play_round.field-0.0
    (omega (arith, c.loop-more-test.true, c.done-done.ensures.done)) c.loop-more.invariant.at c.loop-more.invariant.text
    (subst (λ (done : ℕ). RoundStopped c.loop-more.game c.play_round.new.game chosen (done + c.loop-more.more + 1) (g.K.Sink.state c.loop-more.sink) (g.K.Sink.state c.play_round.new.sink) c.in_err-play_round.field-0.0) c.done-done.ensures.done c.in_err-play_round.ensures.shown))

pub returns-in_err-play_round-clause-counted : goal.returns-in_err-play_round-clause-counted
returns-in_err-play_round-clause-counted g c =
    let at = c.loop-more.invariant.at in
    let sized = subst (λ (window : ℕ). 1 ≤ window) (sym at.same.window) c.window-window.ensures.sized in
    let turns = RoundStopped-turns c.loop-more.game c.play_round.new.game (chooses c.args.dumps.now) (c.done-done.result + c.loop-more.more + 1) (g.K.Sink.state c.loop-more.sink) (g.K.Sink.state c.play_round.new.sink) c.in_err-play_round.field-0.0 at.next sized c.in_err-play_round.ensures.shown in
    counted-stopped (g.C.Crew.played c.args.crew.now) (g.C.Crew.played c.loop-more.crew) (g.C.Crew.played c.play_round.new.crew) c.args.game.now.totals.turns c.loop-more.game.totals.turns c.play_round.new.game.totals.turns c.args.game.now.field.world.ids c.loop-more.more
    c.loop-more.invariant.turns c.in_err-play_round.ensures.turns (GoesOnFor-turns at c.window-window.ensures.sized) turns.0

pub returns-in_err-play_round-clause-rises : goal.returns-in_err-play_round-clause-rises
returns-in_err-play_round-clause-rises g c =
    let at = c.loop-more.invariant.at in
    let ids : ℕ = c.args.game.now.field.world.ids in
    let sized = subst (λ (window : ℕ). 1 ≤ window) (sym at.same.window) c.window-window.ensures.sized in
    let turns = RoundStopped-turns c.loop-more.game c.play_round.new.game (chooses c.args.dumps.now) (c.done-done.result + c.loop-more.more + 1) (g.K.Sink.state c.loop-more.sink) (g.K.Sink.state c.play_round.new.sink) c.in_err-play_round.field-0.0 at.next sized c.in_err-play_round.ensures.shown in
    let so_far = GoesOnFor-turns at c.window-window.ensures.sized in
    let last = turns.1 in
    let same = at.same.ids in
    rises-rounds (g.C.Crew.played c.args.crew.now) (g.C.Crew.played c.play_round.new.crew) c.args.game.now.totals.turns c.play_round.new.game.totals.turns ids c.loop-more.more (c.args.rounds - c.args.game.now.done)
    (omega (arith, c.turns-count.ensures, c.turns-count.type_inv))
    (counted-stopped (g.C.Crew.played c.args.crew.now) (g.C.Crew.played c.loop-more.crew) (g.C.Crew.played c.play_round.new.crew) c.args.game.now.totals.turns c.loop-more.game.totals.turns c.play_round.new.game.totals.turns ids c.loop-more.more
    c.loop-more.invariant.turns c.in_err-play_round.ensures.turns so_far turns.0)
    (omega (arith, last, so_far, same))
    (omega (arith, c.loop-more-test.true, c.done-done.ensures.done))

pub returns-clause-counted : goal.returns-clause-counted
returns-clause-counted g c =
    let turns = GoesOnFor-turns c.loop-more.invariant.at c.window-window.ensures.sized in
    omega (arith, c.loop-more.invariant.turns, turns)

pub returns-clause-rises : goal.returns-clause-rises
returns-clause-rises g c =
    let ids : ℕ = c.args.game.now.field.world.ids in
    let low = c.loop-more-test.false in
    let high = c.loop-more.auto.more-end in
    let all : c.loop-more.more ≡ c.args.rounds - c.args.game.now.done = omega (arith, low, high, c.done-done.ensures.done) in
    rises-all (g.C.Crew.played c.args.crew.now) (g.C.Crew.played c.loop-more.crew) ids (c.args.rounds - c.args.game.now.done) (omega (arith, c.turns-count.ensures, c.turns-count.type_inv))
    (subst (λ (n : ℕ). g.C.Crew.played c.loop-more.crew ≡ counted_on (g.C.Crew.played c.args.crew.now) (ids * n)) all c.loop-more.invariant.turns)

pub loop-more-preserved : goal.loop-more-preserved
loop-more-preserved g c =
    let game = c.args.game.now in
    let more = c.loop-more.more in
    let chosen = chooses c.args.dumps.now in
    let old = c.loop-more.invariant.at in
    let next : GoesOnFor game c.play_round.new.game (more + 1) = GoesOnFor-more old c.play_round.new.game c.in_ok-play_round.ensures.shown.0 in
    record {
      ready = c.in_ok-play_round.ensures.ready;
      at = next;
      text = rw (later_dumps-more game.field.minds game.field.seed chosen (now_of game) game.done more, ← GoesOnFor-world next) (all_then _ _ _ _ _ c.loop-more.invariant.text
          (subst (λ (done : ℕ). PushedAll (g.K.Sink.state c.loop-more.sink) (g.K.Sink.state c.play_round.new.sink) (chosen_dump chosen (world_of c.play_round.new.game.field.world) (done + more + 1))) c.done-done.ensures.done c.in_ok-play_round.ensures.shown.1));
      turns = counted-round (g.C.Crew.played c.args.crew.now) (g.C.Crew.played c.loop-more.crew) (g.C.Crew.played c.play_round.new.crew) c.loop-more.game.totals.turns c.play_round.new.game.totals.turns game.totals.turns game.field.world.ids more c.loop-more.invariant.turns c.in_ok-play_round.ensures.turns (GoesOnFor-turns old c.window-window.ensures.sized) (GoesOnFor-turns next c.window-window.ensures.sized);
    }
