use Rattle.std.proofs.Common.{◌≡◌, ◌+◌, ◌-◌, ℕ, arith, subst}
use Rattle.std.proofs.lemmas.Result.{err_from_is_err_and}
use Rattle.ant_base.specs.Sink.{PushedAll, PushedFront, SinkState}
use Rattle.ant_base.proofs.Pushes.{all_of_nothing, all_then, front_then, front_more}
use Rattle.cell_world.specs.Grid.{Grid, world_of}
use Rattle.match_run.specs.Dumps.{chooses}
use Rattle.match_run.specs.Run.{chosen_dump}
use Rattle.match_run.specs.Alone.{IsPlayedOn, standing}
use Rattle.match_run.proofs.PlayLemmas.{later_dumps-front, later_dumps-more, later_dumps-none}
use Rattle.match_run.proofs.AloneLemmas.{IsPlayedOn-none, IsPlayedOn-then, IsPlayedOn-world}
use Rattle.match_run.proofs.alone.play_rounds.Goals as goal

pub loop-more-init : goal.loop-more-init
loop-more-init g c =
    let game = c.args.game.now in
    record {
      played = IsPlayedOn-none game;
      text = rw (later_dumps-none game.minds game.seed (chooses c.args.dumps.now) (standing game) game.done) (all_of_nothing (g.K.Sink.state c.args.sink.now));
    }

pub loop-more-preserved : goal.loop-more-preserved
loop-more-preserved g c =
    let game = c.args.game.now in
    let more = c.loop-more.more in
    let chosen = chooses c.args.dumps.now in
    let next : IsPlayedOn game c.round.new.self (more + 1) = IsPlayedOn-then c.loop-more.invariant.played c.round.new.self 1 c.round.ensures in
    record {
      played = next;
      text = rw (later_dumps-more game.minds game.seed chosen (standing game) game.done more, ← IsPlayedOn-world next) (all_then _ _ _ _ _ c.loop-more.invariant.text
          (subst (λ (w : Grid). PushedAll (g.K.Sink.state c.loop-more.sink) (g.K.Sink.state c.push_chosen.new.sink) (chosen_dump chosen (world_of w) (game.done + more + 1))) c.world.ensures
          (subst (λ (done : ℕ). PushedAll (g.K.Sink.state c.loop-more.sink) (g.K.Sink.state c.push_chosen.new.sink) (chosen_dump chosen (world_of c.world.result.now) (done + more + 1))) c.done-done.ensures.done c.in_ok-push_chosen.ensures)));
    }

pub returns-in_err-push_chosen-clause-text : goal.returns-in_err-push_chosen-clause-text
returns-in_err-push_chosen-clause-text g c =
    let game = c.args.game.now in
    let more = c.loop-more.more in
    let chosen = chooses c.args.dumps.now in
    let p = err_from_is_err_and c.from_residual.result c.from_residual.ensures.1 in
    let next : IsPlayedOn game c.round.new.self (more + 1) = IsPlayedOn-then c.loop-more.invariant.played c.round.new.self 1 c.round.ensures in
    let rest = later_dumps-front game.minds game.seed chosen (standing game) game.done (more + 1) (c.args.rounds - game.done) (omega (arith, c.loop-more-test.true, c.done-done.ensures.done)) in
    rw (p.1, rest.1, later_dumps-more game.minds game.seed chosen (standing game) game.done more, ← IsPlayedOn-world next)
    (front_more _ _ _ _ (front_then _ _ _ _ _ c.loop-more.invariant.text
    (subst (λ (w : Grid). PushedFront (g.K.Sink.state c.loop-more.sink) (g.K.Sink.state c.push_chosen.new.sink) (chosen_dump chosen (world_of w) (game.done + more + 1))) c.world.ensures
    (subst (λ (done : ℕ). PushedFront (g.K.Sink.state c.loop-more.sink) (g.K.Sink.state c.push_chosen.new.sink) (chosen_dump chosen (world_of c.world.result.now) (done + more + 1))) c.done-done.ensures.done c.in_err-push_chosen.ensures))))

pub returns-in_err-push_chosen-clause-stopped : goal.returns-in_err-push_chosen-clause-stopped
returns-in_err-push_chosen-clause-stopped g c =
    let more = c.loop-more.more in
    let now = c.round.new.self in
    let chosen = chooses c.args.dumps.now in
    let mid : SinkState = g.K.Sink.state c.loop-more.sink in
    let p = err_from_is_err_and c.from_residual.result c.from_residual.ensures.1 in
    let next : IsPlayedOn c.args.game.now now (more + 1) = IsPlayedOn-then c.loop-more.invariant.played now 1 c.round.ensures in
    let done = next.done in
    let behind : c.done-done.result + more + 1 ≡ now.done = omega (arith, done, c.done-done.ensures.done) in
    rw p.1 (record {
      shown = more;
      left = omega (arith, c.loop-more-test.true, c.done-done.ensures.done);
      played = next;
      mid = mid;
      before = c.loop-more.invariant.text;
      failed =
          subst (λ (w : Grid). PushedFront mid (g.K.Sink.state c.push_chosen.new.sink) (chosen_dump chosen (world_of w) now.done)) c.world.ensures
          (subst (λ (n : ℕ). PushedFront mid (g.K.Sink.state c.push_chosen.new.sink) (chosen_dump chosen (world_of c.world.result.now) n)) behind c.in_err-push_chosen.ensures);
    })
