use Rattle.std.proofs.Common.{◌≡◌, ◌+◌, ◌-◌, false, is_none, refl, sym, ◌∙◌, ap, subst, arith}
use Rattle.std.proofs.lemmas.Result.{err_from_is_err_and}
use Rattle.ant_base.specs.Sink.{Pushed, PushedAll, PushedFront}
use Rattle.ant_base.proofs.Numbered.{numbered-front, numbered-none}
use Rattle.ant_base.proofs.Pushes.{all_of_nothing, all_then, front_more, front_then, pushed_then}
use Rattle.cell_world.specs.World.{place_in}
use Rattle.match_run.proofs.AloneLemmas.{IsPlayedOn-none, IsPlayedOn-then}
use Rattle.game_reports.specs.Inner.WayWords.{broken_line, told_of, words_of, worlds_from}
use Rattle.game_reports.specs.declared.reports.trace.ToldRound.{ToldRound}
use Rattle.game_reports.specs.Trace.{lives_in_first}
use Rattle.game_reports.proofs.WayLines.{broken-dead, broken-more, last-dead, lives-more, not_last-lives, told-played}
use Rattle.game_reports.proofs.reports.trace.push_lines.Goals as goal

pub loop-init : goal.loop-init
loop-init g c =
    let game = c.args.game.now in
    record {
      played = IsPlayedOn-none game;
      lives = refl;
      text = rw (numbered-none (broken_line (worlds_from game) c.args.id game.done)) (all_of_nothing (g.K.Sink.state c.args.sink.now));
    }

pub returns-in_err-push_to : goal.returns-in_err-push_to
returns-in_err-push_to g c =
    let first = c.args.game.now in
    let id = c.args.id in
    let k = c.loop.counter in
    let p = err_from_is_err_and c.from_residual.result c.from_residual.ensures.1 in
    let told : c.of-told.result ≡ told_of (worlds_from first k) (first.done + k) (place_in (worlds_from first k) id) =
    c.of-told.ensures ∙ told-played c.loop.invariant.played id c.world.result.now c.done.result c.world.ensures c.done.ensures.done in
    let rest = numbered-front (broken_line (worlds_from first) id first.done) (k + 1) (c.args.rounds + 1 - first.done) (omega (arith, c.loop-test.true, c.done-from.ensures.done)) in
    rw (p.1, rest.1, broken-more (worlds_from first) id first.done k c.loop.invariant.lives)
    (front_more _ _ _ _ (front_then _ _ _ _ _ c.loop.invariant.text
    (subst (λ (line : ToldRound). PushedFront (g.K.Sink.state c.loop.sink) (g.K.Sink.state c.push_to.new.sink) (words_of line)) told c.in_err-push_to.ensures)))

pub returns-then-is_last : goal.returns-then-is_last
returns-then-is_last g c =
    let first = c.args.game.now in
    let id = c.args.id in
    let k = c.loop.counter in
    let told : c.of-told.result ≡ told_of (worlds_from first k) (first.done + k) (place_in (worlds_from first k) id) =
    c.of-told.ensures ∙ told-played c.loop.invariant.played id c.world.result.now c.done.result c.world.ensures c.done.ensures.done in
    let dead : lives_in_first (worlds_from first) id (k + 1) ≡ false =
    lives-more (worlds_from first) id k c.loop.invariant.lives
    ∙ last-dead (worlds_from first k) (first.done + k) (place_in (worlds_from first k) id) (ap (λ (line : ToldRound). is_none line.cell) (sym told) ∙ sym c.is_last.ensures ∙ c.if-is_last.true) in
    let all : c.args.rounds + 1 - first.done ≡ (k + 1) + (c.args.rounds - first.done - k) = omega (arith, c.loop-test.true, c.done-from.ensures.done) in
    rw (all, broken-dead (worlds_from first) id first.done (k + 1) (c.args.rounds - first.done - k) dead, broken-more (worlds_from first) id first.done k c.loop.invariant.lives)
    (all_then _ _ _ _ _ c.loop.invariant.text
    (subst (λ (line : ToldRound). PushedAll (g.K.Sink.state c.loop.sink) (g.K.Sink.state c.push_to.new.sink) (words_of line)) told c.in_ok-push_to.ensures))

pub loop-preserved : goal.loop-preserved
loop-preserved g c =
    let first = c.args.game.now in
    let id = c.args.id in
    let k = c.loop.counter in
    let told : c.of-told.result ≡ told_of (worlds_from first k) (first.done + k) (place_in (worlds_from first k) id) =
    c.of-told.ensures ∙ told-played c.loop.invariant.played id c.world.result.now c.done.result c.world.ensures c.done.ensures.done in
    record {
      played = IsPlayedOn-then c.loop.invariant.played c.round.new.self 1 c.round.ensures;
      lives =
          lives-more (worlds_from first) id k c.loop.invariant.lives
          ∙ not_last-lives (worlds_from first k) (first.done + k) (place_in (worlds_from first k) id) (ap (λ (line : ToldRound). is_none line.cell) (sym told) ∙ sym c.is_last.ensures ∙ c.if-is_last.false);
      text = rw (broken-more (worlds_from first) id first.done k c.loop.invariant.lives) (all_then _ _ _ _ _ c.loop.invariant.text
          (subst (λ (line : ToldRound). PushedAll (g.K.Sink.state c.loop.sink) (g.K.Sink.state c.push_to.new.sink) (words_of line)) told c.in_ok-push_to.ensures));
    }

pub returns : goal.returns
returns g c =
    let first = c.args.game.now in
    let id = c.args.id in
    let k = c.loop.counter in
    let told : c.of.result ≡ told_of (worlds_from first k) (first.done + k) (place_in (worlds_from first k) id) =
    c.of.ensures ∙ told-played c.loop.invariant.played id c.world-2.result.now c.done-2.result c.world-2.ensures c.done-2.ensures.done in
    let all : c.args.rounds + 1 - first.done ≡ k + 1 = omega (arith, c.requires.left, c.loop-test.false, c.loop.auto.counter-end, c.done-from.ensures.done) in
    rw (all, broken-more (worlds_from first) id first.done k c.loop.invariant.lives)
    (pushed_then _ _ _ _ _ c.push_to-2.result c.loop.invariant.text
    (subst (λ (line : ToldRound). Pushed (g.K.Sink.state c.loop.sink) (g.K.Sink.state c.push_to-2.new.sink) (words_of line) c.push_to-2.result) told c.push_to-2.ensures))
