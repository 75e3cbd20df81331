-- one round more was played
use Rattle.std.proofs.Common.{◌≡◌, ℕ, ◌+◌, suc, arith, subst}
use Rattle.match_run.proofs.GamesByRounds.{AreRounds-played, games_follow_the_rules}
use Rattle.match_run.specs.Game.{beginning}
use Rattle.match_run.specs.GameLaws.{AreRounds, IsAtRound}
use Rattle.ant_commands.proofs.commands.played.play_game.Goals as goal

pub loop-init : goal.loop-init
loop-init g c = record { ready = c.requires.ready; rounds = c.begin-game.ensures }

pub round-requires-clause-ready : goal.round-requires-clause-ready
round-requires-clause-ready g c = c.loop.invariant.ready

pub round-requires-clause-few : goal.round-requires-clause-few
round-requires-clause-few g c =
    let at = games_follow_the_rules c.args.field c.args.window c.loop.counter c.loop.game c.requires.sized c.requires.first c.loop.invariant.rounds in
    let done = at.done in
    omega (arith, done, c.loop-test.true, c.requires.few_rounds)

pub loop-preserved : goal.loop-preserved
loop-preserved g c =
    let next : suc c.loop.counter ≡ c.loop.counter + 1 = omega arith in
    record {
      ready = c.in_ok-round.ensures.ready;
      rounds = subst (λ (r : ℕ). AreRounds r (beginning c.args.field c.args.window) c.round.new.self) next
          (AreRounds-played (beginning c.args.field c.args.window) c.loop.game c.round.new.self c.loop.counter c.loop.invariant.rounds c.in_ok-round.ensures.played);
    }

pub returns : goal.returns
returns g c =
    let all : c.loop.counter ≡ c.args.rounds = omega (arith, c.loop-test.false, c.loop.auto.counter-end) in
    subst (λ (round : ℕ). IsAtRound c.args.field c.args.window round c.loop.game) all
    (games_follow_the_rules c.args.field c.args.window c.loop.counter c.loop.game c.requires.sized c.requires.first c.loop.invariant.rounds)
