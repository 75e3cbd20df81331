use Rattle.std.proofs.Common.{arith}
use Rattle.tournament.specs.Standing.{is_won, is_lost, is_drawn}
use Rattle.tournament.proofs.StandingLemmas.{count_within, counted, counted_fits, few_counted, line_is, points_fit, twice_fits}
use Rattle.tournament.proofs.tally.line_of.Goals as goal

pub overflow_add-won : goal.overflow_add-won
overflow_add-won c =
    counted_fits (is_won c.args.player) c.args.games.now c.loop-game.game-index _ c.loop-game.won c.from-won.result c.is_won.result
    c.requires.few c.loop-game-test.true c.loop-game.invariant.won c.is_won.ensures c.from-won.ensures

pub overflow_add-drawn : goal.overflow_add-drawn
overflow_add-drawn c =
    counted_fits (is_drawn c.args.player) c.args.games.now c.loop-game.game-index _ c.loop-game.drawn c.from-drawn.result c.is_drawn.result
    c.requires.few c.loop-game-test.true c.loop-game.invariant.drawn c.is_drawn.ensures c.from-drawn.ensures

pub overflow_add-lost : goal.overflow_add-lost
overflow_add-lost c =
    counted_fits (is_lost c.args.player) c.args.games.now c.loop-game.game-index _ c.loop-game.lost c.from-lost.result c.is_lost.result
    c.requires.few c.loop-game-test.true c.loop-game.invariant.lost c.is_lost.ensures c.from-lost.ensures

pub loop-game-preserved : goal.loop-game-preserved
loop-game-preserved c = record {
  won = counted (is_won c.args.player) c.args.games.now c.loop-game.game-index _ c.loop-game.won c.from-won.result c.is_won.result c.loop-game-test.true c.loop-game.invariant.won c.is_won.ensures c.from-won.ensures;
  drawn = counted (is_drawn c.args.player) c.args.games.now c.loop-game.game-index _ c.loop-game.drawn c.from-drawn.result c.is_drawn.result c.loop-game-test.true c.loop-game.invariant.drawn c.is_drawn.ensures c.from-drawn.ensures;
  lost = counted (is_lost c.args.player) c.args.games.now c.loop-game.game-index _ c.loop-game.lost c.from-lost.result c.is_lost.result c.loop-game-test.true c.loop-game.invariant.lost c.is_lost.ensures c.from-lost.ensures;
}

pub overflow_mul-result : goal.overflow_mul-result
overflow_mul-result c = twice_fits c.loop-game.won (few_counted (is_won c.args.player) c.args.games.now c.loop-game.game-index c.loop-game.won c.requires.few c.loop-game.invariant.won)

pub overflow_add-result : goal.overflow_add-result
overflow_add-result c =
    points_fit c.loop-game.won c.loop-game.drawn
    (few_counted (is_won c.args.player) c.args.games.now c.loop-game.game-index c.loop-game.won c.requires.few c.loop-game.invariant.won)
    (few_counted (is_drawn c.args.player) c.args.games.now c.loop-game.game-index c.loop-game.drawn c.requires.few c.loop-game.invariant.drawn)

pub returns-clause-is : goal.returns-clause-is
returns-clause-is c =
    line_is c.args.games.now c.args.player c.loop-game.game-index c.loop-game.won c.loop-game.drawn c.loop-game.lost c.all_food_for.result c.all_food_against.result c.loop-game-test.false
    c.loop-game.invariant.won c.loop-game.invariant.drawn c.loop-game.invariant.lost c.all_food_for.ensures.is c.all_food_against.ensures.is

pub returns-clause-small : goal.returns-clause-small
returns-clause-small c =
    let won = count_within (is_won c.args.player) c.args.games.now c.loop-game.game-index c.loop-game.won c.loop-game.invariant.won in
    let drawn = count_within (is_drawn c.args.player) c.args.games.now c.loop-game.game-index c.loop-game.drawn c.loop-game.invariant.drawn in
    let lost = count_within (is_lost c.args.player) c.args.games.now c.loop-game.game-index c.loop-game.lost c.loop-game.invariant.lost in
    record { points = omega arith; won = won; drawn = drawn; lost = lost; food_for = c.all_food_for.ensures.small; food_against = c.all_food_against.ensures.small }
