use Rattle.std.proofs.Common.{◌≡◌, ◌*◌, ◌≤◌, ◌^◌, sum_by, take}
use Rattle.tournament.specs.Standing.{food_against}
use Rattle.tournament.proofs.tally.all_food_against.Given as goal

-- the food of the games so far
abbrev pub invariant-loop-game : goal.invariant-loop-game
invariant-loop-game l = record {
  food : l.food ≡ sum_by (food_against l.player) (take l.game-index l.games);
  small : l.food ≤ l.game-index * 2 ^ 32;
}
