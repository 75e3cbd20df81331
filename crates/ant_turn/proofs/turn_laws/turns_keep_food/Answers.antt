use Rattle.ant_turn.proofs.Sums.{turn-food}
use Rattle.ant_turn.proofs.turn_laws.turns_keep_food.Goals as goal

pub returns : goal.returns
returns c = turn-food
