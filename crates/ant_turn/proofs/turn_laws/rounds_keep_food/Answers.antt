use Rattle.ant_turn.proofs.FoodByRounds.{after_rounds-food}
use Rattle.ant_turn.proofs.turn_laws.rounds_keep_food.Goals as goal

pub returns : goal.returns
returns c = after_rounds-food
