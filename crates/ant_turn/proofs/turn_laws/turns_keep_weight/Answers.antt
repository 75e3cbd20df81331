use Rattle.ant_turn.proofs.Sums.{turn-weight}
use Rattle.ant_turn.proofs.turn_laws.turns_keep_weight.Goals as goal

pub returns : goal.returns
returns c = turn-weight
