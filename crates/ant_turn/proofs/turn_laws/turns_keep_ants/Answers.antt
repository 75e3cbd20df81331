use Rattle.ant_turn.proofs.Sums.{turn-living}
use Rattle.ant_turn.proofs.turn_laws.turns_keep_ants.Goals as goal

pub returns : goal.returns
returns c = turn-living
