use Rattle.ant_turn.proofs.KeptByTurns.{Keeps-turn}
use Rattle.ant_turn.proofs.turn_laws.turns_keep.Goals as goal

pub returns : goal.returns
returns c = Keeps-turn
