use Rattle.ant_turn.proofs.KeptByRounds.{Keeps-after_rounds}
use Rattle.ant_turn.proofs.turn_laws.rounds_keep.Goals as goal

pub returns : goal.returns
returns c = Keeps-after_rounds
