use Rattle.ant_turn.proofs.RenumberedTurns.{turn-renumbered, turn-numbered}
use Rattle.ant_turn.proofs.renumber_laws.turns_renumber.Goals as goal

pub returns : goal.returns
returns c = record { commutes = turn-renumbered; keeps = turn-numbered }
