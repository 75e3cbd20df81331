use Rattle.ant_turn.proofs.RenumberedTurns.{after_rounds-renumbered, after_rounds-numbered}
use Rattle.ant_turn.proofs.renumber_laws.rounds_renumber.Goals as goal

pub returns : goal.returns
returns c = record { commutes = after_rounds-renumbered; keeps = after_rounds-numbered }
