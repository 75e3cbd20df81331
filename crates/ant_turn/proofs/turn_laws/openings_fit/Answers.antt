use Rattle.ant_turn.proofs.FitLemmas.{Fits-opening}
use Rattle.ant_turn.proofs.turn_laws.openings_fit.Goals as goal

pub returns : goal.returns
returns c = Fits-opening
