use Rattle.tournament.proofs.LawsLemmas.{points_law}
use Rattle.tournament.proofs.laws.points_add_up.Goals as goal

pub returns : goal.returns
returns c = points_law
