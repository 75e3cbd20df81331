use Rattle.tournament.proofs.LawsLemmas.{standing_law}
use Rattle.tournament.proofs.laws.one_standing.Goals as goal

pub returns : goal.returns
returns c = standing_law
