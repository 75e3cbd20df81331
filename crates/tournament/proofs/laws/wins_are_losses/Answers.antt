use Rattle.tournament.proofs.LawsLemmas.{wins_law}
use Rattle.tournament.proofs.laws.wins_are_losses.Goals as goal

pub returns : goal.returns
returns c = wins_law
