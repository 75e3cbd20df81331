use Rattle.tournament.proofs.SortedLines.{has_standing}
use Rattle.tournament.proofs.existence.has_standing.Goals as goal

pub returns : goal.returns
returns c = has_standing
