use Rattle.match_run.proofs.RunLaws.{same_rounds}
use Rattle.match_run.proofs.laws.same_rounds.Goals as goal

pub returns : goal.returns
returns c = same_rounds
