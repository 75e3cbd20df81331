use Rattle.match_run.proofs.RunLaws.{goes_on}
use Rattle.match_run.proofs.laws.goes_on.Goals as goal

pub returns : goal.returns
returns c = goes_on
