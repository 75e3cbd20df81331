use Rattle.match_run.proofs.RunLaws.{later_adds_nothing}
use Rattle.match_run.proofs.laws.later_adds_nothing.Goals as goal

pub returns : goal.returns
returns c = later_adds_nothing
