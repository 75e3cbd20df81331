use Rattle.match_run.proofs.RunLaws.{repeat_adds_nothing}
use Rattle.match_run.proofs.laws.repeat_adds_nothing.Goals as goal

pub returns : goal.returns
returns c = repeat_adds_nothing
