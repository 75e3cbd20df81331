use Rattle.match_run.proofs.CountLaws.{rounds_go_on}
use Rattle.match_run.proofs.laws.rounds_go_on.Goals as goal

pub returns : goal.returns
returns c = rounds_go_on
