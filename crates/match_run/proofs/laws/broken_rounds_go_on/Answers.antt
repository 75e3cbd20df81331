use Rattle.match_run.proofs.CountLaws.{broken_rounds_go_on}
use Rattle.match_run.proofs.laws.broken_rounds_go_on.Goals as goal

pub returns : goal.returns
returns c = broken_rounds_go_on
