use Rattle.match_run.proofs.LaterLaws.{runs_go_on}
use Rattle.match_run.proofs.laws.runs_go_on.Goals as goal

pub returns : goal.returns
returns c = runs_go_on
