use Rattle.match_run.proofs.RunLaws.{no_dumps}
use Rattle.match_run.proofs.laws.no_dumps.Goals as goal

pub returns : goal.returns
returns c = no_dumps
