use Rattle.match_run.proofs.RunLaws.{all_dumps}
use Rattle.match_run.proofs.laws.all_dumps.Goals as goal

pub returns : goal.returns
returns c = all_dumps
