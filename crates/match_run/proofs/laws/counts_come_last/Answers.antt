use Rattle.match_run.proofs.CountLaws.{counts_come_last}
use Rattle.match_run.proofs.laws.counts_come_last.Goals as goal

pub returns : goal.returns
returns c = counts_come_last
