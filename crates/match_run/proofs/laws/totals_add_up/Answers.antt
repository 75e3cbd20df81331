use Rattle.match_run.proofs.CountLaws.{totals_add_up}
use Rattle.match_run.proofs.laws.totals_add_up.Goals as goal

pub returns : goal.returns
returns c = totals_add_up
