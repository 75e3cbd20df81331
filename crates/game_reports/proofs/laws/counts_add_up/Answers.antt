use Rattle.game_reports.proofs.CountLaws.{counts_add_up}
use Rattle.game_reports.proofs.laws.counts_add_up.Goals as goal

pub returns : goal.returns
returns c = counts_add_up
