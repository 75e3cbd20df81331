use Rattle.match_run.proofs.CountLaws.{whole_rounds}
use Rattle.match_run.proofs.laws.whole_rounds.Goals as goal

pub returns : goal.returns
returns c = whole_rounds
