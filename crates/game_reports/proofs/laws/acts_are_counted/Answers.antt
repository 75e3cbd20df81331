use Rattle.game_reports.proofs.ActLaws.{acts_are_counted}
use Rattle.game_reports.proofs.laws.acts_are_counted.Goals as goal

pub returns : goal.returns
returns c = acts_are_counted
