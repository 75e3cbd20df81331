use Rattle.game_reports.proofs.DeathLaws.{deaths_are_the_dead}
use Rattle.game_reports.proofs.laws.deaths_are_the_dead.Goals as goal

pub returns : goal.returns
returns c = deaths_are_the_dead
