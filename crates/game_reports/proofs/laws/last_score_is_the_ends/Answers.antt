use Rattle.game_reports.proofs.ScoreLaws.{last_score_is_the_ends}
use Rattle.game_reports.proofs.laws.last_score_is_the_ends.Goals as goal

pub returns : goal.returns
returns c = last_score_is_the_ends
