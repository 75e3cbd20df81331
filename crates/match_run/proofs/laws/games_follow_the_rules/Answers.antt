use Rattle.match_run.proofs.GamesByRounds.{games_follow_the_rules}
use Rattle.match_run.proofs.laws.games_follow_the_rules.Goals as goal

pub returns : goal.returns
returns c = games_follow_the_rules
