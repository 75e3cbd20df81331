use Rattle.match_run.proofs.GamesByRounds.{games_go_on_by_rounds}
use Rattle.match_run.proofs.laws.games_go_on_by_rounds.Goals as goal

pub returns : goal.returns
returns c = games_go_on_by_rounds
