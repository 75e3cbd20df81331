use Rattle.match_run.proofs.GamesByRounds.{games_keep_their_hills}
use Rattle.match_run.proofs.laws.games_keep_their_hills.Goals as goal

pub returns : goal.returns
returns c = games_keep_their_hills
