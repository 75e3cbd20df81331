use Rattle.ant_turn.proofs.HillsKept.{games_keep_hills}
use Rattle.ant_turn.proofs.hill_laws.games_keep_hills.Goals as goal

pub returns : goal.returns
returns c = games_keep_hills
