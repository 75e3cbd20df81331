use Rattle.ant_turn.proofs.HillsKept.{rounds_keep_hills}
use Rattle.ant_turn.proofs.hill_laws.rounds_keep_hills.Goals as goal

pub returns : goal.returns
returns c = rounds_keep_hills
