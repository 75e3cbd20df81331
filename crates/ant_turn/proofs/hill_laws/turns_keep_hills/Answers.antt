use Rattle.ant_turn.proofs.HillsKept.{turns_keep_hills}
use Rattle.ant_turn.proofs.hill_laws.turns_keep_hills.Goals as goal

pub returns : goal.returns
returns c = turns_keep_hills
