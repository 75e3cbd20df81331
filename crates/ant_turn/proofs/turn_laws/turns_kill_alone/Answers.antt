use Rattle.ant_turn.proofs.KillLemmas.{turn-KillsAlone}
use Rattle.ant_turn.proofs.turn_laws.turns_kill_alone.Goals as goal

pub returns : goal.returns
returns c = turn-KillsAlone
