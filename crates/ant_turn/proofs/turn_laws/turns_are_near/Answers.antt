use Rattle.ant_turn.proofs.KillLemmas.{turn-own}
use Rattle.ant_turn.proofs.MarksKept.{turn-marks}
use Rattle.ant_turn.proofs.QuietLemmas.{turn-elsewhere, turn-spared, turn-stayed}
use Rattle.ant_turn.proofs.turn_laws.turns_are_near.Goals as goal

pub returns : goal.returns
returns c = record { cells = turn-elsewhere; spared = turn-spared; stayed = turn-stayed; own = turn-own; marks = turn-marks }
