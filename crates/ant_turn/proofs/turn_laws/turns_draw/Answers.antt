use Rattle.ant_turn.proofs.KeptByRounds.{after_turns-place}
use Rattle.ant_turn.proofs.turn_laws.turns_draw.Goals as goal

pub returns : goal.returns
returns c = λ minds seed m from n. ((after_turns-place minds seed m from n).from, (after_turns-place minds seed m from n).to)
