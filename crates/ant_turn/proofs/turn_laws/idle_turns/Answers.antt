use Rattle.ant_turn.proofs.QuietLemmas.{after_turn-dead, after_turn-rests}
use Rattle.ant_turn.proofs.turn_laws.idle_turns.Goals as goal

pub returns : goal.returns
returns c = record { dead = after_turn-dead; resting = after_turn-rests }
