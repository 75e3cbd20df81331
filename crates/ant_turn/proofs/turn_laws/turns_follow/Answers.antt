use Rattle.ant_turn.proofs.KeptByRounds.{after_rounds-then, after_turns-then}
use Rattle.ant_turn.proofs.turn_laws.turns_follow.Goals as goal

pub returns : goal.returns
returns c = record { turns = after_turns-then; rounds = after_rounds-then }
