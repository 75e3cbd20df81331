use Rattle.spec_record.proofs.Patched.{later-GoesOn, turn-looked_at}
use Rattle.spec_record.proofs.look_laws.turns_are_local.Goals as goal

pub returns : goal.returns
returns c = λ minds seed base guess now place t later holds. turn-looked_at minds seed base guess now place t (later-GoesOn minds base now t later) holds
