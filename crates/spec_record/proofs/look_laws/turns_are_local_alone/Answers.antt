use Rattle.spec_record.proofs.Patched.{turn-looked_at}
use Rattle.spec_record.proofs.look_laws.turns_are_local_alone.Goals as goal

pub returns : goal.returns
returns c = turn-looked_at
