use Rattle.spec_record.proofs.WritesAlone.{turn-WritesAlone}
use Rattle.spec_record.proofs.look_laws.turns_write_alone.Goals as goal

pub returns : goal.returns
returns c = turn-WritesAlone
