use Rattle.spec_record.proofs.SameLooks.{looks_agree}
use Rattle.spec_record.proofs.look_laws.looks_agree.Goals as goal

pub returns : goal.returns
returns c = looks_agree
