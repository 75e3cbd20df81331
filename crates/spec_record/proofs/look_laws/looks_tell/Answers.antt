use Rattle.spec_record.proofs.Flips.{LookHolds-Holds}
use Rattle.spec_record.proofs.Patched.{turn-patched}
use Rattle.spec_record.proofs.look_laws.looks_tell.Goals as goal

pub returns : goal.returns
returns c = λ minds seed base guess now place t goes holds. turn-patched minds seed base guess now place t goes (LookHolds-Holds minds seed base guess now place t holds)
