use Rattle.spec_record.proofs.Patched.{turn-patched}
use Rattle.spec_record.proofs.look_laws.turns_are_patches.Goals as goal

pub returns : goal.returns
returns c = turn-patched
