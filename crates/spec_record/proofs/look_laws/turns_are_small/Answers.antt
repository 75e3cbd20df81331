use Rattle.spec_record.proofs.Sizes.{reads-few, writes-few}
use Rattle.spec_record.proofs.look_laws.turns_are_small.Goals as goal

pub returns : goal.returns
returns c = λ minds w t valid. (reads-few minds w t valid, writes-few minds w t valid)
