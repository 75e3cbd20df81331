use Rattle.std.proofs.Common.{refl}
use Rattle.ant_asm.proofs.FlatLemmas.{same_numbers}
use Rattle.ant_asm.proofs.expand.Put.spot.Goals as goal

pub returns-clause-numbers : goal.returns-clause-numbers
returns-clause-numbers c = same_numbers refl refl c.as_slice-given.ensures.value
