use Rattle.ant_random.proofs.JumpLemmas.{landed_one}
use Rattle.ant_random.proofs.jump.Jump.of_one.Goals as goal

pub returns-clause-one : goal.returns-clause-one
returns-clause-one g c = landed_one
