use Rattle.ant_random.proofs.JumpLemmas.{landed_is}
use Rattle.ant_random.proofs.jump.Jump.land.Goals as goal

pub returns-clause-state : goal.returns-clause-state
returns-clause-state g c = landed_is c.args.self.now c.args.state
